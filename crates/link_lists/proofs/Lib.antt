pub mod Times
pub mod Written
pub mod Grids
pub mod Cuts
pub mod Follow
pub mod Lists

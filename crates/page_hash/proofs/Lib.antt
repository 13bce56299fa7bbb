pub mod Filed
pub mod Homes
pub mod Follow

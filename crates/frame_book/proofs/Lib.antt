pub mod Times
pub mod Counted
pub mod Order
pub mod Turns

pub mod Telling
pub mod Used

pub mod Fixes
pub mod Lists
pub mod Tells
pub mod Used

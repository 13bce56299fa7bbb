pub mod Rows
pub mod Seen
pub mod Appends
pub mod Conditions
pub mod Plain

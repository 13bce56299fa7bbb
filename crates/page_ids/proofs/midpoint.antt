pub mod Renaming
pub mod Counts
pub mod Order

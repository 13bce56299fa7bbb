pub mod View
pub mod Parts
pub mod Sublists
pub mod Inside

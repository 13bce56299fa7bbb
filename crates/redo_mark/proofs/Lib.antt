pub mod Fields
pub mod Wholes
pub mod Refusals
pub mod Slices
pub mod Telling
pub mod Chains
pub mod Marks

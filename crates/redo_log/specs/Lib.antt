pub mod Story
pub mod Marks
pub mod Passes
pub mod Homes
pub mod Turns
pub mod Ends

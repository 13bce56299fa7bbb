pub mod Todo
pub mod Openings
pub mod Work
pub mod Several
pub mod Workers
pub mod Ends
pub mod Runs
pub mod Plain

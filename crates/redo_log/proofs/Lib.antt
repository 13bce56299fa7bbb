pub mod Views
pub mod Pieces
pub mod Keeps
pub mod Agreement
pub mod Closing

pub mod Places
pub mod Order
pub mod Frames
pub mod Kept

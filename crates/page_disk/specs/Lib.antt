pub mod Streams
pub mod Disks
pub mod Shelves
pub mod Calls
pub mod MemoryStreams
pub mod MemoryDisks

pub mod Device
pub mod Memory
pub mod Records
pub mod Reading
pub mod Logs
pub mod Pending

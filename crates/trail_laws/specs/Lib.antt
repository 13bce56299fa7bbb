pub mod Accounts
pub mod SoFar
pub mod Adding
pub mod Ending

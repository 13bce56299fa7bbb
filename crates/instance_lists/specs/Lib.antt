pub mod Ledger
pub mod KeptLists
pub mod Walk

pub mod Grid
pub mod Chains
pub mod Cuts
pub mod IndexLists
pub mod Inside

pub mod Cycles
pub mod Ends

pub mod Journal
pub mod Cycles

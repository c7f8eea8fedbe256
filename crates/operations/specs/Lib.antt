pub mod Ends
pub mod Trace

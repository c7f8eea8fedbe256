pub mod Ends
pub mod Identify

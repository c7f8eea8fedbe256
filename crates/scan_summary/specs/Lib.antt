pub mod Summary
pub mod Quick
pub mod Depth

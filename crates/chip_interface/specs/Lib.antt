pub mod Interface
pub mod Refused

pub mod Lengths
pub mod Refused

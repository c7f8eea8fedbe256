pub mod Device
pub mod Refused

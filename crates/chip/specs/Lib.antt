pub mod Chip
pub mod Refused

pub mod Dearest
pub mod Exactly

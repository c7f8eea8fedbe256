pub mod Fills
pub mod Format

pub mod Stored
pub mod After
pub mod Knows
pub mod Remembered

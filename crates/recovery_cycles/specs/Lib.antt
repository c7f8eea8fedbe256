pub mod Starts
pub mod Spared
pub mod Silent

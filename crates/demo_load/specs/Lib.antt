pub mod Lines
pub mod Load

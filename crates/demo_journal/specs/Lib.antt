pub mod Lines
pub mod Sales

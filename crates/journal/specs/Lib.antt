pub mod Records
pub mod Takings

pub mod Outcomes
pub mod Polling

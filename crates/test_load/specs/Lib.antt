pub mod Draws
pub mod Requests

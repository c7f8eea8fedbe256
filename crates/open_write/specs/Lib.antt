pub mod Open
pub mod Requests

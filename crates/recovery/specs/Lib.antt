pub mod Book
pub mod Copy
pub mod Calls
pub mod Recovery

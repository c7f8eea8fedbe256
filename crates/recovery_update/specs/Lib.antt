pub mod Older
pub mod Found

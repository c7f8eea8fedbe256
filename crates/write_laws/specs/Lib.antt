pub mod Changing
pub mod Unready

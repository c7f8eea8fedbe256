pub mod Found
pub mod Contents
pub mod Told

pub mod Independent
pub mod Reads
pub mod Unready
pub mod Meaning

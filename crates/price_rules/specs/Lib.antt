pub mod Rules
pub mod Faults
pub mod Told
pub mod Meaning

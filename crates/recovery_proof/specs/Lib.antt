pub mod Invariant
pub mod Answers
pub mod Sent
pub mod Acknowledged
pub mod Protected
pub mod Told

pub mod Dearest
pub mod Identify
pub mod Ledger
pub mod Library
pub mod Opened

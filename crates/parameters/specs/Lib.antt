pub mod Crc
pub mod Page

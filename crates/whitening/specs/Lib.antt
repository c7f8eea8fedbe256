pub mod Stream
pub mod Whitened

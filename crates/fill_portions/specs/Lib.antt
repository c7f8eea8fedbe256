pub mod Portions
pub mod Same
pub mod Programs

pub mod Again
pub mod Carries
pub mod Spares

pub mod Pages
pub mod Gathered
pub mod Mark

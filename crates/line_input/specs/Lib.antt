pub mod Fields
pub mod Input

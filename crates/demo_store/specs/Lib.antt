-- The definitions of the small chip.
pub mod Small

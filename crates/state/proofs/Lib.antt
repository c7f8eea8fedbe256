pub mod MountedLaws
pub mod StateLaws
pub mod TakenLaws
pub mod NumberLaws
pub mod HeldLaws

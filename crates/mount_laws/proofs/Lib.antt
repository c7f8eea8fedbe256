pub mod StateLaws
pub mod MountingLaws

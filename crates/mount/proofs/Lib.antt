pub mod EndLaws
pub mod MountLaws

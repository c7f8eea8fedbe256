pub mod LimitLaws
pub mod ShiftLaws
pub mod SizeLaws

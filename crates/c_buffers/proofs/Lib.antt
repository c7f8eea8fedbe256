pub mod BufferLaws
pub mod InterfaceLaws
pub mod SizeLaws

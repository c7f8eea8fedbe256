pub mod OpenBytes

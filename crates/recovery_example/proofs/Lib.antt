pub mod CutWriteTests

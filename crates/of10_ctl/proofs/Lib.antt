pub mod Reading
pub mod Cutting
pub mod Standing
pub mod Answering
pub mod Whole
pub mod Patched

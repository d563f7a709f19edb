pub mod Cleaned
pub mod Staying

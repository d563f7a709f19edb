pub mod Actions
pub mod Faults
pub mod Reading

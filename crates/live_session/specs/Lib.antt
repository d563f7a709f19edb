pub mod Stretches
pub mod Takings
pub mod Links

pub mod Operates
pub mod Turns

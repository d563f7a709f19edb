pub mod Written
pub mod Again
pub mod Sizes
pub mod Padding

pub mod Pieces
pub mod Written
pub mod Again
pub mod Padding

pub mod Loop
pub mod Again
pub mod Views
pub mod Cut
pub mod Lengths
pub mod Refused
pub mod Padding

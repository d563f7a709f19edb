pub mod Pieces
pub mod Messages
pub mod Marks
pub mod Laws

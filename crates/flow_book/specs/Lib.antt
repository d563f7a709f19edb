pub mod Books
pub mod Order
pub mod Store
pub mod Pairs
pub mod Adding
pub mod States

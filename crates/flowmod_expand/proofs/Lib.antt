pub mod Somewhere
pub mod Repeats
pub mod Marked
pub mod Splits
pub mod Space
pub mod Walks
pub mod Again
pub mod Outsiders

mod Normal
mod Pieces
mod Appending
mod Sizes
mod Cases
pub mod Accepted
mod Loaded

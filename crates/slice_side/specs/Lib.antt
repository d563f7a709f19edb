pub mod Reactions
pub mod Checking
pub mod Requesting

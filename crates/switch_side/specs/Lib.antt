pub mod Audiences
pub mod Collecting
pub mod Changes
pub mod Dispatches
pub mod Carrying
pub mod Sharing

pub mod Appending
pub mod Loaded
pub mod Raised
pub mod Filed
pub mod Numbered

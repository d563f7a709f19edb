pub mod Numbering
pub mod Places
pub mod Gathering
pub mod Standing
pub mod Finding
pub mod Collecting

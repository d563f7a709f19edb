pub mod Keys
pub mod Masks
pub mod Groups
pub mod Places

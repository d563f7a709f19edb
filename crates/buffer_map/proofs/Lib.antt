pub mod Places
pub mod Index
pub mod Standing
pub mod Calls

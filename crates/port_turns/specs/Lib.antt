pub mod Turns
pub mod Turned
pub mod Readings
pub mod Sent
pub mod Rows
pub mod Received

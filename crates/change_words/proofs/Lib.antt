pub mod Ordered
pub mod Planning

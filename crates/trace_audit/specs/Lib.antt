pub mod Judging
pub mod Facts
pub mod Sessions
pub mod Auditing
pub mod Standing

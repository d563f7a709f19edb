pub mod Told
pub mod Counts
pub mod Memory
pub mod Words

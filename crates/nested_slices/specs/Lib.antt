pub mod Flat
pub mod Space
pub mod Counting
pub mod Refused

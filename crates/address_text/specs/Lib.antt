pub mod Addresses
pub mod Texts
pub mod Written

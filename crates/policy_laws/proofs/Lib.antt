pub mod Firsts
pub mod Ports
pub mod Versions
pub mod Names
pub mod Readers

pub mod Readers
pub mod Firsts
pub mod Ports

pub mod Asked
pub mod Dialling
pub mod Served

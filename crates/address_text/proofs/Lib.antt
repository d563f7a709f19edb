pub mod Powers
pub mod Ranges
pub mod Appending
pub mod Printed
pub mod WrittenHex
pub mod WrittenDecimal

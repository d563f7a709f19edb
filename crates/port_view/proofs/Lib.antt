pub mod Order
pub mod Cutting
pub mod Finding
pub mod Knowing
pub mod Telling
pub mod Following
pub mod Bits
pub mod Flooding

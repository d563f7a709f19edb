pub mod Slots
pub mod Desks
pub mod Opening
pub mod Handing

pub mod Drawing
pub mod Packets
pub mod Messages
pub mod Made
pub mod Policies

pub mod FlowMods
pub mod PacketOuts
pub mod Inquiries
pub mod Messages

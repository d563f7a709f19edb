pub mod Examples
pub mod Ports
pub mod Connections
pub mod Readers
pub mod FlowMods
pub mod PacketOuts
pub mod Statistics
pub mod Worlds

pub mod FlowMods
pub mod FlowRemoveds
pub mod PacketIns
pub mod PacketOuts
pub mod Tables
pub mod TableLaws

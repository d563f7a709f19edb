pub mod Probes
pub mod Packets

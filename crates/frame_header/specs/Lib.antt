pub mod Links
pub mod Networks
pub mod Headers
pub mod Probes
pub mod Packets

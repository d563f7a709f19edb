pub mod KnownPorts
pub mod Told
pub mod Places
pub mod SlicePorts

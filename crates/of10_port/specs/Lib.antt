pub mod Ports
pub mod Features
pub mod PortStatus

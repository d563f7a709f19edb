mod Lines
mod Listing
mod Following
mod Grounds
mod Inquiring
mod Changing
pub mod Answering
mod Bytes
pub mod Packets
mod Outs
mod Sending

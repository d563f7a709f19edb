pub mod Heads
pub mod Frames
pub mod Kinds
pub mod Numbers
pub mod Streams

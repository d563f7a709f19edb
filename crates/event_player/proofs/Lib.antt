pub mod Hearing
pub mod Players
pub mod Cues
pub mod Numbered
pub mod Holding
pub mod Draining
pub mod Slices
pub mod Turning
pub mod Streaming
pub mod Recorded
pub mod Playing
pub mod Running
mod Walking
mod Happening

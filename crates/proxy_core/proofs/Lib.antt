mod Lists
mod Places
mod Handed
mod Rooms
mod Fitting
mod Standing
mod Slices
pub mod Acting
mod Beginning
mod Operating
mod Events
mod Sliced
mod Switched
mod Taking
mod Questions

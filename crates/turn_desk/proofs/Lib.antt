mod Numbers
mod Lists
mod Keeps
mod Steps
mod Ends
mod Wraps
pub mod Making

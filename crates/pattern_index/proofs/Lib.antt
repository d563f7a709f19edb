pub mod Keys
pub mod Masks
pub mod Putting
pub mod Least
pub mod Firsts
pub mod Outcomes

pub mod Rows
pub mod Own
pub mod Paging
pub mod Packing
pub mod Replying
pub mod Coming
pub mod Questions

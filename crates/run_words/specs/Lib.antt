pub mod Summaries
pub mod Examples

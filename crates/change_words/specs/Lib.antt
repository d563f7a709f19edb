pub mod BookOrder
pub mod Changes

pub mod Messages
pub mod AnswerSizes
pub mod Ports
pub mod Statistics
pub mod Items
pub mod Lane
pub mod Fitting

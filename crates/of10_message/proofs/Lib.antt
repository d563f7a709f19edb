pub mod ConfigReadAgain
pub mod ControllerCases
pub mod ControllerTyped
pub mod SwitchCases
pub mod SwitchTyped

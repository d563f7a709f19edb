pub mod Origins
pub mod ActionRules
pub mod Verdicts
pub mod Permitted
pub mod Soundness
pub mod Refusals
pub mod Laws

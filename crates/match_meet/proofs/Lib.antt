pub mod Apart
pub mod Covering
pub mod CoverNormal
pub mod CoverHas
pub mod Ranges

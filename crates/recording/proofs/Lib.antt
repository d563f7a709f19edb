pub mod Noting
pub mod Walk
pub mod Forms
pub mod Told
pub mod Untold
pub mod Faulty
pub mod Refused
pub mod Left

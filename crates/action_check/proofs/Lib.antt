pub mod Answering
pub mod Aside
pub mod Sizes
pub mod Allowing
pub mod Sending
pub mod Ways
pub mod Forbidding
pub mod Found

pub mod Requests
pub mod Collections
pub mod Laws

pub mod Requests
pub mod Bookings
pub mod Rates
pub mod Collecting
pub mod Gathering
pub mod Packets

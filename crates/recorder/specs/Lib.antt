pub mod Seats
pub mod Each
pub mod Recorded
pub mod Starting
pub mod Leaving

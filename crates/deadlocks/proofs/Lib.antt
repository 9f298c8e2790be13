pub mod Moments
pub mod Writes
pub mod Blocking
pub mod Stuck

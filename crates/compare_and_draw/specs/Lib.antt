pub mod Differences
pub mod Json
pub mod Compares
pub mod Draws
pub mod Pictures
pub mod Runs

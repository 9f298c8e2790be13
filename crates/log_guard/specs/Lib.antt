pub mod Guarding
pub mod Kept

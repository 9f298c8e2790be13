pub mod Whole
pub mod Sources

pub mod Equality
pub mod Rows

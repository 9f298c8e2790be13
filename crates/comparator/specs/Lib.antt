pub mod Comparison
pub mod Counted
pub mod Naming
pub mod Renaming

pub mod Columns
pub mod Reaching
pub mod Marks
pub mod Paths
pub mod Concerns
pub mod Checks
pub mod Sharing

pub mod Objects
pub mod Calls
pub mod Rows
pub mod Ends
pub mod Logs
pub mod Sides
pub mod Exact

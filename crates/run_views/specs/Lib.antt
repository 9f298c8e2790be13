pub mod Calls
pub mod Lanes
pub mod Order
pub mod Rows
pub mod Seen
pub mod Waits
pub mod Found
pub mod Reasons

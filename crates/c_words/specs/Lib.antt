pub mod Calls
pub mod Faults
pub mod Requests
pub mod Words

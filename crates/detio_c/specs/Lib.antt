pub mod Begun
pub mod Ends
pub mod Faults
pub mod Owned
pub mod Promise
pub mod Reads
pub mod Refused

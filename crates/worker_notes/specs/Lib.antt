pub mod Plays
pub mod Leads
pub mod Requests
pub mod Agrees

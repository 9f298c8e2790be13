pub mod Blocked
pub mod Places
pub mod Laws

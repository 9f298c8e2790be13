pub mod Naming
pub mod Lookup
pub mod Hashes
pub mod Entries
pub mod NameCode

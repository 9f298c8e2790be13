pub mod Marking
pub mod Naming
pub mod Numbering
pub mod Refusing
pub mod Telling

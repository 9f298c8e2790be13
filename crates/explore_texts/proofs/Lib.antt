pub mod Cutting
pub mod ExactFound
pub mod Failing
pub mod Interrupts
pub mod Joining
pub mod Numbering

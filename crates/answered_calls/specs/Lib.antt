pub mod Answered
pub mod Lines
pub mod Ways
pub mod Seen
pub mod Steps
pub mod Blocked
pub mod Operands
pub mod OperandsSeen

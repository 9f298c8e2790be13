pub mod Mistakes
pub mod Findings
pub mod Json
pub mod Shares
pub mod Checking
pub mod Expecting

pub mod Found
pub mod ExactFindings

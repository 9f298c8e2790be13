pub mod Parts
pub mod Amounts
pub mod Reductions
pub mod Targets
pub mod Failing
pub mod Rounds
pub mod Scopes

pub mod CasesSaid
pub mod Failing
pub mod Tried

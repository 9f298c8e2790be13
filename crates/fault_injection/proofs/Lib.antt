pub mod Asking
pub mod Differing
pub mod FilledRuns
pub mod Following
pub mod Walking

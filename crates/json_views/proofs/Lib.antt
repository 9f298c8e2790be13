pub mod Texts
pub mod Places
pub mod Exact
pub mod ExactRows
pub mod ExactEnds
pub mod ExactLogs
pub mod ExactSides

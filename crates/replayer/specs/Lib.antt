pub mod Outcomes
pub mod OwnLog
pub mod Replay
pub mod Runs
pub mod Threads
pub mod Upgrade
pub mod UpgradeLaws
pub mod Known

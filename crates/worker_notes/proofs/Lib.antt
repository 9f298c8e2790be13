pub mod Replying
pub mod Agreeing

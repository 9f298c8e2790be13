pub mod Counting
pub mod Differing
pub mod Threads

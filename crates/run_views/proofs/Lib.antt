pub mod Places
mod Sorting

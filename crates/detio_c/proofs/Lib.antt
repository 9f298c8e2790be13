pub mod Attempting
pub mod Fits
pub mod Reading
pub mod Refusing
pub mod Values

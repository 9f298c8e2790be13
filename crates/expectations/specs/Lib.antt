pub mod Meeting
pub mod Words
pub mod Expected
pub mod Places
pub mod CutOff
pub mod Unmet
pub mod Laws
pub mod Printing

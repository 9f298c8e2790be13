pub mod Grouping
pub mod WorkLines
pub mod VariedTexts
pub mod MovedLines
pub mod VariedScripts
pub mod VariedCalls
pub mod ReadOnce
pub mod Listing

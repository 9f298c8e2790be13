pub mod Transcripts
pub mod Printing
pub mod Reading
pub mod FirstFaults
pub mod LogTexts
pub mod Expecting

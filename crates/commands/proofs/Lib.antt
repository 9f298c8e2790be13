pub mod Playing
pub mod Printing
pub mod Making

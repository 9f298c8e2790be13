pub mod Playing
pub mod Leading
pub mod Gathering
pub mod Seating
pub mod Ending
pub mod Alike
pub mod Telling
pub mod Seen

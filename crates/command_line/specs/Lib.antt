pub mod Commands
pub mod Names
pub mod Options
pub mod Seeds

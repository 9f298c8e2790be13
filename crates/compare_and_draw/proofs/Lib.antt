pub mod RowsBefore
pub mod ExactVerdicts

pub mod LiveLemmas
pub mod TurnLemmas

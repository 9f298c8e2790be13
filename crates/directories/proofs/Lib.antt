pub mod HashLemmas
pub mod ComponentLemmas
pub mod EntryLemmas
pub mod NameLemmas

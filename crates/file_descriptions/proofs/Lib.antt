pub mod SlotLemmas
pub mod SoundLemmas

-- Internal: no contract of the headline or of a command stands on it.
-- What is kept of each thread while the turns of a history pass.
use Rattle.std.specs.Prelude.{◌≡◌, ◌<◌, ℕ, ◌+◌, ◌-◌, Bool, not, ◌&&◌, ◌||◌, List}
use Rattle.std.specs.Prelude.{length, slice_index_or, if◌then◌else◌, count_by}
use Rattle.posix_terms.specs.declared.transcript.HistoryRow.{HistoryRow}
use Rattle.deadlocks.specs.Blocked.{has_reply, has_turn, is_blocked, is_of, replies_at}
use Rattle.deadlocks.specs.Blocked.{since_reply, still_turns}
use Rattle.deadlocks.specs.declared.places.ThreadPlace.{ThreadPlace}

-- the place of a thread between these turns
abbrev pub place_of : List HistoryRow → List HistoryRow → ℕ → ThreadPlace
place_of past later thread = record {
  left = count_by (is_of thread) later;
  since_reply = has_turn thread (since_reply past);
  still = has_turn thread (still_turns past);
  replies = replies_at thread past;
}

-- each of these is the place of its thread, and so many threads are there
pub record ArePlaces
    (threads : ℕ) (past later : List HistoryRow) (places : List ThreadPlace) : Type 0 where
  pub count : length places ≡ threads
  pub each : (i : ℕ) (d : ThreadPlace) → i < threads
      → slice_index_or places i d ≡ place_of past later i

-- a place after a turn of a thread, this one or another, at which bytes may have moved or not
abbrev pub place_after : ThreadPlace → Bool → HistoryRow → Bool → ThreadPlace
place_after place own row moves = record {
  left = if own then place.left - 1 else place.left;
  since_reply = is_blocked row && (own || place.since_reply);
  still = is_blocked row && not moves && (own || place.still);
  replies = if own && has_reply row then place.replies + 1 else place.replies;
}

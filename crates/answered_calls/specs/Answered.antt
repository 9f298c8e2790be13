-- Believed: a contract of a command stands on it.
-- The calls of a run that were answered, each with its line and its way to the answer.
use Rattle.std.specs.Prelude.{ℕ, ◌+◌, List, [], ◌∷◌, ◌++◌, map, slice_index_or, Option, None}
use Rattle.std.specs.Prelude.{unwrap_or}
use Rattle.posix_terms.specs.declared.transcript.HistoryRow.{HistoryRow}
use Rattle.posix_terms.specs.declared.transcript.Row.{Row}
use Rattle.answered_calls.specs.Lines.{lines_of_calls}
use Rattle.answered_calls.specs.Ways.{ways_of}
use Rattle.answered_calls.specs.declared.ways.CallWay.{CallWay}

-- a call that was answered: an `AnsweredCall` with its row
pub record Answered : Type 0 where
  pub thread : ℕ
  pub number : ℕ
  pub line : ℕ
  pub row : Row
  pub granted : ℕ
  pub blocked : ℕ
  pub outcome : Option ℕ

-- the way of a call that has no turns in the history
abbrev pub unknown_way : CallWay
unknown_way = record { granted = None; blocked = 0; outcome = None }

-- the call of a row that stands at this line and came to its answer in this way. Where no turn is
-- known, that of the row is its first
abbrev pub answered : ℕ → ℕ → ℕ → CallWay → Row → Answered
answered thread number line way row = record {
  thread = thread;
  number = number;
  line = line;
  row = row;
  granted = unwrap_or way.granted row.turn.clock;
  blocked = way.blocked;
  outcome = way.outcome;
}

-- the calls of a thread's rows, the first of which has this number, with the lines and ways of all
-- its calls. A line that is not known is 0
abbrev pub answered_from : ℕ → ℕ → List ℕ → List CallWay → List Row → List Answered
answered_from thread number lines ways [] = []
answered_from thread number lines ways (row ∷ rows) =
    answered thread number
    (slice_index_or lines number 0) (slice_index_or ways number unknown_way) row
    ∷ answered_from thread (number + 1) lines ways rows

-- the calls of a thread with this script's text, these rows and this history of all threads
abbrev pub answered_of : ℕ → List ℕ → List HistoryRow → List Row → List Answered
answered_of thread text history rows =
    answered_from thread 0
    (lines_of_calls text (map (λ row. row.reply) rows)) (ways_of thread history) rows

-- the calls of threads, the first of which has this number, thread by thread. A thread that has no
-- text has an empty one
abbrev pub answered_calls :
    ℕ → List (List ℕ) → List HistoryRow → List (List Row) → List Answered
answered_calls thread texts history [] = []
answered_calls thread texts history (rows ∷ transcripts) =
    answered_of thread (slice_index_or texts thread []) history rows
    ++ answered_calls (thread + 1) texts history transcripts

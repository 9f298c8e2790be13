-- Believed: a contract of the headline stands on it.
-- When what a machine shows is the beginning of the plain run.
use Rattle.std.specs.Prelude.{◌≡◌, ℕ, ◌<◌, List, [], ◌∷◌, length, map, false, is_none}
use Rattle.lock_machine.specs.Conditions.{setup_under, start_under}
use Rattle.lock_machine.specs.Whole.{Whole, thread_at}
use Rattle.lock_machine.specs.declared.thread.Phase.TheVariants as phase
use Rattle.lock_model.specs.History.{Agrees, IsPrefixOf}
use Rattle.lock_model.specs.Programs.{Supply, listed}
use Rattle.lock_model.specs.Rows.{shown}
use Rattle.lock_model.specs.Schedule.{EndsIn}
use Rattle.lock_model.specs.State.{State, thread_of}
use Rattle.posix_terms.specs.declared.transcript.HistoryRow.{HistoryRow}
use Rattle.machine.specs.History.{answers_in, outcomes_in, rows_of, transcript_of}
use Rattle.machine.specs.Records.{outcomes_of}
use Rattle.machine.specs.Runs.{terms_with}
use Rattle.machine.specs.Shown.{Shown}

-- an outcome or an answer that is not there yet agrees with any, and an answered row is the very
-- row
pub record RowAgrees (row other : HistoryRow) : Type 0 where
  pub turn : row.turn ≡ other.turn
  pub call : row.call ≡ other.call
  pub outcome : Agrees row.outcome other.outcome
  pub answer : Agrees row.answer other.answer
  pub closed : is_none row.answer ≡ false → other ≡ row

-- these rows agree, one by one, with the first of the others
abbrev pub IsBeginning : List HistoryRow → List HistoryRow → Type 0
IsBeginning [] others = Unit {0}
IsBeginning (row ∷ rows) [] = ⊥
IsBeginning (row ∷ rows) (other ∷ others) = RowAgrees row other × IsBeginning rows others

-- the steps that the threads asked, and by thread the outcomes of the log's records
abbrev pub steps_and_records : {D : Type 0} → Shown D → Supply
steps_and_records m = record {
  next = λ i. let t = thread_at m.whole i in listed t.asked;
  outcomes = λ i. outcomes_of i m.log.records;
}

-- every thread has ended
abbrev pub HaveEnded : Whole → Type 0
HaveEnded w = (i : ℕ) → i < length w.threads → (let t = thread_at w i in t.phase) ≡ phase.Ended

-- what the machine shows is all that last has
pub record IsAllOf (D : Type 0) (m : Shown D) (last : State) : Type 0 where
  pub rows : m.whole.rows ≡ map shown last.rows
  pub steps : (i : ℕ) → (let t = thread_at m.whole i in t.asked) ≡ (thread_of last i).asked
  pub outcomes : (i : ℕ) → outcomes_in i m.whole.rows ≡ outcomes_in i (map shown last.rows)
  pub answers : (i : ℕ) → answers_in i m.whole.rows ≡ answers_in i (map shown last.rows)
  pub transcripts : (i : ℕ) → transcript_of i m.whole.rows ≡ transcript_of i (map shown last.rows)

-- last is where the plain run ends of exactly those steps, under those outcomes, and what the
-- machine shows is a beginning of what that has
pub record BeginsPlainRun (D : Type 0) (m : Shown D) : Type 0 where
  pub last : State
  pub ends : EndsIn (setup_under (terms_with m.whole (steps_and_records m)))
      (start_under (terms_with m.whole (steps_and_records m))) last
  -- the rows of all threads together, and those of each; its steps, its outcomes, its answers and
  -- its transcript
  pub together : IsBeginning m.whole.rows (map shown last.rows)
  pub rows : (i : ℕ) → IsBeginning (rows_of i m.whole.rows) (rows_of i (map shown last.rows))
  pub steps : (i : ℕ) → IsPrefixOf (let t = thread_at m.whole i in t.asked) (thread_of last i).asked
  pub outcomes : (i : ℕ)
      → IsPrefixOf (outcomes_in i m.whole.rows) (outcomes_in i (map shown last.rows))
  pub answers : (i : ℕ)
      → IsPrefixOf (answers_in i m.whole.rows) (answers_in i (map shown last.rows))
  pub transcripts : (i : ℕ)
      → IsPrefixOf (transcript_of i m.whole.rows) (transcript_of i (map shown last.rows))
  -- and where all threads have ended, all of it
  pub whole : HaveEnded m.whole → IsAllOf D m last

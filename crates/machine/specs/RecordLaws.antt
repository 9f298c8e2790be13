-- Internal: no contract of the headline or of a command stands on it.
-- What holds of records by thread, and of the record of an outcome that answers what was asked.
use Rattle.posix_terms.specs.declared.transcript.Turn.{Turn}
use Rattle.lock_model.specs.Times as times
use Rattle.lock_model.specs.Laws.{AreDated}
use Rattle.lock_model.specs.Rows.{shown}
use Rattle.lock_model.specs.Runs.{Keeps}
use Rattle.lock_model.specs.State.{Row}
use Rattle.lock_model.specs.Transcripts as seen
use Rattle.machine.specs.History.{clocks_in}
use Rattle.std.specs.Prelude.{◌≡◌, ℕ, ◌<◌, ◌≤◌, true, List, [], ◌∷◌, ◌++◌, length, map, None}
use Rattle.std.specs.Prelude.{if◌then◌else◌, ◌==◌, ◌^◌}
use Rattle.input_log.specs.Grammar.{IsGood, number_of, is_version}
use Rattle.input_log.specs.declared.log.Header.{Header}
use Rattle.input_log.specs.declared.log.Record.{Record}
use Rattle.sequential_object.specs.Bytes.{most_asked}
use Rattle.posix_terms.specs.Outcomes.{fits, is_kind, dated}
use Rattle.posix_terms.specs.declared.limits.TheConstants.Limits as limit
use Rattle.posix_terms.specs.declared.outcome.Given.{Given}
use Rattle.posix_terms.specs.declared.outcome.OutKind.{OutKind}
use Rattle.machine.specs.Records.{as_logged, outcomes_of, record_of}

-- the laws of the records of a log, and of the outcomes that they have
pub record RecordLaws : Type 0 where
  -- the outcomes of one list of records come before those of the next
  pub append : (i : ℕ) (xs ys : List Record)
      → outcomes_of i (xs ++ ys) ≡ outcomes_of i xs ++ outcomes_of i ys
  -- a record has the outcome of its thread, and none of another
  pub own : (i m : ℕ) (g : Given) → outcomes_of i (record_of i m g ∷ []) ≡ g ∷ []
  pub other : (i j m : ℕ) (g : Given) → (j ≡ i → ⊥) → outcomes_of i (record_of j m g ∷ []) ≡ []
  -- a thread has as many outcomes as records
  pub counted : (i : ℕ) (records : List Record)
      → length (outcomes_of i records) ≡ number_of i records
  -- what a log of any version has of an outcome becomes it again
  pub keeps : (version : ℕ) → Keeps (as_logged version)
  -- a log of version 2 has all of it
  pub whole : (version : ℕ) (came : List Given) → (version == 2) ≡ true
      → map (as_logged version) came ≡ came
  -- kinds that are said to be one are one
  pub kinds : (a b : OutKind) → is_kind a b ≡ true → a ≡ b
  -- an outcome that fits what was asked may be recorded after those before it, with the clock of
  -- its turn in version 2, where that turn comes after theirs
  pub good : (header : Header) (before : List Record) (i m asked : ℕ) (turn : Turn) (g : Given)
      → is_version header.version ≡ true
      → ((header.version == 2) ≡ true → times.last_clock (outcomes_of i before) < turn.clock)
      → turn.clock < 2 ^ 62
      → i < header.threads → m ≡ number_of i before → m < limit.OUTCOMES
      → asked ≤ most_asked g.kind → fits g.kind asked g.outcome ≡ true
      → IsGood header before (record_of i m (as_logged header.version (dated turn g)))
  -- of rows that have the clocks of their turns a log has these
  pub clocks : (version i : ℕ) (rows : List Row) → AreDated rows
      → map (λ (g : Given). if version == 2 then g.clock else None) (seen.outcomes_of i rows)
      ≡ clocks_in version i (map shown rows)

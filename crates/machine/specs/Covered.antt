-- Believed: a contract of the headline stands on it.
-- When a log covers a history.
use Rattle.std.specs.Prelude.{◌≡◌, ℕ, List, [], ◌∷◌, map, Option, Some, None, if◌then◌else◌, ◌==◌}
use Rattle.input_log.specs.Writing.{IsSound}
use Rattle.lock_machine.specs.Requests.{kind_asked}
use Rattle.posix_terms.specs.declared.outcome.Given.{Given}
use Rattle.posix_terms.specs.declared.outcome.OutKind.{OutKind}
use Rattle.posix_terms.specs.declared.outcome.Outcome.{Outcome}
use Rattle.posix_terms.specs.declared.transcript.HistoryRow.{HistoryRow}
use Rattle.machine.specs.History.{clocks_in, outcomes_in}
use Rattle.machine.specs.Kept.{header_of, is_sink}
use Rattle.machine.specs.Records.{outcomes_of}
use Rattle.machine.specs.Shown.{Shown}

-- the kind of what a call asks outside, where its outcome came, before those of the rows after it
abbrev pub kind_before : Option OutKind → Option Outcome → List (Option OutKind)
    → List (Option OutKind)
kind_before k (Some outcome) kinds = k ∷ kinds
kind_before k None kinds = kinds

-- the kinds of what was asked for the outcomes of a thread's rows, in order
abbrev pub kinds_in : ℕ → List HistoryRow → List (Option OutKind)
kinds_in thread [] = []
kinds_in thread (row ∷ rows) =
    if row.turn.thread == thread
    then kind_before (kind_asked row.call) row.outcome (kinds_in thread rows)
    else kinds_in thread rows

-- what stands in the sink is the log's header with a record for each outcome, in the order in which
-- they came; there is more only after a failure of the sink, a part of one further item. Thread by
-- thread, records and rows have the same outcomes, a record's kind is that of what the call of
-- its row asks outside, and in version 2 its clock is that of its row's turn
pub record IsCovered (D : Type 0) (m : Shown D) : Type 0 where
  pub header : m.log.header ≡ header_of m.whole
  pub sound : IsSound m.log
  pub failed : m.log.failed ≡ is_sink m.stop
  pub outcomes : (i : ℕ)
      → map (λ (g : Given). g.outcome) (outcomes_of i m.log.records) ≡ outcomes_in i m.whole.rows
  pub clocks : (i : ℕ)
      → map (λ (g : Given). g.clock) (outcomes_of i m.log.records)
      ≡ clocks_in m.whole.settings.version i m.whole.rows
  pub kinds : (i : ℕ)
      → map (λ (g : Given). Some g.kind) (outcomes_of i m.log.records) ≡ kinds_in i m.whole.rows

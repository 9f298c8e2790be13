-- Believed: a contract of the headline stands on it.
-- When a history is legal: going over its rows in the order of their turns, the sequential object
-- gives just their answers.
use Rattle.std.specs.Prelude.{◌≡◌, ℕ, List, [], ◌∷◌, Option, Some, None, is_some, true}
use Rattle.std.specs.Prelude.{if◌then◌else◌, ◌==◌}
use Rattle.sequential_object.specs.Object.{State, empty_state}
use Rattle.posix_terms.specs.Outcomes.{fits}
use Rattle.sequential_object.specs.Step.{Carried, Stepped, asks, nothing_carried, step}
use Rattle.posix_terms.specs.declared.outcome.Outcome.{Outcome}
use Rattle.posix_terms.specs.declared.reply.Answer.{Answer}
use Rattle.posix_terms.specs.declared.reply.Answer.TheVariants as answer
use Rattle.posix_terms.specs.Queries.{Query}
use Rattle.posix_terms.specs.declared.transcript.HistoryRow.{HistoryRow}
use Rattle.posix_terms.specs.declared.transcript.Settings.{Settings}

-- what a thread carries after a row. Without an answer the row is the thread's last, and it carries
-- what it carried before
abbrev pub carried_after : Carried → Option Answer → Stepped → Carried
carried_after carried None stepped = carried
carried_after carried (Some answer.Again) stepped = stepped.carried
carried_after carried (Some (answer.Reply r)) stepped = nothing_carried

-- what each thread carries after a row
abbrev pub carried_on : (ℕ → Carried) → HistoryRow → Stepped → ℕ → Carried
carried_on carried row stepped thread =
    if row.turn.thread == thread then carried_after (carried thread) row.answer stepped
    else carried thread

-- an outcome answers a query that it fits; a call that asks for none has none
abbrev pub Answers : Option Query → Option Outcome → Type 0
Answers (Some r) (Some o) = fits r.kind r.asked o ≡ true
Answers (Some r) None = Unit {0}
Answers None o = o ≡ None

-- a row is right where its answer, if it was given, is that of the step, and its outcome, if it
-- came, answers what the call asks. It came before the answer
pub record IsRight (query : Option Query) (stepped : Stepped) (row : HistoryRow) : Type 0 where
  pub answer_is : (given : Answer) → row.answer ≡ Some given → given ≡ stepped.answer
  pub outcome_is : Answers query row.outcome
  pub outcome_came : (given : Answer) → row.answer ≡ Some given
      → is_some row.outcome ≡ is_some query

-- an outcome that came, or one that may still come: of a call that asks, any that fits
abbrev pub MayBe : Option Query → Option Outcome → Option Outcome → Type 0
MayBe query (Some came) o = o ≡ Some came
MayBe (Some r) None o = (is_some o ≡ true) × Answers (Some r) o
MayBe None None o = o ≡ None

-- whichever outcomes are still to come
abbrev pub IsLegalFrom : Settings → State → (ℕ → Carried) → List HistoryRow → Type 0
IsLegalFrom settings s carried [] = Unit {0}
IsLegalFrom settings s carried (row ∷ rows) =
    (o : Option Outcome) → MayBe (asks s row.call (carried row.turn.thread)) row.outcome o
    → let stepped = step settings s row.call o (carried row.turn.thread) in
    IsRight (asks s row.call (carried row.turn.thread)) stepped row
    × IsLegalFrom settings stepped.after (carried_on carried row stepped) rows

-- a history is legal, from the state in which nothing is open and with nothing carried
abbrev pub IsLegal : Settings → List HistoryRow → Type 0
IsLegal settings rows = IsLegalFrom settings empty_state (λ thread. nothing_carried) rows

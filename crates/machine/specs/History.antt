-- Believed: a contract of the headline stands on it.
-- What is true of a history, and what one thread sees of it.
use Rattle.std.specs.Prelude.{◌≡◌, ℕ, zero, suc, List, [], ◌∷◌, ◌++◌, Option, Some, None, true}
use Rattle.std.specs.Prelude.{if◌then◌else◌, ◌==◌}
use Rattle.posix_terms.specs.declared.outcome.Outcome.{Outcome}
use Rattle.posix_terms.specs.declared.reply.Answer.{Answer}
use Rattle.posix_terms.specs.declared.reply.Answer.TheVariants as answer
use Rattle.posix_terms.specs.declared.transcript.HistoryRow.{HistoryRow}
use Rattle.posix_terms.specs.declared.transcript.Row.{Row}
use Rattle.posix_terms.specs.declared.transcript.Turn.{Turn}
use Rattle.logical_clocks.specs.TurnOrder.{is_before}
use Rattle.posix_terms.specs.declared.step.Step.{Step}

-- the granted turns in their order, and the steps that each thread asked
pub record Past : Type 0 where
  pub rows : List HistoryRow
  pub asked : List (List Step)

-- the rows of a thread
abbrev pub rows_of : ℕ → List HistoryRow → List HistoryRow
rows_of thread [] = []
rows_of thread (row ∷ rows) =
    if row.turn.thread == thread then row ∷ rows_of thread rows
    else rows_of thread rows

-- what a row replied, before what the rows after it did
abbrev pub reply_before : HistoryRow → Option Answer → List Row → List Row
reply_before row (Some (answer.Reply reply)) rows =
    record { call = row.call; turn = row.turn; reply = reply } ∷ rows
reply_before row (Some answer.Again) rows = rows
reply_before row None rows = rows

-- the rows of a thread that were answered with a reply
abbrev pub transcript_of : ℕ → List HistoryRow → List Row
transcript_of thread [] = []
transcript_of thread (row ∷ rows) =
    if row.turn.thread == thread then reply_before row row.answer (transcript_of thread rows)
    else transcript_of thread rows

-- those of the first threads, so many
abbrev pub transcripts_of : ℕ → List HistoryRow → List (List Row)
transcripts_of zero rows = []
transcripts_of (suc n) rows = transcripts_of n rows ++ transcript_of n rows ∷ []

-- the outcome of a row, if it came, before those of the rows after it
abbrev pub outcome_before : Option Outcome → List Outcome → List Outcome
outcome_before (Some outcome) outcomes = outcome ∷ outcomes
outcome_before None outcomes = outcomes

-- the outcomes of a thread's rows, in order
abbrev pub outcomes_in : ℕ → List HistoryRow → List Outcome
outcomes_in thread [] = []
outcomes_in thread (row ∷ rows) =
    if row.turn.thread == thread then outcome_before row.outcome (outcomes_in thread rows)
    else outcomes_in thread rows

-- the clock that a log of this version has of a row
abbrev pub clock_told : ℕ → HistoryRow → Option ℕ
clock_told version row = if version == 2 then Some row.turn.clock else None

-- that clock, if the row's outcome came, before those of the rows after it
abbrev pub clock_before : Option ℕ → Option Outcome → List (Option ℕ) → List (Option ℕ)
clock_before clock (Some outcome) clocks = clock ∷ clocks
clock_before clock None clocks = clocks

-- those of a thread's rows whose outcomes came, in order: of blocked turns too
abbrev pub clocks_in : (version : ℕ) → (thread : ℕ) → List HistoryRow → List (Option ℕ)
clocks_in version thread [] = []
clocks_in version thread (row ∷ rows) =
    if row.turn.thread == thread
    then clock_before (clock_told version row) row.outcome (clocks_in version thread rows)
    else clocks_in version thread rows

-- the answer of a row, if it was given, before those of the rows after it
abbrev pub answer_before : Option Answer → List Answer → List Answer
answer_before (Some a) answers = a ∷ answers
answer_before None answers = answers

-- the answers of a thread's rows, in order
abbrev pub answers_in : ℕ → List HistoryRow → List Answer
answers_in thread [] = []
answers_in thread (row ∷ rows) =
    if row.turn.thread == thread then answer_before row.answer (answers_in thread rows)
    else answers_in thread rows

-- the turn comes before those of all these rows
abbrev pub IsBeforeAll : Turn → List HistoryRow → Type 0
IsBeforeAll turn [] = Unit {0}
IsBeforeAll turn (row ∷ rows) = (is_before turn row.turn ≡ true) × IsBeforeAll turn rows

-- each turn comes before all later ones
abbrev pub AreRising : List HistoryRow → Type 0
AreRising [] = Unit {0}
AreRising (row ∷ rows) = IsBeforeAll row.turn rows × AreRising rows

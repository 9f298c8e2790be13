-- Believed: a contract of the headline stands on it.
-- When the notes of the workers agree with a history.
use Rattle.std.specs.Prelude.{◌≡◌, ℕ, ◌+◌, List, [], ◌∷◌, Option, Some, None, if◌then◌else◌, ◌==◌}
use Rattle.posix_terms.specs.Answers.{reply_of}
use Rattle.posix_terms.specs.declared.outcome.Outcome.{Outcome}
use Rattle.posix_terms.specs.declared.reply.Reply.{Reply}
use Rattle.posix_terms.specs.declared.request.Request.{Request}
use Rattle.posix_terms.specs.declared.transcript.HistoryRow.{HistoryRow}
use Rattle.posix_terms.specs.declared.step.Step.{Step}
use Rattle.worker_notes.specs.Requests.{request_for}
use Rattle.worker_notes.specs.declared.own.Brought.{Brought}
use Rattle.worker_notes.specs.declared.own.Noted.{Noted}
use Rattle.worker_notes.specs.declared.own.Own.{Own}

-- the steps that were noted, in order
abbrev pub steps_noted : List Noted → List Step
steps_noted [] = []
steps_noted (n ∷ notes) = n.step ∷ steps_noted notes

-- something, if it came, before what is after it
abbrev pub before : {A : Type 0} → Option A → List A → List A
before (Some x) xs = x ∷ xs
before None xs = xs

-- the replies that were noted, in order
abbrev pub replies_noted : List Noted → List Reply
replies_noted [] = []
replies_noted (n ∷ notes) = before n.reply (replies_noted notes)

-- the replies that the rows of a thread have, in order
abbrev pub replies_in : ℕ → List HistoryRow → List Reply
replies_in thread [] = []
replies_in thread (row ∷ rows) =
    if row.turn.thread == thread then before (reply_of row.answer) (replies_in thread rows)
    else replies_in thread rows

-- what a request brought, if its outcome came
abbrev pub brought : Option Request → Option Outcome → Option Brought
brought (Some r) (Some o) = Some (record { request = r; outcome = o })
brought (Some r) None = None
brought None o = None

-- what a row brought from outside
abbrev pub brought_by : HistoryRow → Option Brought
brought_by row = brought (request_for row.turn row.call) row.outcome

-- what the rows of a thread brought from outside, in order: the requests of their calls at their
-- turns, with the outcomes
abbrev pub brought_in : ℕ → List HistoryRow → List Brought
brought_in thread [] = []
brought_in thread (row ∷ rows) =
    if row.turn.thread == thread then before (brought_by row) (brought_in thread rows)
    else brought_in thread rows

-- the steps that were noted are those that the thread asked, the replies are those of its rows, and
-- so is what came from outside
pub record AgreesWith (thread : ℕ) (rows : List HistoryRow) (asked : List Step) (own : Own)
    : Type 0 where
  pub steps : steps_noted own.steps.items ≡ asked
  pub replies : replies_noted own.steps.items ≡ replies_in thread rows
  pub outcomes : own.outcomes.items ≡ brought_in thread rows

-- so it is of each thread from this one on, and there are no more notes than threads, nor fewer
abbrev pub AgreeFrom : ℕ → List HistoryRow → List (List Step) → List Own → Type 0
AgreeFrom thread rows [] [] = Unit {0}
AgreeFrom thread rows (asked ∷ others) (notes ∷ more) =
    AgreesWith thread rows asked notes × AgreeFrom (thread + 1) rows others more
AgreeFrom thread rows asked own = ⊥

-- the notes of all threads agree with the rows and the steps that each thread asked
abbrev pub Agree : List HistoryRow → List (List Step) → List Own → Type 0
Agree rows asked own = AgreeFrom 0 rows asked own

-- Internal: no contract of the headline or of a command stands on it.
-- That calls which are blocked for good are answered by their patience alone.
use Rattle.std.specs.Prelude.{◌≡◌, ℕ, Bool, true, not, ◌&&◌, List, [], ◌∷◌, All, reverse, Option}
use Rattle.std.specs.Prelude.{Some, None}
use Rattle.std.specs.Prelude.{is_some, Ok, if◌then◌else◌}
use Rattle.deadlocks.specs.Blocked.{are_stuck, has_reply, has_turn, is_blocked, is_of, still_turns}
use Rattle.deadlocks.specs.declared.blocked.BlockedCall.{BlockedCall}
use Rattle.posix_terms.specs.Calls.{Call}
use Rattle.posix_terms.specs.declared.outcome.Outcome.{Outcome}
use Rattle.posix_terms.specs.declared.transcript.HistoryRow.{HistoryRow}
use Rattle.posix_terms.specs.declared.transcript.Settings.{Settings}
use Rattle.sequential_object.specs.Effects.{Blocks}
use Rattle.sequential_object.specs.Legal.{IsLegal, MayBe, carried_on}
use Rattle.sequential_object.specs.Object.{State, empty_state}
use Rattle.sequential_object.specs.Step.{Carried, Stepped, asks, effect_of, nothing_carried, step}

-- ## Where a history leads

-- a state, and what each thread carries there
pub record Moment : Type 0 where
  pub state : State
  pub carried : ℕ → Carried

-- nothing is open, and nothing carried
abbrev pub start : Moment
start = record { state = empty_state; carried = λ thread. nothing_carried }

-- the turn of a row at a moment, with this outcome
abbrev pub turn_at : Settings → Moment → HistoryRow → Option Outcome → Stepped
turn_at settings at row outcome =
    step settings at.state row.call outcome (at.carried row.turn.thread)

-- the moment after a turn
abbrev pub after_turn : Moment → HistoryRow → Stepped → Moment
after_turn at row stepped =
    record { state = stepped.after; carried = carried_on at.carried row stepped }

-- these rows lead from one moment to another. An outcome that is still to come is one that may
abbrev pub Leads : Settings → Moment → List HistoryRow → Moment → Type 0
Leads settings from [] last = from ≡ last
Leads settings from (row ∷ rows) last =
    (o : Option Outcome)
    × MayBe (asks from.state row.call (from.carried row.turn.thread)) row.outcome o
    × Leads settings (after_turn from row (turn_at settings from row o)) rows last

-- ## Calls that are made again

-- the call was blocked at this turn
abbrev pub is_held : HistoryRow → Bool
is_held row = is_some row.answer && not (has_reply row)

-- the call that a thread was blocked with at its last turn, if it was
abbrev pub blocked_call : ℕ → List HistoryRow → Option Call
blocked_call thread [] = None
blocked_call thread (row ∷ earlier) =
    if is_of thread row then (if is_held row then Some row.call else None)
    else blocked_call thread earlier

-- after these past turns, a call that is blocked is made again at the next turn of its thread
abbrev pub MakesAgain : (past : List HistoryRow) → List HistoryRow → Type 0
MakesAgain past [] = Unit {0}
MakesAgain past (row ∷ rows) =
    ((c : Call) → blocked_call row.turn.thread past ≡ Some c → row.call ≡ c)
    × MakesAgain (row ∷ past) rows

-- ## The law

-- the thread has a call that is blocked again, leaves the state as it is and moves no byte. So with
-- patience for another turn its turn is answered that it is blocked, and else that it gave up
abbrev pub IsStuck : Moment → ℕ → Option Call → Type 0
IsStuck at thread None = ⊥
IsStuck at thread (Some c) =
    effect_of at.state c (at.carried thread) ≡ Ok (Blocks at.state (at.carried thread).moved)

-- it is so of all calls that are blocked for good
abbrev pub OnlyPatience : Type 0
OnlyPatience =
    (settings : Settings) (history : List HistoryRow) (last : Moment) (calls : List BlockedCall)
    → IsLegal settings history → MakesAgain [] history → Leads settings start history last
    → are_stuck calls (reverse history) ≡ true
    → All (λ (call : BlockedCall).
    IsStuck last call.thread (blocked_call call.thread (reverse history))) calls

-- and they are blocked for good still after each turn of one of them at which it is blocked
abbrev pub StaysStuck : Type 0
StaysStuck =
    (past : List HistoryRow) (row : HistoryRow) (calls : List BlockedCall)
    → are_stuck calls past ≡ true
    → has_turn row.turn.thread (still_turns past) ≡ true → is_blocked row ≡ true
    → are_stuck calls (row ∷ past) ≡ true

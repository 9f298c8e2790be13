-- Internal: no contract of the headline or of a command stands on it.
-- A history is legal: each answer is the one that the calls
-- before it, in the order of the rows, lead to.
use Rattle.std.specs.Prelude.{◌≡◌, ℕ, suc, List, [], ◌∷◌, Option, Some, None, Bool, true, false}
use Rattle.std.specs.Prelude.{is_none, is_some, if◌then◌else◌, ◌==◌}
use Rattle.lock_model.specs.CallTable.{CallTable, goes_outside, keeps_table}
use Rattle.sequential_object.specs.declared.turn_end.TurnEnd.{TurnEnd}
use Rattle.sequential_object.specs.declared.turn_end.TurnEnd.TheVariants as turn_end
use Rattle.lock_model.specs.Machine.{first_of}
use Rattle.lock_model.specs.State.{Row}
use Rattle.sequential_object.specs.Worlds.{World}
use Rattle.posix_terms.specs.Calls.{Call}
use Rattle.posix_terms.specs.Outcomes.{undated}
use Rattle.posix_terms.specs.declared.outcome.Given.{Given}
use Rattle.sequential_object.specs.Step.{Carried}

-- what a thread carries after an answer
abbrev pub carried_after : CallTable → Carried → Option TurnEnd → Carried
carried_after calls b None = b
carried_after calls b (Some (turn_end.Blocked more)) = more
carried_after calls b (Some (turn_end.Reply reply)) = calls.nothing_carried

-- what each thread carries after a row
abbrev pub handed_on : CallTable → (ℕ → Carried) → Row → ℕ → Carried
handed_on calls carried r i = if r.turn.thread == i then carried_after calls (carried i) r.answer
    else carried i

-- the world after a call with this outcome
abbrev pub changed : CallTable → World → Call → Carried → Option Given → Bool → World
changed calls w c b o false = calls.change w c b
changed calls w c b None true = w
changed calls w c b (Some o) true = calls.kept_change w c b o

-- a row is right where its call found this world and carried this: its answer is the call's; it has
-- an outcome only where the call goes outside, one that fits, with the clock of its turn; and once
-- answered it has one wherever the call goes outside
pub record IsRight (calls : CallTable) (w : World) (b : Carried) (r : Row) : Type 0 where
  pub answer : (a : TurnEnd) → r.answer ≡ Some a → a ≡ calls.answer w r.call r.outcome b
  pub outcome : (o : Given) → r.outcome ≡ Some o
      → (goes_outside (calls.plan w r.call b) ≡ true)
      × (calls.fits (calls.asks w r.call b) (undated o) ≡ true) × (o.clock ≡ Some r.turn.clock)
  pub whole : is_none r.answer ≡ false → is_some r.outcome ≡ goes_outside (calls.plan w r.call b)

-- the outcome of a call, chosen where it needs one and has none
abbrev pub completed : Bool → Option Given → Option Given → Option Given
completed true o chosen = first_of o chosen
completed false o chosen = o

-- each row in turn, from this world, with these outcomes chosen
-- by place for the rows that need one and have none
abbrev pub IsLegal : CallTable → (ℕ → Option Given) → ℕ → World → (ℕ → Carried) → List Row → Type 0
IsLegal calls chosen k w carried [] = Unit {0}
IsLegal calls chosen k w carried (r ∷ rs) =
    let b = carried r.turn.thread in
    let plan = calls.plan w r.call b in
    IsRight calls w b r
    × IsLegal calls chosen (suc k)
    (changed calls w r.call b (completed (goes_outside plan) r.outcome (chosen k))
    (keeps_table plan)) (handed_on calls carried r) rs

-- whatever outcomes the rows that need one and have none will get
abbrev pub IsLegalHistory : CallTable → World → List Row → Type 0
IsLegalHistory calls w rows = (chosen : ℕ → Option Given)
    → IsLegal calls chosen 0 w (λ i. calls.nothing_carried) rows

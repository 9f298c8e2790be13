-- Believed: a contract of the headline stands on it.
-- Runs: events in any order that the machine allows.
use Rattle.std.specs.Prelude.{◌≡◌, ◌⊎◌, ℕ, suc, List, [], ◌∷◌, Some, None, true, map, slice_get}
use Rattle.std.specs.Prelude.{take}
use Rattle.lock_model.specs.Machine.{Setup, Event, is_allowed, happens}
use Rattle.lock_model.specs.Programs.{Supply, listed}
use Rattle.posix_terms.specs.declared.step.Step.{Step}
use Rattle.posix_terms.specs.declared.step.Step.TheVariants as step
use Rattle.lock_model.specs.State.{State, thread_of}
use Rattle.posix_terms.specs.Outcomes.{undated}
use Rattle.posix_terms.specs.declared.outcome.Given.{Given}

-- the state after these events. One that is not allowed where it stands changes nothing
abbrev pub run : Setup → List Event → State → State
run setup [] s = s
run setup (e ∷ es) s = run setup es (happens setup e s)

-- each event is allowed where it stands
abbrev pub IsRun : Setup → List Event → State → Type 0
IsRun setup [] s = Unit {0}
IsRun setup (e ∷ es) s = (is_allowed setup e s ≡ true) × IsRun setup es (happens setup e s)

-- the same setup, with these programs and outcomes
abbrev pub supplied : Setup → Supply → Setup
supplied setup given = record setup { supply = given }

-- what came so far: for each thread the steps that it asked, as a list, and its outcomes
abbrev pub own : State → Supply
own s = record { next = λ i. listed (thread_of s i).asked; outcomes = λ i. (thread_of s i).came }

-- what is given becomes what comes: the same outcome, and where it has a clock, that one
pub record Becomes (given came : Given) : Type 0 where
  pub same : undated given ≡ undated came
  pub clock : (given.clock ≡ None) ⊎ (given.clock ≡ came.clock)

-- what is kept of each outcome that came becomes it again
abbrev pub Keeps : (Given → Given) → Type 0
Keeps kept = (came : Given) → Becomes (kept came) came

-- the same programs, with what is kept of the outcomes that came so far
abbrev pub with_came : (Given → Given) → Supply → State → Supply
with_came kept given s =
    record { next = given.next; outcomes = λ i. map kept (thread_of s i).came }

-- a run leads from first to s
pub record LeadsTo (setup : Setup) (first s : State) : Type 0 where
  pub events : List Event
  pub allowed : IsRun setup events first
  pub ends : run setup events first ≡ s

-- s is the end of a run from first in which exactly those steps and outcomes came that s has
abbrev pub Arises : Setup → State → State → Type 0
Arises setup first s = LeadsTo (supplied setup (own s)) first s

-- how many calls are among these steps
abbrev pub calls_in : List Step → ℕ
calls_in [] = 0
calls_in (step.Work n ∷ xs) = calls_in xs
calls_in (step.Call c ∷ xs) = suc (calls_in xs)
calls_in (step.End ∷ xs) = calls_in xs

-- what stands at this place of the list becomes this
abbrev pub Supplies : List Given → ℕ → Given → Type 0
Supplies list n came = (given : Given) × (slice_get list n ≡ Some given) × Becomes given came

-- each step that was asked is the one that its program gives after the steps before it and the
-- replies to them, and each outcome that came is what that of its place in its list becomes
pub record Follows (given : Supply) (s : State) : Type 0 where
  pub steps : (i n : ℕ) (x : Step) → slice_get (thread_of s i).asked n ≡ Some x
      → let asked = take n (thread_of s i).asked in
      given.next i asked (take (calls_in asked) (thread_of s i).replies) ≡ Some x
  pub outcomes : (i n : ℕ) (o : Given) → slice_get (thread_of s i).came n ≡ Some o
      → Supplies (given.outcomes i) n o

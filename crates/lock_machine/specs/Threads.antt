-- Believed: a contract of the headline stands on it.
-- The threads of a run with their clocks.
use Rattle.std.specs.Prelude.{◌≡◌, ℕ, ◌≤◌, Bool, true, false, ◌&&◌, List, [], ◌∷◌, map, slice_set}
use Rattle.logical_clocks.specs.ThreadClocks.{clock_at, thread_at}
use Rattle.logical_clocks.specs.declared.clocks.ThreadClock.{ThreadClock}
use Rattle.posix_terms.specs.declared.step.Step.{Step}
use Rattle.lock_machine.specs.Lives.{is_live}
use Rattle.lock_machine.specs.declared.thread.Phase.{Phase}
use Rattle.lock_machine.specs.declared.thread.Phase.TheVariants as phase
use Rattle.lock_machine.specs.declared.thread.Thread as declared

-- a thread of a run: where it is, its clock, the steps that it asked, how many outcomes came
pub record Thread : Type 0 where
  pub phase : Phase
  pub clock : ℕ
  pub asked : List Step
  pub came : ℕ

-- a thread with this clock
abbrev pub timed : declared.Thread → ℕ → Thread
timed t clock = record { phase = t.phase; clock = clock; asked = t.asked; came = t.came }

-- each with its clock
abbrev pub joined : List declared.Thread → List ThreadClock → List Thread
joined [] clocks = []
joined (t ∷ threads) [] = timed t 0 ∷ joined threads []
joined (t ∷ threads) (c ∷ clocks) = timed t c.clock ∷ joined threads clocks

-- a thread in this phase has ended
abbrev pub is_ended : Phase → Bool
is_ended phase.Ended = true
is_ended p = false

-- each of these is so
abbrev pub all_true : List Bool → Bool
all_true [] = true
all_true (b ∷ bs) = b && all_true bs

-- all threads have ended
abbrev pub have_ended : List Thread → Bool
have_ended threads = all_true (map (λ (t : Thread). is_ended t.phase) threads)

-- no clock but that of thread i has changed, and this never goes back; thread i is live as its
-- phase says, if it was so before
pub record KeepsOthers (i : ℕ) (old : declared.Thread) (clocks : List ThreadClock)
    (new : declared.Thread) (later : List ThreadClock) : Type 0 where
  pub others : later ≡ slice_set clocks i (thread_at later i)
  pub forward : clock_at clocks i ≤ clock_at later i
  pub live : (let c : ThreadClock = thread_at clocks i in c.live) ≡ is_live old.phase
      → (let c : ThreadClock = thread_at later i in c.live) ≡ is_live new.phase

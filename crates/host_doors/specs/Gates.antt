-- Internal: no contract of the headline or of a command stands on it.
-- What a gate of a pair may answer.
use Rattle.std.specs.Prelude.{◌≡◌, ℕ, Bool, true, false}
use Rattle.host_doors.specs.declared.pair.HeldOutcome.{HeldOutcome}

-- the other call came, or another outcome is asked for: the
-- call goes on. Only a call for the outcome that
-- the gate holds is refused, and then that is shown
abbrev pub MayAnswer : HeldOutcome → ℕ → ℕ → Bool → HeldOutcome → Type 0
MayAnswer old thread number true new = new ≡ old
MayAnswer old thread number false new = (old.place ≡ record { thread = thread; number = number })
    × (new ≡ record old { missed = true })

-- Believed: a contract of the headline stands on it.
-- The turn order: which thread may attempt a lock, by the threads' clocks alone.
use Rattle.std.specs.Prelude.{◌≡◌, ℕ, zero, suc, ◌<◌, List, length, get_or, Option, Some, None}
use Rattle.std.specs.Prelude.{Bool, true, false, ◌&&◌, ◌||◌, ◌==◌, nat_lt}
use Rattle.posix_terms.specs.declared.transcript.Turn.{Turn}

-- by the clock, and at equal clocks by the thread
abbrev pub is_before : Turn → Turn → Bool
is_before a b = nat_lt a.clock b.clock || (a.clock == b.clock && nat_lt a.thread b.thread)

-- p holds of each number below n
abbrev pub all_below : ℕ → (ℕ → Bool) → Bool
all_below zero p = true
all_below (suc n) p = p n && all_below n p

-- the number that was found before, or else n, if the property holds of it
abbrev pub first_or : Option ℕ → Bool → ℕ → Option ℕ
first_or (Some j) b n = Some j
first_or None true n = Some n
first_or None false n = None

-- the least number below n of which p holds
unfoldable pub first_below : ℕ → (ℕ → Bool) → Option ℕ
first_below zero p = None
first_below (suc n) p = first_or (first_below n p) (p n) n

-- a number below n of which p holds, and of none before it, is the least
abbrev pub LeastIsFound : Type 0
LeastIsFound = (n k : ℕ) (p : ℕ → Bool) → k < n → first_below k p ≡ None → p k ≡ true
    → first_below n p ≡ Some k

-- thread j has ended, or is the thread of this turn, or comes after it
abbrev pub yields_at : Turn → ℕ → Option ℕ → Bool
yields_at turn j None = true
yields_at turn j (Some clock) = (j == turn.thread)
    || is_before turn (record { clock = clock; thread = j })

-- the clocks of the threads, in order: None where a thread has ended
unfoldable pub yields : List (Option ℕ) → Turn → ℕ → Bool
yields clocks turn j = yields_at turn j (get_or clocks j None)

-- thread i, with this clock if it has not ended, is live and before all other live threads
abbrev pub has_turn_at : List (Option ℕ) → ℕ → Option ℕ → Bool
has_turn_at clocks i None = false
has_turn_at clocks i (Some clock) =
    all_below (length clocks) (yields clocks (record { clock = clock; thread = i }))

-- thread i is live, and before all other live threads
unfoldable pub has_turn : List (Option ℕ) → ℕ → Bool
has_turn clocks i = has_turn_at clocks i (get_or clocks i None)

-- the thread that has the turn, where any thread is live
unfoldable pub turn_holder : List (Option ℕ) → Option ℕ
turn_holder clocks = first_below (length clocks) (has_turn clocks)

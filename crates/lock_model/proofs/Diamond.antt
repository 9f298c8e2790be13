-- Every run leads to where any other ends: two events that are allowed can be made in either order.
use Rattle.std.proofs.Common.{◌≡◌, ℕ, zero, suc, ◌⊎◌, List, [], ◌∷◌, Option, Some, None, true, false, is_some, sym}
use Rattle.std.proofs.Common.{refl, ap, ◌∙◌, subst, inl, inr, ⊎_elim}
use Rattle.std.proofs.lemmas.Bool.{false≢true, cases_eq, cases_Bool}
use Rattle.lock_model.specs.Machine.{Setup, Moved, Event, moves_in, within, moves, move, can_advance, wants}
use Rattle.lock_model.specs.Machine.{can_attempt, is_allowed, happens}
use Rattle.lock_model.specs.Machine.Event.{Advances, Attempts}
use Rattle.lock_model.specs.Runs.{run}
use Rattle.lock_model.specs.State.{Phase, Thread, State, thread_of, live_clocks}
use Rattle.lock_model.specs.State.Phase.{Working, WantsTable, WantsObject, Granted, ToOutside, Outside, Recorded}
use Rattle.lock_model.specs.State.Phase.{Blocked, Ended}
use Rattle.lock_model.proofs.Commute.{thread_advance, advance_comm, advance_move}
use Rattle.lock_model.proofs.Turn.{turn_unique}
use Rattle.lock_model.proofs.Attempt.{can_out, attempt_comm, attempt_not}

-- a thread that wants a lock makes no other event
wanting_stays : (setup : Setup) (i : ℕ) (t : Thread) (p : Phase) → wants p ≡ true → moves_in setup i t p ≡ None
wanting_stays setup i t (WantsTable c b) h = refl
wanting_stays setup i t (WantsObject c b clock n way) h = refl
wanting_stays setup i t Working h = absurd (false≢true h)
wanting_stays setup i t (Granted job) h = absurd (false≢true h)
wanting_stays setup i t (ToOutside job) h = absurd (false≢true h)
wanting_stays setup i t (Outside job) h = absurd (false≢true h)
wanting_stays setup i t (Recorded job) h = absurd (false≢true h)
wanting_stays setup i t (Blocked c b) h = absurd (false≢true h)
wanting_stays setup i t Ended h = absurd (false≢true h)

wanting_moves : (setup : Setup) (i : ℕ) (t : Thread) → wants t.phase ≡ true → moves setup i t ≡ None
unfolding moves
wanting_moves setup i t h = ap (within setup.limits.clock_limit) (wanting_stays setup i t t.phase h)

-- one thread never has two events
pub one_event : (setup : Setup) (s : State) (i : ℕ) → can_attempt setup s i ≡ true → can_advance setup s i ≡ true → ⊥
one_event setup s i can h = false≢true
    (sym (ap is_some (wanting_moves setup i (thread_of s i) (can_out setup s i can).wanting)) ∙ h)

-- two events that are allowed stay so after each other, and lead to one state
pub record Joins (setup : Setup) (e a : Event) (s : State) : Type 0 where
  pub can_e : is_allowed setup e (happens setup a s) ≡ true
  pub can_a : is_allowed setup a (happens setup e s) ≡ true
  pub same : happens setup a (happens setup e s) ≡ happens setup e (happens setup a s)

pub diamond : (setup : Setup) (s : State) (e a : Event) → is_allowed setup e s ≡ true → is_allowed setup a s ≡ true
    → (e ≡ a) ⊎ Joins setup e a s
diamond setup s (Advances i) (Advances j) h g =
    ⊎_elim
    (λ (same : i ≡ j). inl (ap Advances same))
    (λ (apart : i ≡ j → ⊥).
    inr
    (record {
      can_e = ap (λ (t : Thread). is_some (moves setup i t)) (thread_advance setup j i s (λ q. apart (sym q))) ∙ h;
      can_a = ap (λ (t : Thread). is_some (moves setup j t)) (thread_advance setup i j s apart) ∙ g;
      same = sym (advance_comm setup i j s apart);
    }))
    (cases_eq i j)
diamond setup s (Advances i) (Attempts j) h g =
    ⊎_elim
    (λ (same : j ≡ i). absurd (one_event setup s i (subst (λ (k : ℕ). can_attempt setup s k ≡ true) same g) h))
    (λ (apart : j ≡ i → ⊥). let c = attempt_comm setup j i s apart g h in
    inr (record { can_e = c.can_advance; can_a = c.can_attempt; same = c.same }))
    (cases_eq j i)
diamond setup s (Attempts i) (Advances j) h g =
    ⊎_elim
    (λ (same : i ≡ j). absurd (one_event setup s j (subst (λ (k : ℕ). can_attempt setup s k ≡ true) same h) g))
    (λ (apart : i ≡ j → ⊥). let c = attempt_comm setup i j s apart h g in
    inr (record { can_e = c.can_attempt; can_a = c.can_advance; same = sym c.same }))
    (cases_eq i j)
diamond setup s (Attempts i) (Attempts j) h g =
    inl (ap Attempts (turn_unique (live_clocks s) i j (can_out setup s i h).turn (can_out setup s j g).turn))

pub not_allowed : (setup : Setup) (e : Event) (s : State) → is_allowed setup e s ≡ false → happens setup e s ≡ s
not_allowed setup (Attempts i) s h = attempt_not setup i s h
not_allowed setup (Advances i) s h = advance_move setup i s
    ∙ ap (λ (o : Option Moved). move i o s) (none_by (moves setup i (thread_of s i)) h)
  where
    none_by : {A : Type 0} (o : Option A) → is_some o ≡ false → o ≡ None
    none_by None h = refl
    none_by (Some x) h = absurd (false≢true (sym h))

-- ## States that lead to a last one

-- by so many allowed events
abbrev pub Leads : Setup → ℕ → State → State → Type 0
Leads setup zero s last = s ≡ last
Leads setup (suc n) s last = (e : Event) × (is_allowed setup e s ≡ true) × Leads setup n (happens setup e s) last

abbrev pub Reaches : Setup → State → State → Type 0
Reaches setup s last = (n : ℕ) × Leads setup n s last

abbrev pub IsStill : Setup → State → Type 0
IsStill setup s = (e : Event) → is_allowed setup e s ≡ false

-- where some events lead to a last state, each other event that is allowed leads there too
pub reaches_on : (setup : Setup) (n : ℕ) (s last : State) (e : Event) → IsStill setup last → Leads setup n s last
    → is_allowed setup e s ≡ true → Reaches setup (happens setup e s) last
reaches_on setup zero s last e still h can =
    absurd (false≢true (sym (subst (λ (z : State). is_allowed setup e z ≡ false) (sym h) (still e)) ∙ can))
reaches_on setup (suc n) s last e still (a, able, rest) can =
    ⊎_elim
    (λ (same : e ≡ a). (n, subst (λ (x : Event). Leads setup n (happens setup x s) last) (sym same) rest))
    (λ (j : Joins setup e a s).
    let r = reaches_on setup n (happens setup a s) last e still rest j.can_e in
    (suc r.0, (a, j.can_a, subst (λ (z : State). Leads setup r.0 z last) (sym j.same) r.1)))
    (diamond setup s e a can able)

pub reaches_event : (setup : Setup) (s last : State) (e : Event) → IsStill setup last → Reaches setup s last
    → Reaches setup (happens setup e s) last
reaches_event setup s last e still h =
    ⊎_elim
    (λ (can : is_allowed setup e s ≡ true). reaches_on setup h.0 s last e still h.1 can)
    (λ (off : is_allowed setup e s ≡ false). subst (λ (z : State). Reaches setup z last)
    (sym (not_allowed setup e s off)) h)
    (cases_Bool (is_allowed setup e s))

pub reaches_run : (setup : Setup) (events : List Event) (s last : State) → IsStill setup last → Reaches setup s last
    → Reaches setup (run setup events s) last
reaches_run setup [] s last still h = h
reaches_run setup (e ∷ es) s last still h = reaches_run setup es (happens setup e s) last still
    (reaches_event setup s last e still h)

pub still_same : (setup : Setup) (s last : State) → Reaches setup s last → IsStill setup s → s ≡ last
still_same setup s last (zero, h) still = h
still_same setup s last (suc n, (e, can, rest)) still = absurd (false≢true (sym (still e) ∙ can))

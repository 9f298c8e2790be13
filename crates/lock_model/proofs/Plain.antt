-- The plain run is a run, and each run leads to its end.
use Rattle.std.proofs.Common.{◌≡◌, ℕ, zero, suc, ◌<◌, ◌≤◌, List, length, Option, Some, None, Bool, true, false, is_some}
use Rattle.std.proofs.Common.{sym, refl, ap, ◌∙◌, subst, ⊎_elim, arith}
use Rattle.std.proofs.lemmas.Bool.{false≢true, cond-true, cond-false, cases_eq, cases_Bool, cases_lt}
use Rattle.std.proofs.lemmas.List.{get_or_past}
use Rattle.std.proofs.lemmas.Option.{same_Some, none-some}
use Rattle.lock_model.specs.Machine.{Setup, Event, moves, can_advance, can_attempt, is_allowed, happens}
use Rattle.lock_model.specs.Machine.Event.{Advances, Attempts}
use Rattle.lock_model.specs.Runs.{run}
use Rattle.lock_model.specs.Schedule.{EndsIn, IsOver, next_event, plain, plain_run, advance_by, attempt_by, after_event}
use Rattle.lock_model.specs.State.{Thread, State, nobody, live_clocks}
use Rattle.logical_clocks.specs.TurnOrder.{first_or, first_below, has_turn, turn_holder}
use Rattle.lock_model.proofs.Turn.{turn_unique, turn_out, clock_within}
use Rattle.lock_model.proofs.Attempt.{can_out}
use Rattle.lock_model.proofs.Diamond.{Leads, Reaches, IsStill, reaches_event, reaches_run, still_same}

first_some_by : (n : ℕ) (p : ℕ → Bool) (i : ℕ) (o : Option ℕ) (b : Bool) → p n ≡ b → (o ≡ Some i → p i ≡ true)
    → first_or o b n ≡ Some i → p i ≡ true
first_some_by n p i (Some j) b q below h = below h
first_some_by n p i None true q below h = subst (λ (k : ℕ). p k ≡ true) (same_Some n i h) q
first_some_by n p i None false q below h = absurd (none-some i h)

pub first_some : (n : ℕ) (p : ℕ → Bool) (i : ℕ) → first_below n p ≡ Some i → p i ≡ true
unfolding first_below
first_some zero p i h = absurd (none-some i h)
first_some (suc n) p i h = first_some_by n p i (first_below n p) (p n) refl (first_some n p i) h

first_or_none : (o : Option ℕ) (b : Bool) (n : ℕ) → first_or o b n ≡ None → (o ≡ None) × (b ≡ false)
first_or_none (Some j) b n h = absurd (none-some j (sym h))
first_or_none None true n h = absurd (none-some n (sym h))
first_or_none None false n h = (refl, refl)

pub first_none : (n i : ℕ) (p : ℕ → Bool) → first_below n p ≡ None → i < n → p i ≡ false
unfolding first_below
first_none zero i p h l = absurd (omega arith)
first_none (suc n) i p h l =
    let parts = first_or_none (first_below n p) (p n) n h in
    ⊎_elim (λ (e : i ≡ n). subst (λ (k : ℕ). p k ≡ false) (sym e) parts.1)
    (λ (e : i ≡ n → ⊥). first_none n i p parts.0 (omega arith)) (cases_eq i n)

-- ## The next event

attempt_by_some : (setup : Setup) (s : State) (o : Option ℕ) (e : Event) → attempt_by setup s o ≡ Some e
    → is_allowed setup e s ≡ true
attempt_by_some setup s None e h = absurd (none-some e h)
attempt_by_some setup s (Some i) e h =
    ⊎_elim
    (λ (can : can_attempt setup s i ≡ true).
    let same : Attempts i ≡ e = same_Some (Attempts i) e
    (sym (cond-true (can_attempt setup s i) (Some (Attempts i)) None can) ∙ h) in
    subst (λ (x : Event). is_allowed setup x s ≡ true) same can)
    (λ (off : can_attempt setup s i ≡ false).
    absurd (none-some e (sym (cond-false (can_attempt setup s i) (Some (Attempts i)) None off) ∙ h)))
    (cases_Bool (can_attempt setup s i))

advance_by_some : (setup : Setup) (s : State) (o : Option ℕ) (e : Event)
    → first_below (length s.threads) (can_advance setup s) ≡ o → advance_by setup s o ≡ Some e
    → is_allowed setup e s ≡ true
advance_by_some setup s (Some i) e q h = subst (λ (x : Event). is_allowed setup x s ≡ true) (same_Some (Advances i) e h)
    (first_some (length s.threads) (can_advance setup s) i q)
advance_by_some setup s None e q h = attempt_by_some setup s (turn_holder (live_clocks s)) e h

pub next_allowed : (setup : Setup) (s : State) (e : Event) → next_event setup s ≡ Some e → is_allowed setup e s ≡ true
unfolding next_event
next_allowed setup s e h = advance_by_some setup s (first_below (length s.threads) (can_advance setup s)) e refl h

advance_by_none : (setup : Setup) (s : State) (o : Option ℕ) → advance_by setup s o ≡ None → (o ≡ None)
    × (attempt_by setup s (turn_holder (live_clocks s)) ≡ None)
advance_by_none setup s (Some i) h = absurd (none-some (Advances i) (sym h))
advance_by_none setup s None h = (refl, h)

nobody_moves : (setup : Setup) (i : ℕ) → moves setup i nobody ≡ None
unfolding moves
nobody_moves setup i = refl

attempt_by_none : (setup : Setup) (s : State) (i : ℕ) (o : Option ℕ) → turn_holder (live_clocks s) ≡ o
    → attempt_by setup s o ≡ None → can_attempt setup s i ≡ true → ⊥
unfolding turn_holder
attempt_by_none setup s i None q h can =
    let turn = (can_out setup s i can).turn in
    let l = clock_within (live_clocks s) i (turn_out (live_clocks s) i turn).clock
    (turn_out (live_clocks s) i turn).live in
    false≢true (sym (first_none (length (live_clocks s)) i (has_turn (live_clocks s)) q l) ∙ turn)
attempt_by_none setup s i (Some k) q h can =
    let same : k ≡ i = turn_unique (live_clocks s) k i
    (first_some (length (live_clocks s)) (has_turn (live_clocks s)) k q) (can_out setup s i can).turn in
    none-some (Attempts k) (sym h ∙ cond-true (can_attempt setup s k) (Some (Attempts k)) None
    (ap (can_attempt setup s) same ∙ can))

is_false : (b : Bool) → (b ≡ true → ⊥) → b ≡ false
is_false true h = absurd (h refl)
is_false false h = refl

-- where the plain run has come to its end, no event at all is allowed
pub over_still : (setup : Setup) (s : State) → IsOver setup s → IsStill setup s
unfolding next_event
over_still setup s h (Advances i) =
    let parts = advance_by_none setup s (first_below (length s.threads) (can_advance setup s)) h in
    ⊎_elim
    (λ (l : i < length s.threads). first_none (length s.threads) i (can_advance setup s) parts.0 l)
    (λ (l : length s.threads ≤ i). ap (λ (t : Thread). is_some (moves setup i t)) (get_or_past s.threads i nobody l)
    ∙ ap is_some (nobody_moves setup i))
    (cases_lt i (length s.threads))
over_still setup s h (Attempts i) =
    let parts = advance_by_none setup s (first_below (length s.threads) (can_advance setup s)) h in
    is_false (can_attempt setup s i) (attempt_by_none setup s i (turn_holder (live_clocks s)) refl parts.1)

-- ## The plain run

pub plain_event : (setup : Setup) (s : State) (e : Event) → next_event setup s ≡ Some e
    → plain setup s ≡ happens setup e s
unfolding plain
plain_event setup s e h = ap (after_event setup s) h

pub plain_over : (setup : Setup) (s : State) → next_event setup s ≡ None → plain setup s ≡ s
unfolding plain
plain_over setup s h = ap (after_event setup s) h

-- what a plain event makes of a state is the state, or what an allowed event makes of it
pub plain_elim : (setup : Setup) (s : State) (P : State → Type 0) (o : Option Event) → next_event setup s ≡ o → P s
    → ((e : Event) → next_event setup s ≡ Some e → P (happens setup e s)) → P (plain setup s)
plain_elim setup s P None h same event = subst P (sym (plain_over setup s h)) same
plain_elim setup s P (Some e) h same event = subst P (sym (plain_event setup s e h)) (event e h)

plain_back : (setup : Setup) (s last : State) (o : Option Event) → next_event setup s ≡ o
    → Reaches setup (plain setup s) last → Reaches setup s last
plain_back setup s last None h r = subst (λ (z : State). Reaches setup z last) (plain_over setup s h) r
plain_back setup s last (Some e) h r = (
  suc r.0,
  (
    e,
    next_allowed setup s e h,
    subst (λ (z : State). Leads setup r.0 z last) (plain_event setup s e h)
        r.1,
  ),
)

pub plain_reaches : (setup : Setup) (n : ℕ) (s last : State) → plain_run setup n s ≡ last → Reaches setup s last
unfolding plain_run
plain_reaches setup zero s last h = (zero, h)
plain_reaches setup (suc n) s last h = plain_back setup s last (next_event setup s) refl
    (plain_reaches setup n (plain setup s) last h)

pub reaches_plain : (setup : Setup) (n : ℕ) (s last : State) → IsStill setup last → Reaches setup s last
    → Reaches setup (plain_run setup n s) last
unfolding plain_run
reaches_plain setup zero s last still h = h
reaches_plain setup (suc n) s last still h =
    reaches_plain setup n (plain setup s) last still
    (plain_elim setup s (λ (z : State). Reaches setup z last) (next_event setup s) refl h
    (λ e q. reaches_event setup s last e still h))

pub end_still : (setup : Setup) (first last : State) → EndsIn setup first last → IsStill setup last
end_still setup first last h = over_still setup last h.over

-- each state of a run leads to the end of the plain run
pub run_reaches : (setup : Setup) (first last : State) (events : List Event) → EndsIn setup first last
    → Reaches setup (run setup events first) last
run_reaches setup first last events h = reaches_run setup events first last (end_still setup first last h)
    (plain_reaches setup h.count first last h.reached)

pub stuck_law : (setup : Setup) (first last : State) (events : List Event) → EndsIn setup first last
    → IsStill setup (run setup events first) → run setup events first ≡ last
stuck_law setup first last events h still =
    still_same setup (run setup events first) last (run_reaches setup first last events h) still

pub unique_end : (setup : Setup) (first last other : State) → EndsIn setup first last → EndsIn setup first other
    → last ≡ other
unique_end setup first last other h g =
    sym
    (still_same setup other last
    (subst (λ (z : State). Reaches setup z last) g.reached
    (reaches_plain setup g.count first last (end_still setup first last h)
    (plain_reaches setup h.count first last h.reached)))
    (end_still setup first other g))

-- Who has the turn keeps it while others make events that need none.
use Rattle.std.proofs.Common.{◌≡◌, ℕ, zero, suc, ◌+◌, ◌<◌, ◌≤◌, ◌⊎◌, List, [], ◌∷◌, length, map, get_or, slice_get}
use Rattle.std.proofs.Common.{Option, Some, None, Bool, true, false, not, ◌&&◌, ◌||◌, cond, nat_lt, nat_le, ◌==◌, sym}
use Rattle.std.proofs.Common.{refl, ap, ◌∙◌, subst, inl, inr, ⊎_elim, arith}
use Rattle.std.proofs.lemmas.Bool.{false≢true, ltb-true, leb-true, eqb-true, lt-ltb, eq-eqb, and_parts, and_from}
use Rattle.std.proofs.lemmas.Bool.{or_cases, or_left, or_right, cases_eq, cases_lt}
use Rattle.std.proofs.lemmas.List.{get_or-set_same, get_or_past}
use Rattle.std.proofs.lemmas.Option.{same_Some, none-some}
use Rattle.lock_model.specs.CallTable.{CallTable, has_object, keeps_table}
use Rattle.sequential_object.specs.declared.turn_end.TurnEnd.{TurnEnd}
use Rattle.sequential_object.specs.declared.turn_end.TurnEnd.TheVariants as turn_end
use Rattle.lock_model.specs.Machine.{Setup, Moved, quietly, after_step, ask, fits_job, with_outcome, record_outcome}
use Rattle.lock_model.specs.Machine.{one_if, answered, answer, again, moves_in, within, moves, move}
use Rattle.posix_terms.specs.declared.step.Step.{Step}
use Rattle.posix_terms.specs.declared.step.Step.TheVariants as step
use Rattle.lock_model.specs.State.{Job, Phase, Thread, State, nobody, thread_of, live_clock_in, live_clock, live_clocks}
use Rattle.lock_model.specs.State.Phase.{Working, Granted, ToOutside, Outside, Recorded, Blocked, Ended}
use Rattle.posix_terms.specs.Calls.{Call}
use Rattle.posix_terms.specs.declared.outcome.Given.{Given}
use Rattle.logical_clocks.specs.TurnOrder.{is_before, all_below, yields_at, yields, has_turn_at, has_turn}
use Rattle.posix_terms.specs.declared.transcript.Turn.{Turn}
use Rattle.lock_model.proofs.Commute.{thread_move}

-- ## The test, as facts

all_below_at : (n j : ℕ) (p : ℕ → Bool) → all_below n p ≡ true → j < n → p j ≡ true
all_below_at zero j p h l = absurd (omega arith)
all_below_at (suc n) j p h l =
    let parts = and_parts (p n) (all_below n p) h in
    ⊎_elim (λ (e : j ≡ n). subst (λ (k : ℕ). p k ≡ true) (sym e) parts.0)
    (λ (e : j ≡ n → ⊥). all_below_at n j p parts.1 (omega arith)) (cases_eq j n)

all_below_from : (n : ℕ) (p : ℕ → Bool) → ((j : ℕ) → j < n → p j ≡ true) → all_below n p ≡ true
all_below_from zero p h = refl
all_below_from (suc n) p h = and_from (p n) (all_below n p) (h n (omega arith))
    (all_below_from n p (λ j l. h j (omega arith)))

abbrev pub IsEarlier : ℕ → ℕ → ℕ → ℕ → Type 0
IsEarlier c i d j = (c < d) ⊎ ((c ≡ d) × (i < j))

pub before_out : (a b : Turn) → is_before a b ≡ true → IsEarlier a.clock a.thread b.clock b.thread
before_out a b h =
    ⊎_elim
    (λ (l : nat_lt a.clock b.clock ≡ true). inl (ltb-true a.clock b.clock l))
    (λ (l : (a.clock == b.clock && nat_lt a.thread b.thread) ≡ true).
    let parts = and_parts (a.clock == b.clock) (nat_lt a.thread b.thread) l in
    inr (eqb-true a.clock b.clock parts.0, ltb-true a.thread b.thread parts.1))
    (or_cases (nat_lt a.clock b.clock) (a.clock == b.clock && nat_lt a.thread b.thread) h)

pub before_in : (a b : Turn) → IsEarlier a.clock a.thread b.clock b.thread → is_before a b ≡ true
before_in a b (inl l) = or_left (nat_lt a.clock b.clock) (a.clock == b.clock && nat_lt a.thread b.thread)
    (lt-ltb a.clock b.clock l)
before_in a b (inr l) =
    or_right (nat_lt a.clock b.clock) (a.clock == b.clock && nat_lt a.thread b.thread)
    (and_from (a.clock == b.clock) (nat_lt a.thread b.thread) (eq-eqb a.clock b.clock l.0)
    (lt-ltb a.thread b.thread l.1))

pub clock_within : (clocks : List (Option ℕ)) (i c : ℕ) → get_or clocks i None ≡ Some c → i < length clocks
clock_within clocks i c h =
    ⊎_elim
    (λ (l : i < length clocks). l)
    (λ (l : length clocks ≤ i). absurd (none-some c (sym (get_or_past clocks i None l) ∙ h)))
    (cases_lt i (length clocks))

-- thread i is live, and earlier than all other live threads
pub record HasTurn (clocks : List (Option ℕ)) (i : ℕ) : Type 0 where
  pub clock : ℕ
  pub live : get_or clocks i None ≡ Some clock
  pub first : (j d : ℕ) → get_or clocks j None ≡ Some d → (j ≡ i → ⊥) → IsEarlier clock i d j

yields_out : (clocks : List (Option ℕ)) (t : Turn) (j d : ℕ) → get_or clocks j None ≡ Some d → (j ≡ t.thread → ⊥)
    → yields clocks t j ≡ true → IsEarlier t.clock t.thread d j
unfolding yields
yields_out clocks t j d e apart h =
    let g : ((j == t.thread) || is_before t (record { clock = d; thread = j })) ≡ true = sym (ap (yields_at t j) e)
    ∙ h in
    ⊎_elim
    (λ (q : (j == t.thread) ≡ true). absurd (apart (eqb-true j t.thread q)))
    (λ (q : is_before t (record { clock = d; thread = j }) ≡ true). before_out t (record { clock = d; thread = j }) q)
    (or_cases (j == t.thread) (is_before t (record { clock = d; thread = j })) g)

yields_by : (t : Turn) (j : ℕ) (o : Option ℕ)
    → ((d : ℕ) → o ≡ Some d → (j ≡ t.thread → ⊥) → IsEarlier t.clock t.thread d j) → yields_at t j o ≡ true
yields_by t j None h = refl
yields_by t j (Some d) h =
    ⊎_elim
    (λ (e : j ≡ t.thread). or_left (j == t.thread) (is_before t (record { clock = d; thread = j }))
    (eq-eqb j t.thread e))
    (λ (e : j ≡ t.thread → ⊥). or_right (j == t.thread) (is_before t (record { clock = d; thread = j }))
    (before_in t (record { clock = d; thread = j }) (h d refl e)))
    (cases_eq j t.thread)

turn_out_at : (clocks : List (Option ℕ)) (i : ℕ) (o : Option ℕ) → get_or clocks i None ≡ o
    → has_turn_at clocks i o ≡ true → HasTurn clocks i
turn_out_at clocks i None e h = absurd (false≢true h)
turn_out_at clocks i (Some c) e h =
    record {
      clock = c;
      live = e;
      first = λ j d q apart. yields_out clocks (record { clock = c; thread = i }) j d q apart
          (all_below_at (length clocks) j (yields clocks (record { clock = c; thread = i })) h
          (clock_within clocks j d q));
    }

pub turn_out : (clocks : List (Option ℕ)) (i : ℕ) → has_turn clocks i ≡ true → HasTurn clocks i
unfolding has_turn
turn_out clocks i h = turn_out_at clocks i (get_or clocks i None) refl h

pub turn_in : (clocks : List (Option ℕ)) (i : ℕ) → HasTurn clocks i → has_turn clocks i ≡ true
unfolding has_turn yields
turn_in clocks i h =
    ap (has_turn_at clocks i) h.live
    ∙ all_below_from (length clocks) (yields clocks (record { clock = h.clock; thread = i }))
    (λ j l. yields_by (record { clock = h.clock; thread = i }) j (get_or clocks j None)
    (λ d e apart. h.first j d e apart))

-- one thread has the turn
pub turn_unique : (clocks : List (Option ℕ)) (i j : ℕ) → has_turn clocks i ≡ true → has_turn clocks j ≡ true → i ≡ j
turn_unique clocks i j h g =
    let hi = turn_out clocks i h in
    let hj = turn_out clocks j g in
    ⊎_elim
    (λ (e : i ≡ j). e)
    (λ (e : i ≡ j → ⊥).
    let a : IsEarlier hi.clock i hj.clock j = hi.first j hj.clock hj.live (λ q. e (sym q)) in
    let b : IsEarlier hj.clock j hi.clock i = hj.first i hi.clock hi.live e in
    absurd (omega arith))
    (cases_eq i j)

-- ## The clocks of a state

pub map_at : {A B : Type 0} (f : A → B) (xs : List A) (i : ℕ) (d : A) → get_or (map f xs) i (f d) ≡ f (get_or xs i d)
map_at f [] i d = refl
map_at f (x ∷ xs) zero d = refl
map_at f (x ∷ xs) (suc i) d = map_at f xs i d

pub clock_at : (s : State) (i : ℕ) → get_or (live_clocks s) i None ≡ live_clock (thread_of s i)
clock_at s i = map_at live_clock s.threads i nobody

-- thread i has the turn in a state
pub record Leading (s : State) (i : ℕ) : Type 0 where
  pub live : live_clock (thread_of s i) ≡ Some (thread_of s i).clock
  pub first : (j : ℕ) → live_clock (thread_of s j) ≡ Some (thread_of s j).clock → (j ≡ i → ⊥)
      → IsEarlier (thread_of s i).clock i (thread_of s j).clock j

live_clock_is : (p : Phase) (c d : ℕ) → live_clock_in p c ≡ Some d → d ≡ c
live_clock_is Ended c d h = absurd (none-some d h)
live_clock_is p c d h = same_Some d c (sym h)

pub leading_out : (s : State) (i : ℕ) → has_turn (live_clocks s) i ≡ true → Leading s i
leading_out s i h =
    let g = turn_out (live_clocks s) i h in
    let here : live_clock (thread_of s i) ≡ Some g.clock = sym (clock_at s i) ∙ g.live in
    let e : g.clock ≡ (thread_of s i).clock = live_clock_is (thread_of s i).phase (thread_of s i).clock g.clock here in
    record {
      live = here ∙ ap (λ (c : ℕ). Some c) e;
      first = λ j q apart. subst (λ (c : ℕ). IsEarlier c i (thread_of s j).clock j) e
          (g.first j (thread_of s j).clock (clock_at s j ∙ q) apart);
    }

pub leading_in : (s : State) (i : ℕ) → Leading s i → has_turn (live_clocks s) i ≡ true
leading_in s i h =
    turn_in (live_clocks s) i
    (record {
      clock = (thread_of s i).clock;
      live = clock_at s i ∙ h.live;
      first = λ j d q apart.
          let there : live_clock (thread_of s j) ≡ Some d = sym (clock_at s j) ∙ q in
          let e : d ≡ (thread_of s j).clock = live_clock_is (thread_of s j).phase (thread_of s j).clock d there in
          subst (λ (c : ℕ). IsEarlier (thread_of s i).clock i c j) (sym e)
          (h.first j (there ∙ ap (λ (c : ℕ). Some c) e) apart);
    })

-- ## Who moves

abbrev pub IsLate : ℕ → Option ℕ → Type 0
IsLate c None = Unit {0}
IsLate c (Some r) = c ≤ r

-- the clock does not fall, and what is freed is freed at it or later
pub record IsLater (c : ℕ) (m : Moved) : Type 0 where
  pub clock : c ≤ m.thread.clock
  pub object_late : IsLate c m.effect.object_freed
  pub table_late : IsLate c m.effect.table_freed

later_step : (calls : CallTable) (t : Thread) (x : Step) → IsLater t.clock (quietly (after_step calls t x))
later_step calls t (step.Work n) = record { clock = omega arith; object_late = tt; table_late = tt }
later_step calls t (step.Call c) = record { clock = omega arith; object_late = tt; table_late = tt }
later_step calls t step.End = record { clock = omega arith; object_late = tt; table_late = tt }

later_ask : (calls : CallTable) (t : Thread) (o : Option Step) (m : Moved) → ask calls t o ≡ Some m → IsLater t.clock m
later_ask calls t None m h = absurd (none-some m h)
later_ask calls t (Some x) m h = subst (IsLater t.clock) (same_Some (quietly (after_step calls t x)) m h)
    (later_step calls t x)

later_if : (b : Bool) (t : Thread) (n m : Moved) → IsLater t.clock n → cond b (Some n) None ≡ Some m → IsLater t.clock m
later_if true t n m l h = subst (IsLater t.clock) (same_Some n m h) l
later_if false t n m l h = absurd (none-some m h)

later_record : (calls : CallTable) (t : Thread) (job : Job) (o : Option Given) (m : Moved)
    → record_outcome calls t job o ≡ Some m → IsLater t.clock m
later_record calls t job None m h = absurd (none-some m h)
later_record calls t job (Some o) m h = later_if (fits_job calls job o) t (with_outcome t job o) m
    (record { clock = omega arith; object_late = tt; table_late = tt }) h

answered_clock : (t : Thread) (c : Call) (n : ℕ) (a : TurnEnd) → (answered t c n a).clock ≡ n
answered_clock t c n (turn_end.Reply r) = refl
answered_clock t c n (turn_end.Blocked b) = refl

later_answer : (calls : CallTable) (t : Thread) (job : Job) → IsLater t.clock (answer calls t job)
later_answer calls t job =
    let o = one_if (has_object job.plan) in
    let u = one_if (not (has_object job.plan) || keeps_table job.plan) in
    let a = calls.answer job.found job.call job.outcome job.carried in
    let e = answered_clock t job.call (t.clock + o + u) a in
    record { clock = omega arith; object_late = omega arith; table_late = omega arith }

later_in : (setup : Setup) (i : ℕ) (t : Thread) (p : Phase) (m : Moved) → moves_in setup i t p ≡ Some m
    → IsLater t.clock m
later_in setup i t Working m h = later_ask setup.calls t (setup.supply.next i t.asked t.replies) m h
later_in setup i t (Granted job) m h = subst (IsLater t.clock) (same_Some (answer setup.calls t job) m h)
    (later_answer setup.calls t job)
later_in setup i t (ToOutside job) m h =
    later_if (nat_lt (length t.came) setup.limits.outcome_limit) t
    (quietly (record t { phase = Outside job; clock = t.clock + setup.limits.door_cost })) m
    (record { clock = omega arith; object_late = tt; table_late = tt }) h
later_in setup i t (Outside job) m h =
    later_record setup.calls t job (slice_get (setup.supply.outcomes i) (length t.came)) m h
later_in setup i t (Recorded job) m h = subst (IsLater t.clock) (same_Some (answer setup.calls t job) m h)
    (later_answer setup.calls t job)
later_in setup i t (Blocked c b) m h = subst (IsLater t.clock) (same_Some (again t c b) m h)
    (record { clock = omega arith; object_late = tt; table_late = tt })
later_in setup i t p m h = absurd (none-some m h)

within_if : (b : Bool) (n m : Moved) → cond b (Some n) None ≡ Some m → (Some n ≡ Some m) × (b ≡ true)
within_if true n m h = (h, refl)
within_if false n m h = absurd (none-some m h)

within_out : (limit : ℕ) (o : Option Moved) (m : Moved) → within limit o ≡ Some m → (o ≡ Some m)
    × (m.thread.clock ≤ limit)
within_out limit None m h = absurd (none-some m h)
within_out limit (Some n) m h =
    let g = within_if (nat_le n.thread.clock limit) n m h in
    (g.0, subst (λ (k : Moved). k.thread.clock ≤ limit) (same_Some n m g.0) (leb-true n.thread.clock limit g.1))

-- what a move is, by the phase of its thread
pub moves_out : (setup : Setup) (i : ℕ) (t : Thread) (m : Moved) → moves setup i t ≡ Some m
    → (moves_in setup i t t.phase ≡ Some m) × (m.thread.clock ≤ setup.limits.clock_limit)
unfolding moves
moves_out setup i t m h = within_out setup.limits.clock_limit (moves_in setup i t t.phase) m h

pub moves_later : (setup : Setup) (i : ℕ) (t : Thread) (m : Moved) → moves setup i t ≡ Some m → IsLater t.clock m
moves_later setup i t m h = later_in setup i t t.phase m (moves_out setup i t m h).0

live_in : (setup : Setup) (i : ℕ) (t : Thread) (p : Phase) (m : Moved) (c : ℕ) → moves_in setup i t p ≡ Some m
    → live_clock_in p c ≡ Some c
live_in setup i t Ended m c h = absurd (none-some m h)
live_in setup i t p m c h = refl

-- who moves is live
pub moves_live : (setup : Setup) (i : ℕ) (t : Thread) (m : Moved) → moves setup i t ≡ Some m
    → live_clock t ≡ Some t.clock
moves_live setup i t m h = live_in setup i t t.phase m t.clock (moves_out setup i t m h).0

-- ## The turn stays while others move

pub IsLate-trans : (c d : ℕ) (o : Option ℕ) → c ≤ d → IsLate d o → IsLate c o
IsLate-trans c d None l h = tt
IsLate-trans c d (Some r) l h = omega arith

pub leading_clock : (s : State) (i j : ℕ) → Leading s i → live_clock (thread_of s j) ≡ Some (thread_of s j).clock
    → (j ≡ i → ⊥) → (thread_of s i).clock ≤ (thread_of s j).clock
leading_clock s i j h e apart =
    let a : IsEarlier (thread_of s i).clock i (thread_of s j).clock j = h.first j e apart in
    omega arith

thread_moved_at : (s : State) (j : ℕ) (m : Moved) → j < length s.threads → thread_of (move j (Some m) s) j ≡ m.thread
thread_moved_at s j m l = get_or-set_same s.threads j m.thread nobody l

-- a live thread is there
pub live_within : (s : State) (j c : ℕ) → live_clock (thread_of s j) ≡ Some c → j < length s.threads
live_within s j c h =
    ⊎_elim
    (λ (l : j < length s.threads). l)
    (λ (l : length s.threads ≤ j). absurd (none-some c (sym (ap live_clock (get_or_past s.threads j nobody l)) ∙ h)))
    (cases_lt j (length s.threads))

pub thread_moved : (setup : Setup) (s : State) (j : ℕ) (m : Moved) → moves setup j (thread_of s j) ≡ Some m
    → thread_of (move j (Some m) s) j ≡ m.thread
thread_moved setup s j m h = thread_moved_at s j m
    (live_within s j (thread_of s j).clock (moves_live setup j (thread_of s j) m h))

pub leading_move : (setup : Setup) (s : State) (i j : ℕ) (m : Moved) → (j ≡ i → ⊥)
    → moves setup j (thread_of s j) ≡ Some m → Leading s i → Leading (move j (Some m) s) i
leading_move setup s i j m apart e h =
    let mine : thread_of (move j (Some m) s) i ≡ thread_of s i = thread_move j i (Some m) s apart in
    record {
      live = ap live_clock mine ∙ (h.live ∙ ap (λ (t : Thread). Some t.clock) (sym mine));
      first = λ k q off.
          subst (λ (t : Thread). IsEarlier t.clock i (thread_of (move j (Some m) s) k).clock k) (sym mine)
          (⊎_elim
          (λ (same : j ≡ k).
          let now : thread_of (move j (Some m) s) k ≡ m.thread =
          subst (λ (n : ℕ). thread_of (move j (Some m) s) n ≡ m.thread) same (thread_moved setup s j m e) in
          let before = h.first j (moves_live setup j (thread_of s j) m e) apart in
          let late = (moves_later setup j (thread_of s j) m e).clock in
          subst (λ (t : Thread). IsEarlier (thread_of s i).clock i t.clock k) (sym now)
          (subst (λ (n : ℕ). IsEarlier (thread_of s i).clock i m.thread.clock n) same
          (earlier_on (thread_of s i).clock i (thread_of s j).clock m.thread.clock j before late)))
          (λ (other : j ≡ k → ⊥).
          let now : thread_of (move j (Some m) s) k ≡ thread_of s k = thread_move j k (Some m) s other in
          subst (λ (t : Thread). IsEarlier (thread_of s i).clock i t.clock k) (sym now)
          (h.first k (sym (ap live_clock now) ∙ (q ∙ ap (λ (t : Thread). Some t.clock) now)) off))
          (cases_eq j k));
    }
  where
    earlier_on : (c i d e j : ℕ) → IsEarlier c i d j → d ≤ e → IsEarlier c i e j
    earlier_on c i d e j (inl l) h = inl (omega arith)
    earlier_on c i d e j (inr l) h = ⊎_elim (λ (q : c < e). inl q) (λ (q : e ≤ c). inr (omega arith, l.1))
        (cases_lt c e)

-- Attempts that fail are skipped, up to a turn.
use Rattle.std.proofs.Common.{◌≡◌, ℕ, zero, suc, ◌+◌, ◌-◌, ◌<◌, ◌≤◌, ◌⊎◌, length, max, Some, true, false, ◌&&◌, nat_le}
use Rattle.std.proofs.Common.{sym, refl, ap, ◌∙◌, subst, inl, inr, ⊎_elim, arith}
use Rattle.std.proofs.lemmas.Bool.{false≢true, true≢false, and_from, and_right, cond-true, cond-false, cases_Bool}
use Rattle.std.proofs.lemmas.Bool.{cases_eq, le-leb}
use Rattle.std.proofs.lemmas.List.{get_or-set_other, get_or-set_same, length-set}
use Rattle.std.proofs.lemmas.List.Sums.{sum_by-set}
use Rattle.std.proofs.lemmas.Option.{none-some}
use Rattle.std.specs.List.{sum_by}
use Rattle.lock_model.specs.CallTable.{CallTable}
use Rattle.lock_model.specs.Laws.{HaveEnded}
use Rattle.lock_model.specs.Machine.{Setup, can_attempt, failed, is_number, tried, tries, wants}
use Rattle.lock_model.specs.Skipping.{AllFailUntil, Fails, FailsTo, FailsUntil, Skipped, first_from, passed, turn_at}
use Rattle.lock_model.specs.State.{Phase, State, Thread, live_clock_in, live_clocks, nobody, object_of, thread_of}
use Rattle.lock_model.specs.State.Phase.{Ended, WantsObject, WantsTable}
use Rattle.det_mutex.specs.Attempt.{takes}
use Rattle.logical_clocks.specs.TurnOrder.{has_turn, is_before, turn_holder}
use Rattle.posix_terms.specs.declared.transcript.Turn.{Turn}
use Rattle.lock_model.proofs.Attempt.{attempt_can}
use Rattle.lock_model.proofs.Holder.{ended_or_turn, holder_turn}
use Rattle.lock_model.proofs.Turn.{Leading, leading_out, live_within}

-- ## Turns

late_first : (turn : Turn) (j clock : ℕ) → is_before (turn_at j clock) turn ≡ false → first_from turn j ≤ clock
late_first turn j clock h = grind arith

early_first : (turn : Turn) (j clock : ℕ) → is_before (turn_at j clock) turn ≡ true → clock < first_from turn j
early_first turn j clock h = grind arith

early_clock : (turn : Turn) (j clock : ℕ) → is_before (turn_at j clock) turn ≡ true → clock ≤ turn.clock
early_clock turn j clock h = grind arith

-- who comes after a turn that is not before this one is not before it
later_yet : (turn : Turn) (i c j d : ℕ) → is_before (turn_at i c) turn ≡ false → (c < d) ⊎ ((c ≡ d) × (i < j))
    → is_before (turn_at j d) turn ≡ false
later_yet turn i c j d h (inl less) = grind arith
later_yet turn i c j d h (inr (same, less)) = grind arith

-- ## The attempt that fails

wants_live : (p : Phase) (c : ℕ) → wants p ≡ true → live_clock_in p c ≡ Some c
wants_live (WantsTable call carried) c h = refl
wants_live (WantsObject call carried at n way) c h = refl
wants_live p c h = absurd (false≢true h)

-- a live thread that comes before this turn wants a lock, and does not get it
attempt_fails : (calls : CallTable) (s : State) (turn : Turn) (i : ℕ) (t : Thread) (p : Phase)
    → FailsUntil s turn i t.clock p → is_before (turn_at i t.clock) turn ≡ true → live_clock_in p t.clock ≡ Some t.clock
    → (wants p ≡ true) × (tries calls s i t p ≡ failed s i t)
attempt_fails calls s turn i t (WantsTable call carried) h before live =
    (refl, cond-false (takes s.table t.clock) _ _ (h t.clock (omega arith) before))
attempt_fails calls s turn i t (WantsObject call carried at n way) h before live = (
  refl,
  cond-false (is_number s.table.holder i && takes (object_of s n) t.clock) _ _
      (and_right (is_number s.table.holder i) (takes (object_of s n) t.clock) (h t.clock (omega arith) before)),
)
attempt_fails calls s turn i t Ended h before live = absurd (none-some t.clock live)
attempt_fails calls s turn i t p h before live = absurd (true≢false (sym before ∙ h))

-- with a later clock no more is got
fails_later : (s : State) (turn : Turn) (j c : ℕ) (p : Phase) → wants p ≡ true → FailsUntil s turn j c p
    → FailsUntil s turn j (c + 1) p
fails_later s turn j c (WantsTable call carried) w h = λ d l before. h d (omega arith) before
fails_later s turn j c (WantsObject call carried at n way) w h = λ d l before. h d (omega arith) before
fails_later s turn j c p w h = absurd (false≢true w)

-- ## Threads that pass

passed_late : (turn : Turn) (j : ℕ) (t : Thread) → (wants t.phase ≡ true → first_from turn j ≤ t.clock)
    → t ≡ passed turn j t
passed_late turn j t late =
    ⊎_elim
    (λ (w : wants t.phase ≡ true).
    sym (cond-true (wants t.phase) (record t { clock = max t.clock (first_from turn j) }) t w
    ∙ (λ k. record t { clock = most t.clock (first_from turn j) (late w) k })))
    (λ (w : wants t.phase ≡ false).
    sym (cond-false (wants t.phase) (record t { clock = max t.clock (first_from turn j) }) t w))
    (cases_Bool (wants t.phase))
  where
    most : (a b : ℕ) → b ≤ a → max a b ≡ a
    most a b l = omega arith

passed_failed : (turn : Turn) (j : ℕ) (t : Thread) → wants t.phase ≡ true → t.clock < first_from turn j
    → passed turn j (record t { clock = t.clock + 1 }) ≡ passed turn j t
passed_failed turn j t w early =
    cond-true (wants t.phase) (record t { clock = max (t.clock + 1) (first_from turn j) })
    (record t { clock = t.clock + 1 }) w
    ∙ (λ k. record t { clock = same t.clock (first_from turn j) early k })
    ∙ sym (cond-true (wants t.phase) (record t { clock = max t.clock (first_from turn j) }) t w)
  where
    same : (a b : ℕ) → a < b → max (a + 1) b ≡ max a b
    same a b l = omega arith

-- ## One attempt after another

-- what the clocks lack
lack : Turn → State → ℕ
lack turn s = sum_by (λ (t : Thread). turn.clock + 1 - t.clock) s.threads

lacks_less : (turn : Turn) (s : State) (i : ℕ) → i < length s.threads → (thread_of s i).clock ≤ turn.clock
    → lack turn (failed s i (thread_of s i)) < lack turn s
unfolding lack
lacks_less turn s i inside early =
    let f = λ (t : Thread). turn.clock + 1 - t.clock in
    let t = thread_of s i in
    let e : sum_by f (failed s i t).threads + f t ≡ sum_by f s.threads + f (record t { clock = t.clock + 1 }) =
    sum_by-set f s.threads i (record t { clock = t.clock + 1 }) nobody inside in
    less (sum_by f (failed s i t).threads) (sum_by f s.threads) turn.clock t.clock early e
  where
    less : (a b most clock : ℕ) → clock ≤ most → a + (most + 1 - clock) ≡ b + (most + 1 - (clock + 1)) → a < b
    less a b most clock early e = omega arith

-- the attempt of thread i, which has the turn before this one
record Early (setup : Setup) (turn : Turn) (s : State) (i : ℕ) : Type 0 where
  inside : i < length s.threads
  wanting : wants (thread_of s i).phase ≡ true
  clock : (thread_of s i).clock < first_from turn i
  within : (thread_of s i).clock ≤ turn.clock
  fails : Fails setup s i

early : (setup : Setup) (turn : Turn) (s : State) (i : ℕ) → ((j : ℕ) → first_from turn j ≤ setup.limits.clock_limit)
    → AllFailUntil turn s → has_turn (live_clocks s) i ≡ true → is_before (turn_at i (thread_of s i).clock) turn ≡ true
    → Early setup turn s i
unfolding can_attempt
early setup turn s i room all has before =
    let t = thread_of s i in
    let live = (leading_out s i has).live in
    let inside = live_within s i t.clock live in
    let h = attempt_fails setup.calls s turn i t t.phase (all i) before live in
    let behind : thread_of (tried setup s i) i ≡ record t { clock = t.clock + 1 } =
    ap (λ (z : State). thread_of z i) h.1
    ∙ get_or-set_same s.threads i (record t { clock = t.clock + 1 }) nobody inside in
    let first = early_first turn i t.clock before in
    let fits : t.clock + 1 ≤ setup.limits.clock_limit = fit t.clock (first_from turn i) setup.limits.clock_limit first
    (room i) in
    let can : can_attempt setup s i ≡ true =
    and_from (wants t.phase) (has_turn (live_clocks s) i
    && nat_le (thread_of (tried setup s i) i).clock setup.limits.clock_limit) h.0
    (and_from (has_turn (live_clocks s) i) (nat_le (thread_of (tried setup s i) i).clock setup.limits.clock_limit) has
    (ap (λ (u : Thread). nat_le u.clock setup.limits.clock_limit) behind
    ∙ le-leb (t.clock + 1) setup.limits.clock_limit fits)) in
    record {
      inside = inside;
      wanting = h.0;
      clock = first;
      within = early_clock turn i t.clock before;
      fails = record { can = can; fails = attempt_can setup i s can ∙ h.1 };
    }
  where
    fit : (a b c : ℕ) → a < b → b ≤ c → a + 1 ≤ c
    fit a b c less le = omega arith

-- what holds of thread j in s holds in the state after the attempt of thread i
elim_failed : (s : State) (i j : ℕ) (P : Thread → Type 0) → i < length s.threads
    → (let t = thread_of s i in i ≡ j → P (record t { clock = t.clock + 1 })) → ((i ≡ j → ⊥) → P (thread_of s j))
    → P (thread_of (failed s i (thread_of s i)) j)
elim_failed s i j P inside own other =
    let t = thread_of s i in
    ⊎_elim
    (λ (e : i ≡ j). subst P (sym (ap (thread_of (failed s i t)) (sym e)
    ∙ get_or-set_same s.threads i (record t { clock = t.clock + 1 }) nobody inside)) (own e))
    (λ (apart : i ≡ j → ⊥). subst P
    (sym (get_or-set_other s.threads i j (record t { clock = t.clock + 1 }) nobody (λ e. apart (sym e))))
    (other apart))
    (cases_eq i j)

all_fail_on : (setup : Setup) (turn : Turn) (s : State) (i : ℕ) → AllFailUntil turn s → Early setup turn s i
    → AllFailUntil turn (failed s i (thread_of s i))
all_fail_on setup turn s i all h j =
    elim_failed s i j (λ (t : Thread). FailsUntil s turn j t.clock t.phase) h.inside
    (λ e. subst (λ (k : ℕ). FailsUntil s turn k ((thread_of s i).clock + 1) (thread_of s i).phase) e
    (fails_later s turn i (thread_of s i).clock (thread_of s i).phase h.wanting (all i)))
    (λ apart. all j)

passed_on : (setup : Setup) (turn : Turn) (s : State) (i : ℕ) → Early setup turn s i → (j : ℕ)
    → passed turn j (thread_of (failed s i (thread_of s i)) j) ≡ passed turn j (thread_of s j)
passed_on setup turn s i h j =
    elim_failed s i j (λ (t : Thread). passed turn j t ≡ passed turn j (thread_of s j)) h.inside
    (λ e. subst (λ (k : ℕ). passed turn k (let t = thread_of s i in record t { clock = t.clock + 1 })
    ≡ passed turn k (thread_of s k)) e (passed_failed turn i (thread_of s i) h.wanting h.clock))
    (λ apart. refl)

one_more : (setup : Setup) (turn : Turn) (s : State) (i : ℕ) → Early setup turn s i
    → Skipped setup turn (failed s i (thread_of s i)) → Skipped setup turn s
one_more setup turn s i h rest =
    let t = thread_of s i in
    record {
      last = rest.last;
      count = suc rest.count;
      fails = (i, h.fails, subst (λ (z : State). FailsTo setup rest.count z rest.last) (sym h.fails.fails) rest.fails);
      threads = λ j. rest.threads j ∙ passed_on setup turn s i h j;
      length = rest.length ∙ length-set s.threads i (record t { clock = t.clock + 1 });
      others = rest.others;
    }

none_more : (setup : Setup) (turn : Turn) (s : State)
    → ((j : ℕ) → wants (thread_of s j).phase ≡ true → first_from turn j ≤ (thread_of s j).clock) → Skipped setup turn s
none_more setup turn s late =
    record {
      last = s;
      count = 0;
      fails = refl;
      threads = λ j. passed_late turn j (thread_of s j) (late j);
      length = refl;
      others = refl;
    }

-- the thread that has the turn does not come before this one: so no other does
rest_late : (turn : Turn) (s : State) (i : ℕ) → Leading s i → is_before (turn_at i (thread_of s i).clock) turn ≡ false
    → (j : ℕ) → wants (thread_of s j).phase ≡ true → first_from turn j ≤ (thread_of s j).clock
rest_late turn s i h late j w =
    late_first turn j (thread_of s j).clock
    (⊎_elim
    (λ (e : j ≡ i). subst (λ (k : ℕ). is_before (turn_at k (thread_of s k).clock) turn ≡ false) (sym e) late)
    (λ (apart : j ≡ i → ⊥). later_yet turn i (thread_of s i).clock j (thread_of s j).clock late
    (h.first j (wants_live (thread_of s j).phase (thread_of s j).clock w) apart))
    (cases_eq j i))

-- the thread that has the turn makes its attempt, if that comes before this turn, and the rest follows
by_turn : (setup : Setup) (turn : Turn) (s : State) → ((j : ℕ) → first_from turn j ≤ setup.limits.clock_limit)
    → AllFailUntil turn s → ((z : State) → lack turn z < lack turn s → AllFailUntil turn z → Skipped setup turn z)
    → Skipped setup turn s
by_turn setup turn s room all again =
    ⊎_elim
    (λ (ended : HaveEnded s). none_more setup turn s (λ j w. absurd (false≢true (sym (ap wants (ended j)) ∙ w))))
    (λ (at : (i : ℕ) × (turn_holder (live_clocks s) ≡ Some i)).
    let i = at.0 in
    let has : has_turn (live_clocks s) i ≡ true = (holder_turn (live_clocks s) i).0 at.1 in
    ⊎_elim
    (λ (before : is_before (turn_at i (thread_of s i).clock) turn ≡ true).
    let h = early setup turn s i room all has before in
    one_more setup turn s i h (again (failed s i (thread_of s i)) (lacks_less turn s i h.inside h.within)
    (all_fail_on setup turn s i all h)))
    (λ (late : is_before (turn_at i (thread_of s i).clock) turn ≡ false). none_more setup turn s
    (rest_late turn s i (leading_out s i has) late))
    (cases_Bool (is_before (turn_at i (thread_of s i).clock) turn)))
    (ended_or_turn s)

skip : (most : ℕ) (setup : Setup) (turn : Turn) (s : State) → lack turn s ≤ most
    → ((j : ℕ) → first_from turn j ≤ setup.limits.clock_limit) → AllFailUntil turn s → Skipped setup turn s
skip zero setup turn s bound room all = by_turn setup turn s room all (λ z less here. absurd (omega arith))
skip (suc n) setup turn s bound room all =
    by_turn setup turn s room all (λ z less here. skip n setup turn z (omega arith) room here)

pub skip_law : (setup : Setup) (turn : Turn) (s : State) → ((j : ℕ) → first_from turn j ≤ setup.limits.clock_limit)
    → AllFailUntil turn s → Skipped setup turn s
skip_law setup turn s room all = skip (lack turn s) setup turn s (omega arith) room all

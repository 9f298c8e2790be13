-- An attempt of the thread that has the turn commutes with the events of others that need no turn.
use Rattle.std.proofs.Common.{◌≡◌, ℕ, ◌+◌, ◌≤◌, List, [], ◌∷◌, ◌++◌, map, set, get_or, Option, Some, None, Bool, true}
use Rattle.std.proofs.Common.{false, ◌&&◌, is_some, is_none, nat_lt, nat_le, sym, refl, ap, ap₂, ◌∙◌, ⊎_elim}
use Rattle.std.proofs.lemmas.Bool.{false≢true, le-ltb, ne_eqb, and_parts, and_from, and_left, cond-true, cond-false}
use Rattle.std.proofs.lemmas.Bool.{cond_both, cases_Bool}
use Rattle.std.proofs.lemmas.List.{set_comm, map-set, map-append, get_or-set_other}
use Rattle.det_mutex.specs.Attempt.{new_lock, takes, held, freed}
use Rattle.det_mutex.specs.declared.lock.DetLock.{DetLock}
use Rattle.lock_model.specs.CallTable.{CallTable, Plan, Way}
use Rattle.lock_model.specs.CallTable.Plan.{No_object, Object}
use Rattle.lock_model.specs.CallTable.Way.{Inside, Door, Keeps_table}
use Rattle.lock_model.specs.Machine.{Setup, Effect, Moved, moves, is_number, freed_by, lock_after, world_after}
use Rattle.lock_model.specs.Machine.{row_after, move, can_advance, advance, failed, new_row, granted, new_job, planned}
use Rattle.lock_model.specs.Machine.{reached_keeping, reached_freeing, reached, tries, tried, wants, can_attempt}
use Rattle.lock_model.specs.Machine.{attempt}
use Rattle.lock_model.specs.Runs.{own}
use Rattle.lock_model.specs.State.{Job, Phase, Thread, Row, State, nobody, thread_of, object_of, live_clocks}
use Rattle.lock_model.specs.State.Phase.{WantsTable, WantsObject}
use Rattle.sequential_object.specs.Worlds.{World}
use Rattle.posix_terms.specs.Calls.{Call}
use Rattle.sequential_object.specs.Step.{Carried}
use Rattle.logical_clocks.specs.TurnOrder.{has_turn}
use Rattle.posix_terms.specs.declared.transcript.Turn.{Turn}
use Rattle.lock_model.proofs.Commute.{row_other, lock_other, lock_mine, lock_not, one_holder, world_other, thread_move}
use Rattle.lock_model.proofs.Commute.{advance_move}
use Rattle.lock_model.proofs.Turn.{map_at, IsLate, IsLate-trans, Leading, leading_out, leading_in, leading_move}
use Rattle.lock_model.proofs.Turn.{leading_clock, moves_later, moves_live}

-- ## Locks

taken_free : (l : DetLock) (c : ℕ) → takes l c ≡ true → (is_none l.holder ≡ true) × (nat_lt l.released c ≡ true)
unfolding takes
taken_free l c h = and_parts (is_none l.holder) (nat_lt l.released c) h

no_holder : (o : Option ℕ) (j : ℕ) → is_none o ≡ true → is_number o j ≡ false
no_holder None j h = refl
no_holder (Some k) j h = absurd (false≢true h)

pub taken_not : (l : DetLock) (c j : ℕ) → takes l c ≡ true → is_number l.holder j ≡ false
taken_not l c j h = no_holder l.holder j (taken_free l c h).0

held_by : (o : Option ℕ) (j : ℕ) → is_number o j ≡ true → is_none o ≡ false
held_by None j h = absurd (false≢true h)
held_by (Some k) j h = refl

takes_held : (l : DetLock) (c j : ℕ) → is_number l.holder j ≡ true → takes l c ≡ false
unfolding takes
takes_held l c j h = and_left (is_none l.holder) (nat_lt l.released c) (held_by l.holder j h)

takes_freed : (o : Option ℕ) (l : DetLock) (c j : ℕ) → IsLate c o → is_number l.holder j ≡ true
    → takes (freed_by o l) c ≡ false
unfolding takes
takes_freed None l c j late h = takes_held l c j h
takes_freed (Some r) l c j late h = le-ltb r c late

-- an attempt finds a lock as it was before a late event
takes_after : (j : ℕ) (o : Option ℕ) (l : DetLock) (c : ℕ) → IsLate c o → takes (lock_after j o l) c ≡ takes l c
takes_after j o l c late =
    ⊎_elim
    (λ (own : is_number l.holder j ≡ true). ap (λ (k : DetLock). takes k c) (lock_mine j o l own)
    ∙ (takes_freed o l c j late own ∙ sym (takes_held l c j own)))
    (λ (off : is_number l.holder j ≡ false). ap (λ (k : DetLock). takes k c) (lock_other j o l off))
    (cases_Bool (is_number l.holder j))

-- thread i holds a lock after an event of j if it did before
pub holder_after : (i j : ℕ) (o : Option ℕ) (l : DetLock) → (i ≡ j → ⊥)
    → is_number (lock_after j o l).holder i ≡ is_number l.holder i
holder_after i j o l apart =
    ⊎_elim
    (λ (own : is_number l.holder j ≡ true).
    let off = one_holder l.holder j i own (λ e. apart (sym e)) in
    lock_not j i o l off ∙ sym off)
    (λ (off : is_number l.holder j ≡ false). ap (λ (k : DetLock). is_number k.holder i) (lock_other j o l off))
    (cases_Bool (is_number l.holder j))

not_mine : (i j : ℕ) (o : Option ℕ) (l : DetLock) → (i ≡ j → ⊥) → lock_after j o (held i l) ≡ held i l
not_mine i j o l apart = lock_other j o (held i l) (ne_eqb i j apart)

-- ## The parts of a grant

rows_push : (i j : ℕ) (e : Effect) (rs : List Row) (r : Row) → r.turn.thread ≡ i → (i ≡ j → ⊥)
    → map (row_after j e) (rs ++ r ∷ []) ≡ map (row_after j e) rs ++ r ∷ []
rows_push i j e rs r own apart =
    map-append (row_after j e) rs (r ∷ [])
    ∙ ap (λ (q : Row). map (row_after j e) rs ++ q ∷ []) (row_other j e r (λ q. apart (sym own ∙ q)))

new_lock_stays : (j : ℕ) (o : Option ℕ) → lock_after j o new_lock ≡ new_lock
new_lock_stays j o = lock_other j o new_lock refl

pub object_after : (j n : ℕ) (o : Option ℕ) (ls : List DetLock)
    → get_or (map (lock_after j o) ls) n new_lock ≡ lock_after j o (get_or ls n new_lock)
object_after j n o ls = ap (get_or (map (lock_after j o) ls) n) (sym (new_lock_stays j o))
    ∙ map_at (lock_after j o) ls n new_lock

-- taking an object that nobody holds
objects_set : (i j n : ℕ) (o : Option ℕ) (ls : List DetLock) → (i ≡ j → ⊥)
    → is_number (get_or ls n new_lock).holder j ≡ false
    → set (map (lock_after j o) ls) n (held i (get_or (map (lock_after j o) ls) n new_lock))
    ≡ map (lock_after j o) (set ls n (held i (get_or ls n new_lock)))
objects_set i j n o ls apart off =
    ap (λ (l : DetLock). set (map (lock_after j o) ls) n (held i l)) (object_after j n o ls
    ∙ lock_other j o (get_or ls n new_lock) off)
    ∙ (ap (set (map (lock_after j o) ls) n) (sym (not_mine i j o (get_or ls n new_lock) apart))
    ∙ sym (map-set (lock_after j o) ls n (held i (get_or ls n new_lock))))

-- ## What an attempt leads to

failed_comm : (s : State) (i j : ℕ) (t : Thread) (m : Moved) → (i ≡ j → ⊥)
    → failed (move j (Some m) s) i t ≡ move j (Some m) (failed s i t)
failed_comm s i j t m apart =
    λ k. record {
      threads = set_comm s.threads j i m.thread (record t { clock = t.clock + 1 }) (λ e. apart (sym e)) k;
      table = lock_after j m.effect.table_freed s.table;
      objects = map (lock_after j m.effect.object_freed) s.objects;
      rows = map (row_after j m.effect) s.rows;
      world = world_after j s.table m.effect.world s.world;
    }

planned_comm : (calls : CallTable) (s : State) (i j : ℕ) (t : Thread) (c : Call) (b : Carried) (turn : Turn)
    (plan : Plan) (m : Moved)
    → (i ≡ j → ⊥) → turn.thread ≡ i → is_number s.table.holder j ≡ false
    → planned calls (move j (Some m) s) i t c b turn plan s.world
    ≡ move j (Some m) (planned calls s i t c b turn plan s.world)
planned_comm calls s i j t c b turn No_object m apart own off =
    λ k. record {
      threads = set_comm s.threads j i m.thread (granted t (t.clock + 1) (new_job c b turn No_object s.world) false)
          (λ e. apart (sym e)) k;
      table = (ap (held i) (lock_other j m.effect.table_freed s.table off)
          ∙ sym (not_mine i j m.effect.table_freed s.table apart)) k;
      objects = map (lock_after j m.effect.object_freed) s.objects;
      rows = sym (rows_push i j m.effect s.rows (new_row turn c) own apart) k;
      world = sym (world_other j (held i s.table) m.effect.world (calls.change s.world c b) (ne_eqb i j apart)) k;
    }
planned_comm calls s i j t c b turn (Object n way) m apart own off =
    λ k. record {
      threads = set_comm s.threads j i m.thread
          (record t { phase = WantsObject c b turn.clock n way; clock = t.clock + 1 }) (λ e. apart (sym e)) k;
      table = (ap (held i) (lock_other j m.effect.table_freed s.table off)
          ∙ sym (not_mine i j m.effect.table_freed s.table apart)) k;
      objects = map (lock_after j m.effect.object_freed) s.objects;
      rows = map (row_after j m.effect) s.rows;
      world = (world_other j s.table m.effect.world s.world off
          ∙ sym (world_other j (held i s.table) m.effect.world s.world (ne_eqb i j apart))) k;
    }

freeing_comm : (calls : CallTable) (s : State) (i j : ℕ) (t : Thread) (c : Call) (n : ℕ) (job : Job) (outside : Bool)
    (m : Moved)
    → (i ≡ j → ⊥) → job.turn.thread ≡ i → is_number s.table.holder j ≡ false
    → is_number (object_of s n).holder j ≡ false
    → reached_freeing calls (move j (Some m) s) i t c n job outside
    ≡ move j (Some m) (reached_freeing calls s i t c n job outside)
freeing_comm calls s i j t c n job outside m apart own off free =
    λ k. record {
      threads = set_comm s.threads j i m.thread (granted t (t.clock + 2) job outside) (λ e. apart (sym e)) k;
      table = sym (lock_other j m.effect.table_freed (freed (t.clock + 1)) refl) k;
      objects = objects_set i j n m.effect.object_freed s.objects apart free k;
      rows = sym (rows_push i j m.effect s.rows (new_row job.turn c) own apart) k;
      world = sym (world_other j (freed (t.clock + 1)) m.effect.world (calls.change job.found c job.carried) refl) k;
    }

keeping_comm : (s : State) (i j : ℕ) (t : Thread) (c : Call) (n : ℕ) (job : Job) (m : Moved)
    → (i ≡ j → ⊥) → job.turn.thread ≡ i → is_number s.table.holder j ≡ false
    → is_number (object_of s n).holder j ≡ false
    → reached_keeping (move j (Some m) s) i t c n job ≡ move j (Some m) (reached_keeping s i t c n job)
keeping_comm s i j t c n job m apart own off free =
    λ k. record {
      threads = set_comm s.threads j i m.thread (granted t (t.clock + 1) job true) (λ e. apart (sym e)) k;
      table = lock_after j m.effect.table_freed s.table;
      objects = objects_set i j n m.effect.object_freed s.objects apart free k;
      rows = sym (rows_push i j m.effect s.rows (new_row job.turn c) own apart) k;
      world = world_after j s.table m.effect.world s.world;
    }

reached_comm : (calls : CallTable) (s : State) (i j : ℕ) (t : Thread) (c : Call) (b : Carried) (turn : Turn) (n : ℕ)
    (way : Way) (w : World) (m : Moved)
    → (i ≡ j → ⊥) → turn.thread ≡ i → is_number s.table.holder j ≡ false → is_number (object_of s n).holder j ≡ false
    → reached calls (move j (Some m) s) i t c b turn n way w ≡ move j (Some m) (reached calls s i t c b turn n way w)
reached_comm calls s i j t c b turn n Inside w m apart own off free =
    freeing_comm calls s i j t c n (new_job c b turn (Object n Inside) w) false m apart own off free
reached_comm calls s i j t c b turn n Door w m apart own off free =
    freeing_comm calls s i j t c n (new_job c b turn (Object n Door) w) true m apart own off free
reached_comm calls s i j t c b turn n Keeps_table w m apart own off free =
    keeping_comm s i j t c n (new_job c b turn (Object n Keeps_table) w) m apart own off free

-- what thread i tries commutes with a late event of another
tries_comm : (calls : CallTable) (s : State) (i j : ℕ) (t : Thread) (p : Phase) (m : Moved)
    → (i ≡ j → ⊥) → IsLate t.clock m.effect.object_freed → IsLate t.clock m.effect.table_freed
    → tries calls (move j (Some m) s) i t p ≡ move j (Some m) (tries calls s i t p)
tries_comm calls s i j t (WantsTable c b) m apart object_late table_late =
    let z = move j (Some m) s in
    let turn : Turn = record { clock = t.clock; thread = i } in
    let test : takes z.table t.clock ≡ takes s.table t.clock = takes_after j m.effect.table_freed s.table t.clock
    table_late in
    ⊎_elim
    (λ (can : takes s.table t.clock ≡ true).
    let off = taken_not s.table t.clock j can in
    let same : z.world ≡ s.world = world_other j s.table m.effect.world s.world off in
    cond-true (takes z.table t.clock) (planned calls z i t c b turn (calls.plan z.world c b) z.world) (failed z i t)
    (test ∙ can)
    ∙ (ap (λ (w : World). planned calls z i t c b turn (calls.plan w c b) w) same
    ∙ (planned_comm calls s i j t c b turn (calls.plan s.world c b) m apart refl off
    ∙ ap (move j (Some m)) (sym (cond-true (takes s.table t.clock)
    (planned calls s i t c b turn (calls.plan s.world c b) s.world) (failed s i t) can)))))
    (λ (off : takes s.table t.clock ≡ false).
    cond-false (takes z.table t.clock) (planned calls z i t c b turn (calls.plan z.world c b) z.world) (failed z i t)
    (test ∙ off)
    ∙ (failed_comm s i j t m apart
    ∙ ap (move j (Some m)) (sym (cond-false (takes s.table t.clock)
    (planned calls s i t c b turn (calls.plan s.world c b) s.world) (failed s i t) off))))
    (cases_Bool (takes s.table t.clock))
tries_comm calls s i j t (WantsObject c b clock n way) m apart object_late table_late =
    let z = move j (Some m) s in
    let turn : Turn = record { clock = clock; thread = i } in
    let b0 = is_number s.table.holder i && takes (object_of s n) t.clock in
    let b1 = is_number z.table.holder i && takes (object_of z n) t.clock in
    let test : b1 ≡ b0 =
    ap₂ ◌&&◌ (holder_after i j m.effect.table_freed s.table apart)
    (ap (λ (l : DetLock). takes l t.clock) (object_after j n m.effect.object_freed s.objects)
    ∙ takes_after j m.effect.object_freed (object_of s n) t.clock object_late) in
    ⊎_elim
    (λ (can : b0 ≡ true).
    let parts = and_parts (is_number s.table.holder i) (takes (object_of s n) t.clock) can in
    let off = one_holder s.table.holder i j parts.0 apart in
    let free = taken_not (object_of s n) t.clock j parts.1 in
    let same : z.world ≡ s.world = world_other j s.table m.effect.world s.world off in
    cond-true b1 (reached calls z i t c b turn n way z.world) (failed z i t) (test ∙ can)
    ∙ (ap (λ (w : World). reached calls z i t c b turn n way w) same
    ∙ (reached_comm calls s i j t c b turn n way s.world m apart refl off free
    ∙ ap (move j (Some m)) (sym (cond-true b0 (reached calls s i t c b turn n way s.world) (failed s i t) can)))))
    (λ (off : b0 ≡ false).
    cond-false b1 (reached calls z i t c b turn n way z.world) (failed z i t) (test ∙ off)
    ∙ (failed_comm s i j t m apart
    ∙ ap (move j (Some m)) (sym (cond-false b0 (reached calls s i t c b turn n way s.world) (failed s i t) off))))
    (cases_Bool b0)
tries_comm calls s i j t p m apart object_late table_late = refl

-- ## An attempt leaves the other threads

planned_thread : (calls : CallTable) (s : State) (i j : ℕ) (t : Thread) (c : Call) (b : Carried) (turn : Turn)
    (plan : Plan) (w : World)
    → (i ≡ j → ⊥) → thread_of (planned calls s i t c b turn plan w) j ≡ thread_of s j
planned_thread calls s i j t c b turn No_object w apart = get_or-set_other s.threads i j _ nobody (λ e. apart (sym e))
planned_thread calls s i j t c b turn (Object n way) w apart =
    get_or-set_other s.threads i j _ nobody (λ e. apart (sym e))

reached_thread : (calls : CallTable) (s : State) (i j : ℕ) (t : Thread) (c : Call) (b : Carried) (turn : Turn) (n : ℕ)
    (way : Way) (w : World)
    → (i ≡ j → ⊥) → thread_of (reached calls s i t c b turn n way w) j ≡ thread_of s j
reached_thread calls s i j t c b turn n Inside w apart = get_or-set_other s.threads i j _ nobody (λ e. apart (sym e))
reached_thread calls s i j t c b turn n Door w apart = get_or-set_other s.threads i j _ nobody (λ e. apart (sym e))
reached_thread calls s i j t c b turn n Keeps_table w apart =
    get_or-set_other s.threads i j _ nobody (λ e. apart (sym e))

failed_thread : (s : State) (i j : ℕ) (t : Thread) → (i ≡ j → ⊥) → thread_of (failed s i t) j ≡ thread_of s j
failed_thread s i j t apart = get_or-set_other s.threads i j _ nobody (λ e. apart (sym e))

pub tries_thread : (calls : CallTable) (s : State) (i j : ℕ) (t : Thread) (p : Phase) → (i ≡ j → ⊥)
    → thread_of (tries calls s i t p) j ≡ thread_of s j
tries_thread calls s i j t (WantsTable c b) apart =
    cond_both (takes s.table t.clock) _ _ (λ (z : State). thread_of z j ≡ thread_of s j)
    (λ yes. planned_thread calls s i j t c b (record { clock = t.clock; thread = i }) (calls.plan s.world c b) s.world
    apart)
    (λ off. failed_thread s i j t apart)
tries_thread calls s i j t (WantsObject c b clock n way) apart =
    cond_both (is_number s.table.holder i && takes (object_of s n) t.clock) _ _
    (λ (z : State). thread_of z j ≡ thread_of s j)
    (λ yes. reached_thread calls s i j t c b (record { clock = clock; thread = i }) n way s.world apart)
    (λ off. failed_thread s i j t apart)
tries_thread calls s i j t p apart = refl

-- ## The attempt

pub attempt_can : (setup : Setup) (i : ℕ) (s : State) → can_attempt setup s i ≡ true
    → attempt setup i s ≡ tried setup s i
unfolding attempt
attempt_can setup i s h = cond-true _ _ _ h

pub attempt_not : (setup : Setup) (i : ℕ) (s : State) → can_attempt setup s i ≡ false → attempt setup i s ≡ s
unfolding attempt
attempt_not setup i s h = cond-false _ _ _ h

pub record CanAttempt (setup : Setup) (s : State) (i : ℕ) : Type 0 where
  pub wanting : wants (thread_of s i).phase ≡ true
  pub turn : has_turn (live_clocks s) i ≡ true
  pub room : nat_le (thread_of (tried setup s i) i).clock setup.limits.clock_limit ≡ true

pub can_out : (setup : Setup) (s : State) (i : ℕ) → can_attempt setup s i ≡ true → CanAttempt setup s i
unfolding can_attempt
can_out setup s i h =
    let a = and_parts (wants (thread_of s i).phase) (has_turn (live_clocks s) i
    && nat_le (thread_of (tried setup s i) i).clock setup.limits.clock_limit) h in
    let b = and_parts (has_turn (live_clocks s) i)
    (nat_le (thread_of (tried setup s i) i).clock setup.limits.clock_limit) a.1 in
    record { wanting = a.0; turn = b.0; room = b.1 }

pub can_in : (setup : Setup) (s : State) (i : ℕ) → CanAttempt setup s i → can_attempt setup s i ≡ true
unfolding can_attempt
can_in setup s i h =
    and_from (wants (thread_of s i).phase) (has_turn (live_clocks s) i
    && nat_le (thread_of (tried setup s i) i).clock setup.limits.clock_limit) h.wanting
    (and_from (has_turn (live_clocks s) i) (nat_le (thread_of (tried setup s i) i).clock setup.limits.clock_limit)
    h.turn h.room)

pub attempt_other : (setup : Setup) (i j : ℕ) (s : State) → (i ≡ j → ⊥)
    → thread_of (attempt setup i s) j ≡ thread_of s j
attempt_other setup i j s apart =
    ⊎_elim
    (λ (can : can_attempt setup s i ≡ true). ap (λ (z : State). thread_of z j) (attempt_can setup i s can)
    ∙ tries_thread setup.calls s i j (thread_of s i) (thread_of s i).phase apart)
    (λ (off : can_attempt setup s i ≡ false). ap (λ (z : State). thread_of z j) (attempt_not setup i s off))
    (cases_Bool (can_attempt setup s i))

-- what the thread that has the turn tries commutes with any event of another
tried_move : (setup : Setup) (s : State) (i j : ℕ) (m : Moved) → (i ≡ j → ⊥) → moves setup j (thread_of s j) ≡ Some m
    → Leading s i
    → tried setup (move j (Some m) s) i ≡ move j (Some m) (tried setup s i)
tried_move setup s i j m apart e h =
    let t = thread_of s i in
    let later = moves_later setup j (thread_of s j) m e in
    let least : t.clock ≤ (thread_of s j).clock = leading_clock s i j h (moves_live setup j (thread_of s j) m e)
    (λ q. apart (sym q)) in
    ap (λ (u : Thread). tries setup.calls (move j (Some m) s) i u u.phase)
    (thread_move j i (Some m) s (λ q. apart (sym q)))
    ∙ tries_comm setup.calls s i j t t.phase m apart
    (IsLate-trans t.clock (thread_of s j).clock m.effect.object_freed least later.object_late)
    (IsLate-trans t.clock (thread_of s j).clock m.effect.table_freed least later.table_late)

can_move : (setup : Setup) (s : State) (i j : ℕ) (m : Moved) → (i ≡ j → ⊥) → moves setup j (thread_of s j) ≡ Some m
    → CanAttempt setup s i → CanAttempt setup (move j (Some m) s) i
can_move setup s i j m apart e h =
    let h1 = leading_out s i h.turn in
    let there = thread_move j i (Some m) s (λ q. apart (sym q)) in
    record {
      wanting = ap (λ (u : Thread). wants u.phase) there ∙ h.wanting;
      turn = leading_in (move j (Some m) s) i (leading_move setup s i j m (λ q. apart (sym q)) e h1);
      room =
          ap (λ (z : State). nat_le (thread_of z i).clock setup.limits.clock_limit)
          (tried_move setup s i j m apart e h1)
          ∙ (ap (λ (u : Thread). nat_le u.clock setup.limits.clock_limit)
          (thread_move j i (Some m) (tried setup s i) (λ q. apart (sym q))) ∙ h.room);
    }

-- an attempt that is allowed, and an event of another thread
pub record AttemptCommutes (setup : Setup) (i j : ℕ) (s : State) : Type 0 where
  pub can_attempt : can_attempt setup (advance setup j s) i ≡ true
  pub can_advance : can_advance setup (attempt setup i s) j ≡ true
  pub same : attempt setup i (advance setup j s) ≡ advance setup j (attempt setup i s)

attempt_comm_at : (setup : Setup) (i j : ℕ) (s : State) (m : Moved) → (i ≡ j → ⊥)
    → moves setup j (thread_of s j) ≡ Some m → can_attempt setup s i ≡ true → AttemptCommutes setup i j s
attempt_comm_at setup i j s m apart e can =
    let h = can_out setup s i can in
    let z : advance setup j s ≡ move j (Some m) s = advance_move setup j s ∙ ap (λ (o : Option Moved). move j o s) e in
    let can_after : can_attempt setup (move j (Some m) s) i ≡ true =
    can_in setup (move j (Some m) s) i (can_move setup s i j m apart e h) in
    let there : moves setup j (thread_of (attempt setup i s) j) ≡ Some m =
    ap (moves setup j) (attempt_other setup i j s apart) ∙ e in
    record {
      can_attempt = ap (λ (u : State). can_attempt setup u i) z ∙ can_after;
      can_advance = ap is_some there;
      same =
          ap (attempt setup i) z
          ∙ (attempt_can setup i (move j (Some m) s) can_after
          ∙ (tried_move setup s i j m apart e (leading_out s i h.turn)
          ∙ (ap (move j (Some m)) (sym (attempt_can setup i s can))
          ∙ sym (advance_move setup j (attempt setup i s)
          ∙ ap (λ (o : Option Moved). move j o (attempt setup i s)) there))));
    }

some_by : {A : Type 0} (o : Option A) → is_some o ≡ true → (x : A) × (o ≡ Some x)
some_by None h = absurd (false≢true h)
some_by (Some x) h = (x, refl)

pub move_of : (setup : Setup) (s : State) (j : ℕ) → can_advance setup s j ≡ true → (m : Moved)
    × (moves setup j (thread_of s j) ≡ Some m)
move_of setup s j h = some_by (moves setup j (thread_of s j)) h

pub attempt_comm : (setup : Setup) (i j : ℕ) (s : State) → (i ≡ j → ⊥) → can_attempt setup s i ≡ true
    → can_advance setup s j ≡ true → AttemptCommutes setup i j s
attempt_comm setup i j s apart can h = let m = move_of setup s j h in attempt_comm_at setup i j s m.0 apart m.1 can

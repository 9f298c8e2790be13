-- The turns of a run's rows rise.
use Rattle.std.proofs.Common.{◌≡◌, ℕ, ◌+◌, ◌<◌, ◌≤◌, List, [], ◌∷◌, ◌++◌, length, map, set, get_or, Option, Some, Bool}
use Rattle.std.proofs.Common.{true, false, sym, refl, ap, ◌∙◌, subst, inl, inr, ⊎_elim, arith}
use Rattle.std.proofs.lemmas.Bool.{true≢false, false≢true, cases_eq, cases_Bool, cases_lt}
use Rattle.std.proofs.lemmas.List.{get_or-set_other, get_or-set_same}
use Rattle.det_mutex.specs.Attempt.{takes}
use Rattle.det_mutex.specs.declared.lock.DetLock.{DetLock}
use Rattle.lock_model.specs.CallTable.{CallTable, Plan, Way}
use Rattle.sequential_object.specs.declared.turn_end.TurnEnd.{TurnEnd}
use Rattle.sequential_object.specs.declared.turn_end.TurnEnd.TheVariants as turn_end
use Rattle.lock_model.specs.CallTable.Plan.{No_object, Object}
use Rattle.lock_model.specs.CallTable.Way.{Inside, Door, Keeps_table}
use Rattle.lock_model.specs.Legal.{handed_on}
use Rattle.lock_model.specs.Machine.{Setup, Effect, Moved, Event, after_step, answered, moves, is_number, row_after}
use Rattle.lock_model.specs.Machine.{move, failed, new_row, granted, new_job, planned, reached, can_attempt, attempt}
use Rattle.lock_model.specs.Machine.{is_allowed, happens}
use Rattle.lock_model.specs.Machine.Event.{Advances, Attempts}
use Rattle.posix_terms.specs.declared.step.Step.{Step}
use Rattle.posix_terms.specs.declared.step.Step.TheVariants as step
use Rattle.lock_model.specs.Rising.{IsBeforeAll, IsRising}
use Rattle.lock_model.specs.Runs.{Arises, run, supplied, own}
use Rattle.lock_model.specs.State.{Phase, Thread, Row, State, nobody, thread_of, live_clock, start}
use Rattle.lock_model.specs.State.Phase.{Working, WantsTable, WantsObject, Granted, ToOutside, Outside, Recorded}
use Rattle.lock_model.specs.State.Phase.{Blocked, Ended}
use Rattle.sequential_object.specs.Worlds.{World}
use Rattle.posix_terms.specs.Calls.{Call}
use Rattle.sequential_object.specs.Step.{Carried}
use Rattle.logical_clocks.specs.TurnOrder.{is_before}
use Rattle.posix_terms.specs.declared.transcript.Turn.{Turn}
use Rattle.lock_model.proofs.Commute.{row_turn, advance_move, thread_move, one_holder}
use Rattle.lock_model.proofs.Turn.{IsEarlier, before_in, before_out, Leading, leading_out, thread_moved, moves_live}
use Rattle.lock_model.proofs.Turn.{moves_later}
use Rattle.lock_model.proofs.Attempt.{move_of, can_out, taken_not}
use Rattle.lock_model.proofs.Growth.{at_moves, at_attempt, wanting_within}
use Rattle.lock_model.proofs.Walk.{Walk, Ready, next_world, opened}
use Rattle.lock_model.proofs.Kept.{Right, right_event, right_start, run_keeps, first_thread, start_thread}

-- ## Rows before a turn

abbrev pub AllBefore : List Row → Turn → Type 0
AllBefore [] turn = Unit {0}
AllBefore (r ∷ rs) turn = (is_before r.turn turn ≡ true) × AllBefore rs turn

before_later : (a : Turn) (c d k : ℕ) → c ≤ d → is_before a (record { clock = c; thread = k }) ≡ true
    → is_before a (record { clock = d; thread = k }) ≡ true
before_later a c d k l h = before_in a (record { clock = d; thread = k })
    (later (before_out a (record { clock = c; thread = k }) h))
  where
    later : IsEarlier a.clock a.thread c k → IsEarlier a.clock a.thread d k
    later (inl q) = inl (omega arith)
    later (inr q) = ⊎_elim (λ (e : c < d). let w = q.0 in inl (omega arith)) (λ (e : d ≤ c). let w = q.0 in
        inr (omega arith, q.1)) (cases_lt c d)

all_later : (rs : List Row) (c d k : ℕ) → c ≤ d → AllBefore rs (record { clock = c; thread = k })
    → AllBefore rs (record { clock = d; thread = k })
all_later [] c d k l h = tt
all_later (r ∷ rs) c d k l h = (before_later r.turn c d k l h.0, all_later rs c d k l h.1)

all_push : (rs : List Row) (new : Row) (turn : Turn) → AllBefore rs turn → is_before new.turn turn ≡ true
    → AllBefore (rs ++ new ∷ []) turn
all_push [] new turn h g = (g, tt)
all_push (r ∷ rs) new turn h g = (h.0, all_push rs new turn h.1 g)

before_push : (turn : Turn) (rs : List Row) (new : Row) → IsBeforeAll turn rs → is_before turn new.turn ≡ true
    → IsBeforeAll turn (rs ++ new ∷ [])
before_push turn [] new h g = (g, tt)
before_push turn (r ∷ rs) new h g = (h.0, before_push turn rs new h.1 g)

rising_push : (rs : List Row) (new : Row) → IsRising rs → AllBefore rs new.turn → IsRising (rs ++ new ∷ [])
rising_push [] new h g = (tt, tt)
rising_push (r ∷ rs) new h g = (before_push r.turn rs new h.0 g.0, rising_push rs new h.1 g.1)

-- an event that needs no turn changes no turn of a row
all_map : (i : ℕ) (e : Effect) (rs : List Row) (turn : Turn) → AllBefore rs turn
    → AllBefore (map (row_after i e) rs) turn
all_map i e [] turn h = tt
all_map i e (r ∷ rs) turn h = (ap (λ (t : Turn). is_before t turn) (row_turn i e r) ∙ h.0, all_map i e rs turn h.1)

before_map : (i : ℕ) (e : Effect) (turn : Turn) (rs : List Row) → IsBeforeAll turn rs
    → IsBeforeAll turn (map (row_after i e) rs)
before_map i e turn [] h = tt
before_map i e turn (r ∷ rs) h = (ap (is_before turn) (row_turn i e r) ∙ h.0, before_map i e turn rs h.1)

rising_map : (i : ℕ) (e : Effect) (rs : List Row) → IsRising rs → IsRising (map (row_after i e) rs)
rising_map i e [] h = tt
rising_map i e (r ∷ rs) h = (
  subst (λ (t : Turn). IsBeforeAll t (map (row_after i e) rs)) (sym (row_turn i e r)) (before_map i e r.turn rs h.0),
  rising_map i e rs h.1,
)

-- ## Rows before the clocks

abbrev pub IsLive : State → ℕ → Type 0
IsLive s k = live_clock (thread_of s k) ≡ Some (thread_of s k).clock

abbrev pub turn_of : State → ℕ → Turn
turn_of s k = record { clock = (thread_of s k).clock; thread = k }

abbrev pub EachLive : State → (Turn → Type 0) → Type 0
EachLive s P = (k : ℕ) → IsLive s k → P (turn_of s k)

-- a thread that holds the table and wants an object: its turn comes after all rows and before all clocks
abbrev pub Waits : State → ℕ → Phase → Type 0
Waits s k (WantsObject c b clock n way) = AllBefore s.rows (record { clock = clock; thread = k })
    × EachLive s (λ u. is_before (record { clock = clock; thread = k }) u ≡ true)
Waits s k p = Unit {0}

pub record Ordered (s : State) : Type 0 where
  pub rising : IsRising s.rows
  pub before : EachLive s (AllBefore s.rows)
  pub waits : (k : ℕ) → Waits s k (thread_of s k).phase

-- thread i goes on, and no clock falls
pub record GoesOn (s z : State) (i : ℕ) : Type 0 where
  pub live : IsLive s i
  pub clock : (thread_of s i).clock ≤ (thread_of z i).clock
  pub others : (k : ℕ) → (i ≡ k → ⊥) → thread_of z k ≡ thread_of s k

each_later : (s z : State) (i : ℕ) (P : Turn → Type 0) → GoesOn s z i
    → ((c d k : ℕ) → c ≤ d → P (record { clock = c; thread = k }) → P (record { clock = d; thread = k })) → EachLive s P
    → EachLive z P
each_later s z i P g later h k live =
    ⊎_elim
    (λ (e : i ≡ k). subst (λ (n : ℕ). P (turn_of z n)) e
    (later (thread_of s i).clock (thread_of z i).clock i g.clock (h i g.live)))
    (λ (e : i ≡ k → ⊥).
    let same = g.others k e in
    subst (λ (t : Thread). P (record { clock = t.clock; thread = k })) (sym same)
    (h k (sym (ap live_clock same) ∙ (live ∙ ap (λ (t : Thread). Some t.clock) same))))
    (cases_eq i k)

-- a thread that waits on goes on waiting, where its rows stay before
waits_later : (s z : State) (i k : ℕ) (p : Phase) → GoesOn s z i
    → ((turn : Turn) → AllBefore s.rows turn → AllBefore z.rows turn) → Waits s k p → Waits z k p
waits_later s z i k (WantsObject c b clock n way) g rows h = (
  rows (record { clock = clock; thread = k }) h.0,
  each_later s z i
      (λ u. is_before (record { clock = clock; thread = k }) u ≡ true) g
      (λ d e j l q. before_later (record { clock = clock; thread = k }) d e j l q) h.1,
)
waits_later s z i k Working g rows h = tt
waits_later s z i k (WantsTable c b) g rows h = tt
waits_later s z i k (Granted job) g rows h = tt
waits_later s z i k (ToOutside job) g rows h = tt
waits_later s z i k (Outside job) g rows h = tt
waits_later s z i k (Recorded job) g rows h = tt
waits_later s z i k (Blocked c b) g rows h = tt
waits_later s z i k Ended g rows h = tt

abbrev is_waiting : Phase → Bool
is_waiting (WantsObject c b clock n way) = true
is_waiting p = false

waits_not : (s : State) (k : ℕ) (p : Phase) → is_waiting p ≡ false → Waits s k p
waits_not s k (WantsObject c b clock n way) h = absurd (true≢false h)
waits_not s k Working h = tt
waits_not s k (WantsTable c b) h = tt
waits_not s k (Granted job) h = tt
waits_not s k (ToOutside job) h = tt
waits_not s k (Outside job) h = tt
waits_not s k (Recorded job) h = tt
waits_not s k (Blocked c b) h = tt
waits_not s k Ended h = tt

-- ## Where no row is added

ordered_on : (s z : State) (i : ℕ) → GoesOn s z i → IsRising z.rows
    → ((turn : Turn) → AllBefore s.rows turn → AllBefore z.rows turn) → Waits z i (thread_of z i).phase → Ordered s
    → Ordered z
ordered_on s z i g rising rows mine h =
    record {
      rising = rising;
      before = each_later s z i (AllBefore z.rows) g (λ c d k l q. all_later z.rows c d k l q)
          (λ k live. rows (turn_of s k) (h.before k live));
      waits = λ k.
          ⊎_elim
          (λ (e : i ≡ k). subst (λ (n : ℕ). Waits z n (thread_of z n).phase) e mine)
          (λ (e : i ≡ k → ⊥). waits_later s z i k (thread_of z k).phase g rows
          (subst (λ (t : Thread). Waits s k t.phase) (sym (g.others k e)) (h.waits k)))
          (cases_eq i k);
    }

step_waiting : (calls : CallTable) (t : Thread) (x : Step) → is_waiting (after_step calls t x).phase ≡ false
step_waiting calls t (step.Work n) = refl
step_waiting calls t (step.Call c) = refl
step_waiting calls t step.End = refl

answered_waiting : (t : Thread) (c : Call) (n : ℕ) (a : TurnEnd) → is_waiting (answered t c n a).phase ≡ false
answered_waiting t c n (turn_end.Reply r) = refl
answered_waiting t c n (turn_end.Blocked b) = refl

-- who makes an event that needs no turn does not wait after it
moved_waiting : (setup : Setup) (i : ℕ) (t : Thread) (m : Moved) → moves setup i t ≡ Some m
    → is_waiting m.thread.phase ≡ false
moved_waiting setup i t m h =
    at_moves setup i t (λ p n. is_waiting n.thread.phase ≡ false) m
    (record {
      steps = λ x q. step_waiting setup.calls t x;
      begins = λ job. refl;
      records = λ job o q f. refl;
      grants = λ job. answered_waiting t job.call _ (setup.calls.answer job.found job.call job.outcome job.carried);
      answers = λ job. answered_waiting t job.call _ (setup.calls.answer job.found job.call job.outcome job.carried);
      agains = λ c b. refl;
    })
    h

ordered_move : (setup : Setup) (s : State) (i : ℕ) (m : Moved) → moves setup i (thread_of s i) ≡ Some m → Ordered s
    → Ordered (move i (Some m) s)
ordered_move setup s i m e h =
    let z = move i (Some m) s in
    let there : thread_of z i ≡ m.thread = thread_moved setup s i m e in
    ordered_on s z i
    (record {
      live = moves_live setup i (thread_of s i) m e;
      clock = subst (λ (t : Thread). (thread_of s i).clock ≤ t.clock) (sym there)
          (moves_later setup i (thread_of s i) m e).clock;
      others = λ k apart. thread_move i k (Some m) s apart;
    })
    (rising_map i m.effect s.rows h.rising) (λ turn q. all_map i m.effect s.rows turn q)
    (waits_not z i (thread_of z i).phase (ap (λ (t : Thread). is_waiting t.phase) there
    ∙ moved_waiting setup i (thread_of s i) m e)) h

-- ## Attempts

-- who wants an object holds the table
at_end : (calls : CallTable) (s : State) (w : World) (carried : ℕ → Carried) (busy : ℕ → Bool) (rs : List Row)
    → Walk calls s w carried busy rs → (k : ℕ) → is_waiting (thread_of s k).phase ≡ true
    → is_number s.table.holder k ≡ true
at_end calls s w carried busy [] h k q = waiting_holds calls w s.table k (thread_of s k).phase (carried k) (busy k) q
    (h.ready k)
  where
    waiting_holds : (calls : CallTable) (w : World) (l : DetLock) (k : ℕ) (p : Phase) (b : Carried) (o : Bool)
        → is_waiting p ≡ true → Ready calls w l k p b o → is_number l.holder k ≡ true
    waiting_holds calls w l k (WantsObject c d clock n way) b o q r = r.3
    waiting_holds calls w l k Working b o q r = absurd (false≢true q)
    waiting_holds calls w l k (WantsTable c d) b o q r = absurd (false≢true q)
    waiting_holds calls w l k (Granted job) b o q r = absurd (false≢true q)
    waiting_holds calls w l k (ToOutside job) b o q r = absurd (false≢true q)
    waiting_holds calls w l k (Outside job) b o q r = absurd (false≢true q)
    waiting_holds calls w l k (Recorded job) b o q r = absurd (false≢true q)
    waiting_holds calls w l k (Blocked c d) b o q r = absurd (false≢true q)
    waiting_holds calls w l k Ended b o q r = absurd (false≢true q)
at_end calls s w carried busy (r ∷ rs) h k q = at_end calls s (next_world calls w (carried r.turn.thread) r r.answer)
    (handed_on calls carried r) (opened busy r) rs h.2 k q

-- no other thread waits
others_calm : (calls : CallTable) (w : World) (s : State) (k : ℕ) → Right calls w s → is_number s.table.holder k ≡ false
    → is_waiting (thread_of s k).phase ≡ false
others_calm calls w s k right none =
    ⊎_elim
    (λ (q : is_waiting (thread_of s k).phase ≡ true).
    absurd (false≢true (sym none ∙ at_end calls s w (λ j. calls.nothing_carried) (λ j. false) s.rows right k q)))
    (λ (q : is_waiting (thread_of s k).phase ≡ false). q)
    (cases_Bool (is_waiting (thread_of s k).phase))

-- a row is added whose turn comes after all rows and before all clocks
ordered_grant : (s z : State) (i : ℕ) (new : Row) → GoesOn s z i → z.rows ≡ s.rows ++ new ∷ []
    → AllBefore s.rows new.turn → EachLive z (λ u. is_before new.turn u ≡ true)
    → ((k : ℕ) → is_waiting (thread_of z k).phase ≡ false) → Ordered s → Ordered z
ordered_grant s z i new g rows after before calm h =
    record {
      rising = subst IsRising (sym rows) (rising_push s.rows new h.rising after);
      before = λ k live. subst (λ (l : List Row). AllBefore l (turn_of z k)) (sym rows)
          (all_push s.rows new (turn_of z k)
          (each_later s z i (AllBefore s.rows) g (λ c d j l q. all_later s.rows c d j l q) h.before k live)
          (before k live));
      waits = λ k. waits_not z k (thread_of z k).phase (calm k);
    }

-- the turn of the thread that has it comes before all clocks after its attempt
turn_first : (s z : State) (i : ℕ) → GoesOn s z i → (thread_of s i).clock < (thread_of z i).clock → Leading s i
    → EachLive z (λ u. is_before (turn_of s i) u ≡ true)
turn_first s z i g less h k live =
    ⊎_elim
    (λ (e : i ≡ k). subst (λ (n : ℕ). is_before (turn_of s i) (turn_of z n) ≡ true) e
    (before_in (turn_of s i) (turn_of z i) (inl less)))
    (λ (e : i ≡ k → ⊥).
    let same = g.others k e in
    subst (λ (t : Thread). is_before (turn_of s i) (record { clock = t.clock; thread = k }) ≡ true) (sym same)
    (before_in (turn_of s i) (turn_of s k)
    (h.first k (sym (ap live_clock same) ∙ (live ∙ ap (λ (t : Thread). Some t.clock) same)) (λ q. e (sym q)))))
    (cases_eq i k)

calm_after : (calls : CallTable) (w : World) (s z : State) (i : ℕ) → GoesOn s z i → Right calls w s
    → ((k : ℕ) → (i ≡ k → ⊥) → is_number s.table.holder k ≡ false) → is_waiting (thread_of z i).phase ≡ false → (k : ℕ)
    → is_waiting (thread_of z k).phase ≡ false
calm_after calls w s z i g right none mine k =
    ⊎_elim
    (λ (e : i ≡ k). subst (λ (n : ℕ). is_waiting (thread_of z n).phase ≡ false) e mine)
    (λ (e : i ≡ k → ⊥). ap (λ (t : Thread). is_waiting t.phase) (g.others k e)
    ∙ others_calm calls w s k right (none k e))
    (cases_eq i k)

goes_set : (s z : State) (i : ℕ) (u : Thread) → z.threads ≡ set s.threads i u → i < length s.threads → IsLive s i
    → (thread_of s i).clock ≤ u.clock → GoesOn s z i
goes_set s z i u e l live clock =
    record {
      live = live;
      clock = subst (λ (ts : List Thread). (thread_of s i).clock ≤ (get_or ts i nobody).clock) (sym e)
          (subst (λ (t : Thread). (thread_of s i).clock ≤ t.clock) (sym (get_or-set_same s.threads i u nobody l))
          clock);
      others = λ k apart. ap (λ (ts : List Thread). get_or ts k nobody) e
          ∙ get_or-set_other s.threads i k u nobody (λ q. apart (sym q));
    }

now_in : (s z : State) (i : ℕ) (u : Thread) → z.threads ≡ set s.threads i u → i < length s.threads → thread_of z i ≡ u
now_in s z i u e l = ap (λ (ts : List Thread). get_or ts i nobody) e ∙ get_or-set_same s.threads i u nobody l

ordered_failed : (s : State) (i : ℕ) → i < length s.threads → IsLive s i → Ordered s
    → Ordered (failed s i (thread_of s i))
ordered_failed s i l live h =
    let t = thread_of s i in
    let u = record t { clock = t.clock + 1 } in
    let z = failed s i t in
    let g = goes_set s z i u refl l live (omega arith) in
    ordered_on s z i g h.rising (λ turn q. q)
    (waits_later s z i i (thread_of z i).phase g (λ turn q. q)
    (subst (λ (v : Thread). Waits s i v.phase) (sym (now_in s z i u refl l)) (h.waits i))) h

ordered_planned : (calls : CallTable) (w : World) (s : State) (i : ℕ) (c : Call) (b : Carried) (plan : Plan)
    → i < length s.threads → Leading s i → takes s.table (thread_of s i).clock ≡ true → Right calls w s
    → Ordered s → Ordered (planned calls s i (thread_of s i) c b (turn_of s i) plan s.world)
ordered_planned calls w s i c b No_object l h can right o =
    let t = thread_of s i in
    let u = granted t (t.clock + 1) (new_job c b (turn_of s i) No_object s.world) false in
    let z = planned calls s i t c b (turn_of s i) No_object s.world in
    let g = goes_set s z i u refl l h.live (omega arith) in
    let there : thread_of z i ≡ u = now_in s z i u refl l in
    ordered_grant s z i (new_row (turn_of s i) c) g refl (o.before i h.live)
    (turn_first s z i g (subst (λ (v : Thread). t.clock < v.clock) (sym there) (omega arith)) h)
    (calm_after calls w s z i g right (λ k apart. taken_not s.table t.clock k can)
    (ap (λ (v : Thread). is_waiting v.phase) there)) o
ordered_planned calls w s i c b (Object n way) l h can right o =
    let t = thread_of s i in
    let u = record t { phase = WantsObject c b t.clock n way; clock = t.clock + 1 } in
    let z = planned calls s i t c b (turn_of s i) (Object n way) s.world in
    let g = goes_set s z i u refl l h.live (omega arith) in
    let there : thread_of z i ≡ u = now_in s z i u refl l in
    ordered_on s z i g o.rising (λ turn q. q)
    (subst (λ (v : Thread). Waits z i v.phase) (sym there)
    (o.before i h.live, turn_first s z i g (subst (λ (v : Thread). t.clock < v.clock) (sym there) (omega arith)) h))
    o

-- the grant of an object
reached_order : (calls : CallTable) (w : World) (s z : State) (i : ℕ) (c : Call) (b : Carried) (clock n : ℕ) (way : Way)
    (u : Thread) → i < length s.threads → IsLive s i → (thread_of s i).phase ≡ WantsObject c b clock n way
    → is_number s.table.holder i ≡ true → Right calls w s → z.threads ≡ set s.threads i u
    → (thread_of s i).clock ≤ u.clock → is_waiting u.phase ≡ false
    → z.rows ≡ s.rows ++ new_row (record { clock = clock; thread = i }) c ∷ [] → Ordered s → Ordered z
reached_order calls w s z i c b clock n way u l live phase holder right set_u later calm rows o =
    let turn : Turn = record { clock = clock; thread = i } in
    let g = goes_set s z i u set_u l live later in
    let waits = subst (Waits s i) phase (o.waits i) in
    ordered_grant s z i (new_row turn c) g rows waits.0
    (each_later s z i (λ v. is_before turn v ≡ true) g (λ d e j q h. before_later turn d e j q h) waits.1)
    (calm_after calls w s z i g right (λ k apart. one_holder s.table.holder i k holder apart)
    (ap (λ (v : Thread). is_waiting v.phase) (now_in s z i u set_u l) ∙ calm)) o

ordered_reached : (calls : CallTable) (w : World) (s : State) (i : ℕ) (c : Call) (b : Carried) (clock n : ℕ) (way : Way)
    → i < length s.threads → IsLive s i → (thread_of s i).phase ≡ WantsObject c b clock n way
    → is_number s.table.holder i ≡ true → Right calls w s → Ordered s
    → Ordered (reached calls s i (thread_of s i) c b (record { clock = clock; thread = i }) n way s.world)
ordered_reached calls w s i c b clock n Inside l live phase holder right o =
    let t = thread_of s i in
    let turn : Turn = record { clock = clock; thread = i } in
    reached_order calls w s (reached calls s i t c b turn n Inside s.world) i c b clock n Inside
    (granted t (t.clock + 2) (new_job c b turn (Object n Inside) s.world) false) l live phase holder right refl
    (omega arith) refl refl o
ordered_reached calls w s i c b clock n Door l live phase holder right o =
    let t = thread_of s i in
    let turn : Turn = record { clock = clock; thread = i } in
    reached_order calls w s (reached calls s i t c b turn n Door s.world) i c b clock n Door
    (granted t (t.clock + 2) (new_job c b turn (Object n Door) s.world) true) l live phase holder right refl
    (omega arith) refl refl o
ordered_reached calls w s i c b clock n Keeps_table l live phase holder right o =
    let t = thread_of s i in
    let turn : Turn = record { clock = clock; thread = i } in
    reached_order calls w s (reached calls s i t c b turn n Keeps_table s.world) i c b clock n Keeps_table
    (granted t (t.clock + 1) (new_job c b turn (Object n Keeps_table) s.world) true) l live phase holder right refl
    (omega arith) refl refl o

ordered_attempt : (setup : Setup) (w : World) (s : State) (i : ℕ) → can_attempt setup s i ≡ true → Right setup.calls w s
    → Ordered s → Ordered (attempt setup i s)
ordered_attempt setup w s i can right o =
    let l = wanting_within setup s i can in
    let h = leading_out s i (can_out setup s i can).turn in
    at_attempt setup s i (λ p z. (thread_of s i).phase ≡ p → Ordered z) can
    (record {
      fails = λ p q phase. ordered_failed s i l h.live o;
      plans = λ c b q phase. ordered_planned setup.calls w s i c b (setup.calls.plan s.world c b) l h q right o;
      reaches = λ c b clock n way q k phase. ordered_reached setup.calls w s i c b clock n way l h.live phase q right o;
    })
    refl

ordered_event : (setup : Setup) (w : World) (s : State) (e : Event) → is_allowed setup e s ≡ true
    → Right setup.calls w s → Ordered s → Ordered (happens setup e s)
ordered_event setup w s (Attempts i) can right o = ordered_attempt setup w s i can right o
ordered_event setup w s (Advances i) can right o =
    let m = move_of setup s i can in
    subst Ordered (sym (advance_move setup i s ∙ ap (λ (v : Option Moved). move i v s) m.1))
    (ordered_move setup s i m.0 m.1 o)

ordered_start : (threads objects : ℕ) (w : World) → Ordered (start threads objects w)
ordered_start threads objects w =
    let s = start threads objects w in
    record {
      rising = tt;
      before = λ k live. tt;
      waits = λ k.
          ⊎_elim
          (λ (e : thread_of s k ≡ first_thread). subst (λ (t : Thread). Waits s k t.phase) (sym e) tt)
          (λ (e : thread_of s k ≡ nobody). subst (λ (t : Thread). Waits s k t.phase) (sym e) tt)
          (start_thread threads objects w k);
    }

pub rising_law : (setup : Setup) (threads objects : ℕ) (w : World) (events : List Event)
    → IsRising (run setup events (start threads objects w)).rows
rising_law setup threads objects w events =
    let both =
    run_keeps setup (λ (z : State). Right setup.calls w z × Ordered z) events (start threads objects w)
    (λ z e can h. (right_event setup w z e can h.0, ordered_event setup w z e can h.0 h.1))
    (right_start setup.calls threads objects w, ordered_start threads objects w) in
    both.1.rising

pub rising_arisen : (setup : Setup) (threads objects : ℕ) (w : World) (s : State)
    → Arises setup (start threads objects w) s → IsRising s.rows
rising_arisen setup threads objects w s h =
    subst (λ (z : State). IsRising z.rows) h.ends (rising_law (supplied setup (own s)) threads objects w h.events)

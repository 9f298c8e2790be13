-- Each lock is held by just the thread whose phase says so.
use Rattle.std.proofs.Common.{◌≡◌, ℕ, ◌+◌, ◌<◌, ◌⊎◌, List, length, set, get_or, Option, Some, None, true, false, not}
use Rattle.std.proofs.Common.{◌||◌, sym, refl, ap, ◌∙◌, subst, inl, inr, ⊎_elim}
use Rattle.std.proofs.lemmas.Bool.{false≢true, eq-eqb, ne_eqb, cases_eq, cases_Bool}
use Rattle.std.proofs.lemmas.List.{get_or-set_other, get_or-set_same, length-set, length-map, get_or-replicate}
use Rattle.std.proofs.lemmas.List.{length-replicate}
use Rattle.det_mutex.specs.Attempt.{new_lock, takes, held}
use Rattle.det_mutex.specs.declared.lock.DetLock.{DetLock}
use Rattle.lock_model.specs.CallTable.{CallTable, Plan, Way, has_object, keeps_table}
use Rattle.sequential_object.specs.declared.turn_end.TurnEnd.{TurnEnd}
use Rattle.sequential_object.specs.declared.turn_end.TurnEnd.TheVariants as turn_end
use Rattle.lock_model.specs.CallTable.Plan.{No_object, Object}
use Rattle.lock_model.specs.CallTable.Way.{Inside, Door, Keeps_table}
use Rattle.lock_model.specs.Machine.{Setup, Moved, Event, quietly, after_step, one_if, answered, answer, moves}
use Rattle.lock_model.specs.Machine.{is_number, lock_after, move, failed, granted, new_job, planned, reached, wants}
use Rattle.lock_model.specs.Machine.{is_allowed, happens}
use Rattle.lock_model.specs.Machine.Event.{Advances, Attempts}
use Rattle.posix_terms.specs.declared.step.Step.{Step}
use Rattle.posix_terms.specs.declared.step.Step.TheVariants as step
use Rattle.lock_model.specs.Runs.{run}
use Rattle.lock_model.specs.State.{Job, Phase, Thread, State, nobody, thread_of, object_of, start}
use Rattle.lock_model.specs.State.Phase.{Working, WantsTable, WantsObject, Granted, ToOutside, Outside, Recorded}
use Rattle.lock_model.specs.State.Phase.{Blocked, Ended}
use Rattle.sequential_object.specs.Worlds.{World}
use Rattle.posix_terms.specs.Calls.{Call}
use Rattle.sequential_object.specs.Step.{Carried}
use Rattle.posix_terms.specs.declared.transcript.Turn.{Turn}
use Rattle.lock_model.specs.Held.{object_held, holds_table, AreHeld}
use Rattle.lock_model.proofs.Commute.{advance_move, thread_move, one_holder, lock_mine, lock_not}
use Rattle.lock_model.proofs.Turn.{thread_moved}
use Rattle.lock_model.proofs.Attempt.{move_of, can_out, taken_not, holder_after, object_after}
use Rattle.lock_model.proofs.Growth.{at_moves, at_attempt, wanting_within}
use Rattle.lock_model.proofs.Kept.{lock_quiet, run_keeps, first_thread, start_thread}

freed_mine : (i t : ℕ) (l : DetLock) → is_number (lock_after i (Some t) l).holder i ≡ false
freed_mine i t l =
    ⊎_elim
    (λ (own : is_number l.holder i ≡ true). ap (λ (k : DetLock). is_number k.holder i) (lock_mine i (Some t) l own))
    (λ (off : is_number l.holder i ≡ false). lock_not i i (Some t) l off)
    (cases_Bool (is_number l.holder i))

-- ## Events that need no turn

-- such an event keeps the locks of its thread, or frees them all
pub record KeepsLocks (p : Phase) (m : Moved) : Type 0 where
  pub table_freed : m.effect.table_freed ≡ None
  pub object_freed : m.effect.object_freed ≡ None
  pub table : holds_table m.thread.phase ≡ holds_table p
  pub object : object_held m.thread.phase ≡ object_held p

pub record FreesLocks (m : Moved) : Type 0 where
  pub table_freed : (t : ℕ) × (m.effect.table_freed ≡ Some t)
  pub object_freed : (t : ℕ) × (m.effect.object_freed ≡ Some t)
  pub table : holds_table m.thread.phase ≡ false
  pub object : object_held m.thread.phase ≡ None

keeps_step : (calls : CallTable) (t : Thread) (x : Step) → KeepsLocks Working (quietly (after_step calls t x))
keeps_step calls t (step.Work n) = record { table_freed = refl; object_freed = refl; table = refl; object = refl }
keeps_step calls t (step.Call c) = record { table_freed = refl; object_freed = refl; table = refl; object = refl }
keeps_step calls t step.End = record { table_freed = refl; object_freed = refl; table = refl; object = refl }

answered_free : (t : Thread) (c : Call) (n : ℕ) (a : TurnEnd) → (holds_table (answered t c n a).phase ≡ false)
    × (object_held (answered t c n a).phase ≡ None)
answered_free t c n (turn_end.Reply r) = (refl, refl)
answered_free t c n (turn_end.Blocked b) = (refl, refl)

frees_answer : (calls : CallTable) (t : Thread) (job : Job) → FreesLocks (answer calls t job)
frees_answer calls t job =
    let a = calls.answer job.found job.call job.outcome job.carried in
    let n = t.clock + one_if (has_object job.plan) in
    let free = answered_free t job.call (n + one_if (not (has_object job.plan) || keeps_table job.plan)) a in
    record { table_freed = (n, refl); object_freed = (t.clock, refl); table = free.0; object = free.1 }

locks_move : (setup : Setup) (i : ℕ) (t : Thread) (m : Moved) → moves setup i t ≡ Some m → KeepsLocks t.phase m
    ⊎ FreesLocks m
locks_move setup i t m h =
    at_moves setup i t (λ p n. KeepsLocks p n ⊎ FreesLocks n) m
    (record {
      steps = λ x q. inl (keeps_step setup.calls t x);
      begins = λ job. inl (record { table_freed = refl; object_freed = refl; table = refl; object = refl });
      records = λ job o q f. inl (record { table_freed = refl; object_freed = refl; table = refl; object = refl });
      grants = λ job. inr (frees_answer setup.calls t job);
      answers = λ job. inr (frees_answer setup.calls t job);
      agains = λ c b. inl (record { table_freed = refl; object_freed = refl; table = refl; object = refl });
    })
    h

lock_kept : (i : ℕ) (o : Option ℕ) (l : DetLock) → o ≡ None → lock_after i o l ≡ l
lock_kept i o l h = ap (λ (q : Option ℕ). lock_after i q l) h ∙ lock_quiet i l

table_moved : (i : ℕ) (p : Phase) (m : Moved) (l : DetLock) → KeepsLocks p m ⊎ FreesLocks m
    → is_number l.holder i ≡ holds_table p → is_number (lock_after i m.effect.table_freed l).holder i
    ≡ holds_table m.thread.phase
table_moved i p m l (inl k) h =
    ap (λ (x : DetLock). is_number x.holder i) (lock_kept i m.effect.table_freed l k.table_freed) ∙ (h ∙ sym k.table)
table_moved i p m l (inr f) h = ap (λ (o : Option ℕ). is_number (lock_after i o l).holder i) f.table_freed.1
    ∙ (freed_mine i f.table_freed.0 l ∙ sym f.table)

object_moved : (i n : ℕ) (p : Phase) (m : Moved) (l : DetLock) → KeepsLocks p m ⊎ FreesLocks m
    → is_number l.holder i ≡ is_number (object_held p) n → is_number (lock_after i m.effect.object_freed l).holder i
    ≡ is_number (object_held m.thread.phase) n
object_moved i n p m l (inl k) h =
    ap (λ (x : DetLock). is_number x.holder i) (lock_kept i m.effect.object_freed l k.object_freed)
    ∙ (h ∙ ap (λ (o : Option ℕ). is_number o n) (sym k.object))
object_moved i n p m l (inr f) h = ap (λ (o : Option ℕ). is_number (lock_after i o l).holder i) f.object_freed.1
    ∙ (freed_mine i f.object_freed.0 l ∙ ap (λ (o : Option ℕ). is_number o n) (sym f.object))

held_move : (setup : Setup) (s : State) (i : ℕ) (m : Moved) → moves setup i (thread_of s i) ≡ Some m → AreHeld s
    → AreHeld (move i (Some m) s)
held_move setup s i m e h =
    let z = move i (Some m) s in
    let t = thread_of s i in
    let there : thread_of z i ≡ m.thread = thread_moved setup s i m e in
    let locks = locks_move setup i t m e in
    record {
      table = λ k.
          ⊎_elim
          (λ (q : i ≡ k).
          subst (λ (n : ℕ). is_number z.table.holder n ≡ holds_table (thread_of z n).phase) q
          (table_moved i t.phase m s.table locks (h.table i) ∙ ap (λ (u : Thread). holds_table u.phase) (sym there)))
          (λ (apart : i ≡ k → ⊥).
          holder_after k i m.effect.table_freed s.table (λ q. apart (sym q))
          ∙ (h.table k ∙ ap (λ (u : Thread). holds_table u.phase) (sym (thread_move i k (Some m) s apart))))
          (cases_eq i k);
      objects = λ k n l.
          let inside : n < length s.objects =
          subst (λ (x : ℕ). n < x) (length-map s.objects (lock_after i m.effect.object_freed)) l in
          let at : object_of z n ≡ lock_after i m.effect.object_freed (object_of s n) =
          object_after i n m.effect.object_freed s.objects in
          ap (λ (x : DetLock). is_number x.holder k) at
          ∙ ⊎_elim
          (λ (q : i ≡ k).
          subst (λ (j : ℕ). is_number (lock_after i m.effect.object_freed (object_of s n)).holder j
          ≡ is_number (object_held (thread_of z j).phase) n) q
          (object_moved i n t.phase m (object_of s n) locks (h.objects i n inside)
          ∙ ap (λ (u : Thread). is_number (object_held u.phase) n) (sym there)))
          (λ (apart : i ≡ k → ⊥).
          holder_after k i m.effect.object_freed (object_of s n) (λ q. apart (sym q))
          ∙ (h.objects k n inside ∙ ap (λ (u : Thread). is_number (object_held u.phase) n)
          (sym (thread_move i k (Some m) s apart))))
          (cases_eq i k);
    }

-- ## Attempts

-- each other thread is as it was, and thread i is now in this phase
pub record NowIn (s z : State) (i : ℕ) (p : Phase) : Type 0 where
  pub phase : (thread_of z i).phase ≡ p
  pub others : (k : ℕ) → (i ≡ k → ⊥) → thread_of z k ≡ thread_of s k

now_set : (s z : State) (i : ℕ) (u : Thread) → z.threads ≡ set s.threads i u → i < length s.threads
    → NowIn s z i u.phase
now_set s z i u e l =
    record {
      phase = ap (λ (ts : List Thread). (get_or ts i nobody).phase) e
          ∙ ap (λ (t : Thread). t.phase) (get_or-set_same s.threads i u nobody l);
      others = λ k apart. ap (λ (ts : List Thread). get_or ts k nobody) e
          ∙ get_or-set_other s.threads i k u nobody (λ q. apart (sym q));
    }

-- where the lock of the table is now this one
table_now : (s z : State) (i : ℕ) (p : Phase) → NowIn s z i p → is_number z.table.holder i ≡ holds_table p
    → ((k : ℕ) → (i ≡ k → ⊥) → is_number z.table.holder k ≡ is_number s.table.holder k)
    → AreHeld s → (k : ℕ) → is_number z.table.holder k ≡ holds_table (thread_of z k).phase
table_now s z i p g mine others h k =
    ⊎_elim
    (λ (q : i ≡ k). subst (λ (n : ℕ). is_number z.table.holder n ≡ holds_table (thread_of z n).phase) q
    (mine ∙ ap holds_table (sym g.phase)))
    (λ (apart : i ≡ k → ⊥). others k apart
    ∙ (h.table k ∙ ap (λ (u : Thread). holds_table u.phase) (sym (g.others k apart))))
    (cases_eq i k)

-- where no object is taken
objects_same : (s z : State) (i : ℕ) (p : Phase) → NowIn s z i p → z.objects ≡ s.objects
    → object_held p ≡ object_held (thread_of s i).phase
    → AreHeld s → (k n : ℕ) → n < length z.objects
    → is_number (object_of z n).holder k ≡ is_number (object_held (thread_of z k).phase) n
objects_same s z i p g same held h k n l =
    let inside : n < length s.objects = subst (λ (ls : List DetLock). n < length ls) same l in
    ap (λ (ls : List DetLock). is_number (get_or ls n new_lock).holder k) same
    ∙ (h.objects k n inside
    ∙ ⊎_elim
    (λ (q : i ≡ k). subst (λ (j : ℕ). is_number (object_held (thread_of s j).phase) n
    ≡ is_number (object_held (thread_of z j).phase) n) q
    (ap (λ (o : Option ℕ). is_number o n) (sym held ∙ ap object_held (sym g.phase))))
    (λ (apart : i ≡ k → ⊥). ap (λ (u : Thread). is_number (object_held u.phase) n) (sym (g.others k apart)))
    (cases_eq i k))

abbrev held_lock : ℕ → ℕ → State → DetLock
held_lock i m s = held i (object_of s m)

-- where this object is taken
objects_taken : (s z : State) (i m : ℕ) (p : Phase) → NowIn s z i p
    → z.objects ≡ set s.objects m (held i (object_of s m)) → object_held p ≡ Some m
    → object_held (thread_of s i).phase ≡ None
    → ((k : ℕ) → is_number (object_of s m).holder k ≡ false) → AreHeld s → (k n : ℕ) → n < length z.objects
    → is_number (object_of z n).holder k ≡ is_number (object_held (thread_of z k).phase) n
objects_taken s z i m p g taken now before none h k n l =
    let inside : n < length s.objects = subst (λ (x : ℕ). n < x) (length-set s.objects m (held_lock i m s))
    (subst (λ (ls : List DetLock). n < length ls) taken l) in
    ap (λ (ls : List DetLock). is_number (get_or ls n new_lock).holder k) taken
    ∙ ⊎_elim
    (λ (here : m ≡ n).
    let lock : get_or (set s.objects m (held_lock i m s)) n new_lock ≡ held_lock i m s =
    subst (λ (x : ℕ). get_or (set s.objects m (held_lock i m s)) x new_lock ≡ held_lock i m s) here
    (get_or-set_same s.objects m (held_lock i m s) new_lock (subst (λ (x : ℕ). x < length s.objects) (sym here) inside))
    in
    ap (λ (x : DetLock). is_number x.holder k) lock
    ∙ ⊎_elim
    (λ (q : i ≡ k).
    eq-eqb i k q
    ∙ sym (subst (λ (j : ℕ). is_number (object_held (thread_of z j).phase) n ≡ true) q
    (ap (λ (o : Option ℕ). is_number o n) (ap object_held g.phase ∙ now) ∙ eq-eqb m n here)))
    (λ (apart : i ≡ k → ⊥).
    ne_eqb i k apart
    ∙ (sym (subst (λ (x : ℕ). is_number (object_of s x).holder k ≡ false) here (none k))
    ∙ (h.objects k n inside ∙ ap (λ (u : Thread). is_number (object_held u.phase) n) (sym (g.others k apart)))))
    (cases_eq i k))
    (λ (elsewhere : m ≡ n → ⊥).
    ap (λ (x : DetLock). is_number x.holder k)
    (get_or-set_other s.objects m n (held_lock i m s) new_lock (λ q. elsewhere (sym q)))
    ∙ (h.objects k n inside
    ∙ ⊎_elim
    (λ (q : i ≡ k).
    subst (λ (j : ℕ). is_number (object_held (thread_of s j).phase) n ≡ is_number (object_held (thread_of z j).phase) n)
    q
    (ap (λ (o : Option ℕ). is_number o n) before
    ∙ sym (ap (λ (o : Option ℕ). is_number o n) (ap object_held g.phase ∙ now) ∙ ne_eqb m n elsewhere)))
    (λ (apart : i ≡ k → ⊥). ap (λ (u : Thread). is_number (object_held u.phase) n) (sym (g.others k apart)))
    (cases_eq i k)))
    (cases_eq m n)

wanting_object : (p : Phase) → wants p ≡ true → object_held p ≡ None
wanting_object (WantsTable c b) h = refl
wanting_object (WantsObject c b clock n way) h = refl
wanting_object Working h = refl
wanting_object (Blocked c b) h = refl
wanting_object Ended h = refl
wanting_object (Granted job) h = absurd (false≢true h)
wanting_object (ToOutside job) h = absurd (false≢true h)
wanting_object (Outside job) h = absurd (false≢true h)
wanting_object (Recorded job) h = absurd (false≢true h)

held_failed : (s : State) (i : ℕ) → i < length s.threads → AreHeld s → AreHeld (failed s i (thread_of s i))
held_failed s i l h =
    let t = thread_of s i in
    let z = failed s i t in
    let g = now_set s z i (record t { clock = t.clock + 1 }) refl l in
    record {
      table = table_now s z i t.phase g (h.table i) (λ k apart. refl) h;
      objects = objects_same s z i t.phase g refl refl h;
    }

held_planned : (calls : CallTable) (s : State) (i : ℕ) (c : Call) (b : Carried) (turn : Turn) (plan : Plan)
    → i < length s.threads → wants (thread_of s i).phase ≡ true → takes s.table (thread_of s i).clock ≡ true
    → AreHeld s → AreHeld (planned calls s i (thread_of s i) c b turn plan s.world)
held_planned calls s i c b turn No_object l w can h =
    let t = thread_of s i in
    let z = planned calls s i t c b turn No_object s.world in
    let p = Granted (new_job c b turn No_object s.world) in
    let g = now_set s z i (granted t (t.clock + 1) (new_job c b turn No_object s.world) false) refl l in
    record {
      table = table_now s z i p g (eq-eqb i i refl) (λ k apart. ne_eqb i k apart
          ∙ sym (taken_not s.table t.clock k can)) h;
      objects = objects_same s z i p g refl (sym (wanting_object t.phase w)) h;
    }
held_planned calls s i c b turn (Object n way) l w can h =
    let t = thread_of s i in
    let z = planned calls s i t c b turn (Object n way) s.world in
    let p = WantsObject c b turn.clock n way in
    let g = now_set s z i (record t { phase = WantsObject c b turn.clock n way; clock = t.clock + 1 }) refl l in
    record {
      table = table_now s z i p g (eq-eqb i i refl) (λ k apart. ne_eqb i k apart
          ∙ sym (taken_not s.table t.clock k can)) h;
      objects = objects_same s z i p g refl (sym (wanting_object t.phase w)) h;
    }

held_reached : (calls : CallTable) (s : State) (i : ℕ) (c : Call) (b : Carried) (turn : Turn) (n : ℕ) (way : Way)
    → i < length s.threads → wants (thread_of s i).phase ≡ true → is_number s.table.holder i ≡ true
    → takes (object_of s n) (thread_of s i).clock ≡ true → AreHeld s
    → AreHeld (reached calls s i (thread_of s i) c b turn n way s.world)
held_reached calls s i c b turn n Inside l w holder can h =
    let t = thread_of s i in
    let job = new_job c b turn (Object n Inside) s.world in
    let z = reached calls s i t c b turn n Inside s.world in
    let g = now_set s z i (granted t (t.clock + 2) job false) refl l in
    record {
      table = table_now s z i (Granted job) g refl (λ k apart. sym (one_holder s.table.holder i k holder apart)) h;
      objects = objects_taken s z i n (Granted job) g refl refl (wanting_object t.phase w)
          (λ k. taken_not (object_of s n) t.clock k can) h;
    }
held_reached calls s i c b turn n Door l w holder can h =
    let t = thread_of s i in
    let job = new_job c b turn (Object n Door) s.world in
    let z = reached calls s i t c b turn n Door s.world in
    let g = now_set s z i (granted t (t.clock + 2) job true) refl l in
    record {
      table = table_now s z i (ToOutside job) g refl (λ k apart. sym (one_holder s.table.holder i k holder apart)) h;
      objects = objects_taken s z i n (ToOutside job) g refl refl (wanting_object t.phase w)
          (λ k. taken_not (object_of s n) t.clock k can) h;
    }
held_reached calls s i c b turn n Keeps_table l w holder can h =
    let t = thread_of s i in
    let job = new_job c b turn (Object n Keeps_table) s.world in
    let z = reached calls s i t c b turn n Keeps_table s.world in
    let g = now_set s z i (granted t (t.clock + 1) job true) refl l in
    record {
      table = table_now s z i (ToOutside job) g holder (λ k apart. refl) h;
      objects = objects_taken s z i n (ToOutside job) g refl refl (wanting_object t.phase w)
          (λ k. taken_not (object_of s n) t.clock k can) h;
    }

held_event : (setup : Setup) (s : State) (e : Event) → is_allowed setup e s ≡ true → AreHeld s
    → AreHeld (happens setup e s)
held_event setup s (Advances i) can h =
    let m = move_of setup s i can in
    subst AreHeld (sym (advance_move setup i s ∙ ap (λ (v : Option Moved). move i v s) m.1))
    (held_move setup s i m.0 m.1 h)
held_event setup s (Attempts i) can h =
    let l = wanting_within setup s i can in
    let w = (can_out setup s i can).wanting in
    at_attempt setup s i (λ p z. AreHeld z) can
    (record {
      fails = λ p q. held_failed s i l h;
      plans = λ c b q. held_planned setup.calls s i c b (record { clock = (thread_of s i).clock; thread = i })
          (setup.calls.plan s.world c b) l w q h;
      reaches = λ c b clock n way q k. held_reached setup.calls s i c b (record { clock = clock; thread = i }) n way l w
          q k h;
    })

held_start : (threads objects : ℕ) (w : World) → AreHeld (start threads objects w)
held_start threads objects w =
    let s = start threads objects w in
    let free : (k : ℕ) → ((false ≡ holds_table (thread_of s k).phase) × (object_held (thread_of s k).phase ≡ None)) =
    λ k.
    ⊎_elim
    (λ (e : thread_of s k ≡ first_thread). subst (λ (t : Thread). (false ≡ holds_table t.phase)
    × (object_held t.phase ≡ None)) (sym e) (refl, refl))
    (λ (e : thread_of s k ≡ nobody). subst (λ (t : Thread). (false ≡ holds_table t.phase)
    × (object_held t.phase ≡ None)) (sym e) (refl, refl))
    (start_thread threads objects w k) in
    record {
      table = λ k. (free k).0;
      objects = λ k n l.
          let inside : n < objects = subst (λ (x : ℕ). n < x) (length-replicate objects new_lock) l in
          ap (λ (x : DetLock). is_number x.holder k) (get_or-replicate objects n new_lock new_lock inside)
          ∙ ap (λ (o : Option ℕ). is_number o n) (sym (free k).1);
    }

pub held_run : (setup : Setup) (threads objects : ℕ) (w : World) (events : List Event)
    → AreHeld (run setup events (start threads objects w))
held_run setup threads objects w events = run_keeps setup AreHeld events (start threads objects w)
    (λ z e can h. held_event setup z e can h) (held_start threads objects w)

-- The turn of a thread that is outside comes after those of all that came for it.
use Rattle.lock_model.proofs.Follows.{each_thread}
use Rattle.lock_model.proofs.Kept.{run_keeps, first_thread, start_thread}
use Rattle.lock_model.proofs.Growth.{at_moves, at_attempt, wanting_within}
use Rattle.lock_model.proofs.Attempt.{move_of, attempt_other}
use Rattle.lock_model.proofs.Turn.{thread_moved}
use Rattle.lock_model.proofs.Commute.{thread_advance, advance_move}
use Rattle.std.proofs.lemmas.List.{get_or-set_same}
use Rattle.std.proofs.Common.{◌≡◌, ℕ, ◌+◌, ◌<◌, List, [], ◌∷◌, ◌++◌, Option, Some, true, sym, refl, ap, ◌∙◌, subst}
use Rattle.std.proofs.Common.{⊎_elim, arith}
use Rattle.std.proofs.lemmas.List.Sums.{fold-append}
use Rattle.std.specs.Prelude.{get_or, length, set}
use Rattle.std.specs.Option.{unwrap_or}
use Rattle.lock_model.specs.CallTable.{CallTable, Plan, Way}
use Rattle.lock_model.specs.CallTable.Plan.{No_object, Object}
use Rattle.lock_model.specs.CallTable.Way.{Inside, Door, Keeps_table}
use Rattle.lock_model.specs.Machine.{Setup, Moved, Event, after_step, answered, advance, attempt, can_attempt, failed}
use Rattle.lock_model.specs.Machine.{happens, is_allowed, move, moves, planned, reached}
use Rattle.lock_model.specs.Machine.Event.{Advances, Attempts}
use Rattle.lock_model.specs.Runs.{own, supplied}
use Rattle.lock_model.specs.State.{Phase, State, Thread, nobody, start, thread_of}
use Rattle.lock_model.specs.State.Phase.{Working, WantsTable, WantsObject, Granted, ToOutside, Outside, Recorded}
use Rattle.lock_model.specs.State.Phase.{Blocked, Ended}
use Rattle.lock_model.specs.Times.{TimesOfArisen, last_clock}
use Rattle.posix_terms.specs.Calls.{Call}
use Rattle.posix_terms.specs.Outcomes.{dated}
use Rattle.posix_terms.specs.declared.outcome.Given.{Given}
use Rattle.posix_terms.specs.declared.step.Step.{Step}
use Rattle.posix_terms.specs.declared.step.Step.TheVariants as step
use Rattle.posix_terms.specs.declared.transcript.Turn.{Turn}
use Rattle.sequential_object.specs.Step.{Carried}
use Rattle.sequential_object.specs.Worlds.{World}
use Rattle.sequential_object.specs.declared.turn_end.TurnEnd.{TurnEnd}
use Rattle.sequential_object.specs.declared.turn_end.TurnEnd.TheVariants as turn_end

-- what came before this clock was for earlier turns, and a turn that the thread has is between
abbrev Before : ℕ → Phase → ℕ → Type 0
Before last (WantsObject c b turn n way) clock = (last < turn) × (turn < clock)
Before last (ToOutside job) clock = (last < job.turn.clock) × (job.turn.clock < clock)
Before last (Outside job) clock = (last < job.turn.clock) × (job.turn.clock < clock)
Before last Ended clock = Unit {0}
Before last p clock = last < clock

abbrev IsTimed : Thread → Type 0
IsTimed t = Before (last_clock t.came) t.phase t.clock

timed_step : (calls : CallTable) (t : Thread) (x : Step) → last_clock t.came < t.clock → IsTimed (after_step calls t x)
timed_step calls t (step.Work n) h = omega (arith, h)
timed_step calls t (step.Call c) h = h
timed_step calls t step.End h = tt

timed_answered : (t : Thread) (c : Call) (n : ℕ) (a : TurnEnd) → last_clock t.came < n → IsTimed (answered t c n a)
timed_answered t c n (turn_end.Reply r) h = h
timed_answered t c n (turn_end.Blocked b) h = h

timed_move : (setup : Setup) (i : ℕ) (t : Thread) (m : Moved) → moves setup i t ≡ Some m → IsTimed t → IsTimed m.thread
timed_move setup i t m e h =
    at_moves setup i t (λ p n. Before (last_clock t.came) p t.clock → IsTimed n.thread) m
    (record {
      steps = λ x q k. timed_step setup.calls t x k;
      begins = λ job k. let later = k.1 in (k.0, omega (arith, later));
      records = λ job o q f k.
          let last : last_clock (t.came ++ dated job.turn o ∷ []) ≡ job.turn.clock =
          fold-append (λ (last : ℕ) (g : Given). unwrap_or g.clock 0) 0 t.came (dated job.turn o ∷ []) in
          subst (λ (n : ℕ). n < t.clock) (sym last) k.1;
      grants = λ job k. timed_answered t job.call _ (setup.calls.answer job.found job.call job.outcome job.carried)
          (omega (arith, k));
      answers = λ job k. timed_answered t job.call _ (setup.calls.answer job.found job.call job.outcome job.carried)
          (omega (arith, k));
      agains = λ c b k. k;
    })
    e h

timed_later : (last : ℕ) (p : Phase) (clock : ℕ) → Before last p clock → Before last p (clock + 1)
timed_later last (WantsObject c b turn n way) clock h = let later = h.1 in (h.0, omega (arith, later))
timed_later last (ToOutside job) clock h = let later = h.1 in (h.0, omega (arith, later))
timed_later last (Outside job) clock h = let later = h.1 in (h.0, omega (arith, later))
timed_later last Ended clock h = tt
timed_later last Working clock h = omega (arith, h)
timed_later last (WantsTable c b) clock h = omega (arith, h)
timed_later last (Granted job) clock h = omega (arith, h)
timed_later last (Recorded job) clock h = omega (arith, h)
timed_later last (Blocked c b) clock h = omega (arith, h)

timed_set : (s : State) (z : State) (i : ℕ) (u : Thread) → z.threads ≡ set s.threads i u → i < length s.threads
    → IsTimed u → IsTimed (thread_of z i)
timed_set s z i u e l h = subst IsTimed
    (sym (ap (λ (ts : List Thread). get_or ts i nobody) e ∙ get_or-set_same s.threads i u nobody l)) h

timed_planned : (calls : CallTable) (s : State) (i : ℕ) (c : Call) (b : Carried) (plan : Plan) → i < length s.threads
    → last_clock (thread_of s i).came < (thread_of s i).clock
    → (let turn : Turn = record { clock = (thread_of s i).clock; thread = i } in
    IsTimed (thread_of (planned calls s i (thread_of s i) c b turn plan s.world) i))
timed_planned calls s i c b No_object l h =
    let turn : Turn = record { clock = (thread_of s i).clock; thread = i } in
    timed_set s (planned calls s i (thread_of s i) c b turn No_object s.world) i _ refl l (omega (arith, h))
timed_planned calls s i c b (Object n way) l h =
    let turn : Turn = record { clock = (thread_of s i).clock; thread = i } in
    timed_set s (planned calls s i (thread_of s i) c b turn (Object n way) s.world) i _ refl l (h, omega arith)

timed_reached : (calls : CallTable) (s : State) (i : ℕ) (c : Call) (b : Carried) (clock n : ℕ) (way : Way)
    → i < length s.threads
    → last_clock (thread_of s i).came < clock → clock < (thread_of s i).clock
    → (let turn : Turn = record { clock = clock; thread = i } in
    IsTimed (thread_of (reached calls s i (thread_of s i) c b turn n way s.world) i))
timed_reached calls s i c b clock n Inside l h k =
    let turn : Turn = record { clock = clock; thread = i } in
    timed_set s (reached calls s i (thread_of s i) c b turn n Inside s.world) i _ refl l (omega (arith, h, k))
timed_reached calls s i c b clock n Door l h k =
    let turn : Turn = record { clock = clock; thread = i } in
    timed_set s (reached calls s i (thread_of s i) c b turn n Door s.world) i _ refl l (h, omega (arith, k))
timed_reached calls s i c b clock n Keeps_table l h k =
    let turn : Turn = record { clock = clock; thread = i } in
    timed_set s (reached calls s i (thread_of s i) c b turn n Keeps_table s.world) i _ refl l (h, omega (arith, k))

timed_attempt : (setup : Setup) (s : State) (i : ℕ) → can_attempt setup s i ≡ true → IsTimed (thread_of s i)
    → IsTimed (thread_of (attempt setup i s) i)
timed_attempt setup s i can h =
    let t = thread_of s i in
    let l = wanting_within setup s i can in
    let last = last_clock t.came in
    at_attempt setup s i (λ p z. t.phase ≡ p → IsTimed (thread_of z i)) can
    (record {
      fails = λ p q phase. timed_set s (failed s i t) i _ refl l (timed_later last t.phase t.clock h);
      plans = λ c b q phase. timed_planned setup.calls s i c b (setup.calls.plan s.world c b) l
          (subst (λ (p : Phase). Before last p t.clock) phase h);
      reaches = λ c b clock n way q k phase.
          let both = subst (λ (p : Phase). Before last p t.clock) phase h in
          timed_reached setup.calls s i c b clock n way l both.0 both.1;
    })
    refl

timed_event : (setup : Setup) (s : State) (e : Event) → is_allowed setup e s ≡ true
    → ((k : ℕ) → IsTimed (thread_of s k)) → (k : ℕ) → IsTimed (thread_of (happens setup e s) k)
timed_event setup s (Advances i) can h =
    let m = move_of setup s i can in
    let there : thread_of (advance setup i s) i ≡ m.0.thread =
    ap (λ (z : State). thread_of z i) (advance_move setup i s ∙ ap (λ (o : Option Moved). move i o s) m.1)
    ∙ thread_moved setup s i m.0 m.1 in
    each_thread (λ k t. IsTimed t) s (advance setup i s) i (λ k apart. thread_advance setup i k s apart)
    (subst IsTimed (sym there) (timed_move setup i (thread_of s i) m.0 m.1 (h i))) h
timed_event setup s (Attempts i) can h =
    each_thread (λ k t. IsTimed t) s (attempt setup i s) i (λ k apart. attempt_other setup i k s apart)
    (timed_attempt setup s i can (h i)) h

timed_start : (threads objects : ℕ) (w : World) (k : ℕ) → IsTimed (thread_of (start threads objects w) k)
timed_start threads objects w k =
    ⊎_elim
    (λ (e : thread_of (start threads objects w) k ≡ first_thread). subst IsTimed (sym e) (omega arith))
    (λ (e : thread_of (start threads objects w) k ≡ nobody). subst IsTimed (sym e) tt)
    (start_thread threads objects w k)

pub times_arisen : TimesOfArisen
times_arisen setup threads objects w s h i job is =
    let all =
    run_keeps (supplied setup (own s)) (λ (z : State). (k : ℕ) → IsTimed (thread_of z k)) h.events
    (start threads objects w)
    (λ z e can g. timed_event (supplied setup (own s)) z e can g) (timed_start threads objects w) in
    subst (λ (p : Phase). Before (last_clock (thread_of s i).came) p (thread_of s i).clock) is
    (subst (λ (z : State). IsTimed (thread_of z i)) h.ends (all i))

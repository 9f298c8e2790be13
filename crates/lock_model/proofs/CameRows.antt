-- What came for a thread are the outcomes of its rows, and a thread that is outside has room for one.
use Rattle.std.proofs.Common.{◌≡◌, ℕ, ◌<◌, List, [], ◌∷◌, ◌++◌, length, map, Option, Some, None, Bool, true, false}
use Rattle.std.proofs.Common.{cond, nat_lt, sym, refl, ap, ap₂, ◌∙◌, subst, ⊎_elim}
use Rattle.std.proofs.lemmas.Bool.{false≢true, cases_eq, cases_Bool}
use Rattle.std.proofs.lemmas.List.{get_or-set_same}
use Rattle.std.proofs.lemmas.Option.{none-some}
use Rattle.lock_model.specs.CallTable.{CallTable, Plan, Way}
use Rattle.sequential_object.specs.declared.turn_end.TurnEnd.{TurnEnd}
use Rattle.sequential_object.specs.declared.turn_end.TurnEnd.TheVariants as turn_end
use Rattle.lock_model.specs.CallTable.Plan.{No_object, Object}
use Rattle.lock_model.specs.CallTable.Way.{Inside, Door, Keeps_table}
use Rattle.lock_model.specs.Came.{CameIsRows, RoomOutside}
use Rattle.lock_model.specs.Machine.{Setup, Effect, Moved, Event, after_step, answered, answer, with_outcome, moves}
use Rattle.lock_model.specs.Machine.{moves_in, is_open, first_of, row_after, move, advance, failed, planned, reached}
use Rattle.lock_model.specs.Machine.{wants, can_attempt, attempt, is_allowed, happens}
use Rattle.lock_model.specs.Machine.Event.{Advances, Attempts}
use Rattle.lock_model.specs.Runs.{run, supplied, own}
use Rattle.lock_model.specs.State.{Job, Phase, Thread, Row, State, nobody, thread_of, start}
use Rattle.lock_model.specs.State.Phase.{Working, Granted, ToOutside, Outside, Recorded}
use Rattle.sequential_object.specs.Worlds.{World}
use Rattle.lock_model.specs.Transcripts.{outcomes_of}
use Rattle.posix_terms.specs.Calls.{Call}
use Rattle.posix_terms.specs.Outcomes.{dated}
use Rattle.posix_terms.specs.declared.outcome.Given.{Given}
use Rattle.posix_terms.specs.declared.transcript.Turn.{Turn}
use Rattle.sequential_object.specs.Step.{Carried}
use Rattle.posix_terms.specs.declared.step.Step.{Step}
use Rattle.posix_terms.specs.declared.step.Step.TheVariants as step
use Rattle.lock_model.proofs.Commute.{row_open, row_closed, row_turn, thread_move, thread_advance, advance_move}
use Rattle.lock_model.proofs.Turn.{moves_out, thread_moved}
use Rattle.lock_model.proofs.Attempt.{move_of, can_out, attempt_other}
use Rattle.lock_model.proofs.Growth.{at_moves, at_attempt, wanting_within}
use Rattle.lock_model.proofs.Walk.{Holding, Pending, Walk, first_none}
use Rattle.lock_model.proofs.Kept.{Right, busy_phase, busy_found, right_event, right_start, run_keeps, first_thread}
use Rattle.lock_model.proofs.Kept.{start_thread}
use Rattle.lock_model.proofs.Follows.{each_thread}
use Rattle.lock_model.proofs.OfRows.{of_attempt, of_filled, of_other, of_same}

-- ## The outcomes of one thread's rows

abbrev outcome_in : Row → Option Given
outcome_in r = r.outcome

-- ## Attempts

abbrev outside : Phase → Bool
outside (Outside job) = true
outside p = false

-- after an attempt its thread is not outside, and nothing came for it
record AfterTry (s z : State) (i : ℕ) : Type 0 where
  came : (thread_of z i).came ≡ (thread_of s i).came
  inside : outside (thread_of z i).phase ≡ false

after_by : (s z : State) (i : ℕ) (u : Thread) → thread_of z i ≡ u → u.came ≡ (thread_of s i).came
    → outside u.phase ≡ false → AfterTry s z i
after_by s z i u now came inside =
    record { came = ap (λ (t : Thread). t.came) now ∙ came; inside = ap (λ (t : Thread). outside t.phase) now ∙ inside }

wanting_inside : (p : Phase) → wants p ≡ true → outside p ≡ false
wanting_inside (Outside job) h = absurd (false≢true h)
wanting_inside p h = refl

after_planned : (calls : CallTable) (s : State) (i : ℕ) (c : Call) (b : Carried) (turn : Turn) (plan : Plan) (w : World)
    → i < length s.threads → AfterTry s (planned calls s i (thread_of s i) c b turn plan w) i
after_planned calls s i c b turn No_object w l = after_by s (planned calls s i (thread_of s i) c b turn No_object w) i _
    (get_or-set_same s.threads i _ nobody l) refl refl
after_planned calls s i c b turn (Object n way) w l =
    after_by s (planned calls s i (thread_of s i) c b turn (Object n way) w) i _
    (get_or-set_same s.threads i _ nobody l) refl refl

after_reached : (calls : CallTable) (s : State) (i : ℕ) (c : Call) (b : Carried) (turn : Turn) (n : ℕ) (way : Way)
    (w : World) → i < length s.threads → AfterTry s (reached calls s i (thread_of s i) c b turn n way w) i
after_reached calls s i c b turn n Inside w l = after_by s (reached calls s i (thread_of s i) c b turn n Inside w) i _
    (get_or-set_same s.threads i _ nobody l) refl refl
after_reached calls s i c b turn n Door w l = after_by s (reached calls s i (thread_of s i) c b turn n Door w) i _
    (get_or-set_same s.threads i _ nobody l) refl refl
after_reached calls s i c b turn n Keeps_table w l =
    after_by s (reached calls s i (thread_of s i) c b turn n Keeps_table w) i _ (get_or-set_same s.threads i _ nobody l)
    refl refl

after_attempt : (setup : Setup) (s : State) (i : ℕ) → can_attempt setup s i ≡ true → AfterTry s (attempt setup i s) i
after_attempt setup s i can =
    let t = thread_of s i in
    let l = wanting_within setup s i can in
    at_attempt setup s i (λ p z. AfterTry s z i) can
    (record {
      fails = λ p h. after_by s (failed s i t) i _ (get_or-set_same s.threads i _ nobody l) refl
          (wanting_inside t.phase (can_out setup s i can).wanting);
      plans = λ c b h. after_planned setup.calls s i c b (record { clock = t.clock; thread = i })
          (setup.calls.plan s.world c b) s.world l;
      reaches = λ c b clock n way h g. after_reached setup.calls s i c b (record { clock = clock; thread = i }) n way
          s.world l;
    })

-- ## A thread that is outside has room for an outcome

abbrev HasRoom : Setup → Thread → Type 0
HasRoom setup t = outside t.phase ≡ true → nat_lt (length t.came) setup.limits.outcome_limit ≡ true

-- no step and no answer leads outside
step_inside : (calls : CallTable) (t : Thread) (x : Step) → outside (after_step calls t x).phase ≡ false
step_inside calls t (step.Work n) = refl
step_inside calls t (step.Call c) = refl
step_inside calls t step.End = refl

answered_inside : (t : Thread) (c : Call) (n : ℕ) (a : TurnEnd) → outside (answered t c n a).phase ≡ false
answered_inside t c n (turn_end.Reply r) = refl
answered_inside t c n (turn_end.Blocked b) = refl

-- a thread that an event leads outside was on its way there, with the same outcomes
abbrev BeginsFrom : Thread → Phase → Thread → Type 0
BeginsFrom t p u = outside u.phase ≡ true → (u.came ≡ t.came) × ((job : Job) × (p ≡ ToOutside job))

not_outside : (t : Thread) (p : Phase) (u : Thread) → outside u.phase ≡ false → BeginsFrom t p u
not_outside t p u off h = absurd (false≢true (sym off ∙ h))

begins_move : (setup : Setup) (i : ℕ) (t : Thread) (m : Moved) → moves setup i t ≡ Some m
    → BeginsFrom t t.phase m.thread
begins_move setup i t m e =
    at_moves setup i t (λ p n. BeginsFrom t p n.thread) m
    (record {
      steps = λ x q. not_outside t Working (after_step setup.calls t x) (step_inside setup.calls t x);
      begins = λ job h. (refl, (job, refl));
      records = λ job o q f h. absurd (false≢true h);
      grants = λ job. not_outside t (Granted job) (answer setup.calls t job).thread
          (answered_inside t job.call _ (setup.calls.answer job.found job.call job.outcome job.carried));
      answers = λ job. not_outside t (Recorded job) (answer setup.calls t job).thread
          (answered_inside t job.call _ (setup.calls.answer job.found job.call job.outcome job.carried));
      agains = λ c b h. absurd (false≢true h);
    })
    e

some_true : (b : Bool) (n m : Moved) → cond b (Some n) None ≡ Some m → b ≡ true
some_true true n m h = refl
some_true false n m h = absurd (none-some m h)

-- it goes outside only where there is room
begun_room : (setup : Setup) (i : ℕ) (t : Thread) (m : Moved) (job : Job) → t.phase ≡ ToOutside job
    → moves setup i t ≡ Some m → nat_lt (length t.came) setup.limits.outcome_limit ≡ true
begun_room setup i t m job is e =
    let in_phase : moves_in setup i t (ToOutside job) ≡ Some m = subst (λ (p : Phase). moves_in setup i t p ≡ Some m) is
    (moves_out setup i t m e).0 in
    some_true (nat_lt (length t.came) setup.limits.outcome_limit) _ m in_phase

room_move : (setup : Setup) (i : ℕ) (t : Thread) (m : Moved) → moves setup i t ≡ Some m → HasRoom setup m.thread
room_move setup i t m e h =
    let from = begins_move setup i t m e h in
    ap (λ (l : List Given). nat_lt (length l) setup.limits.outcome_limit) from.0
    ∙ begun_room setup i t m from.1.0 from.1.1 e

room_event : (setup : Setup) (s : State) (e : Event) → is_allowed setup e s ≡ true
    → ((k : ℕ) → HasRoom setup (thread_of s k)) → (k : ℕ) → HasRoom setup (thread_of (happens setup e s) k)
room_event setup s (Advances i) can h =
    let m = move_of setup s i can in
    let there : thread_of (advance setup i s) i ≡ m.0.thread =
    ap (λ (z : State). thread_of z i) (advance_move setup i s ∙ ap (λ (o : Option Moved). move i o s) m.1)
    ∙ thread_moved setup s i m.0 m.1 in
    each_thread (λ k t. HasRoom setup t) s (advance setup i s) i (λ k apart. thread_advance setup i k s apart)
    (subst (HasRoom setup) (sym there) (room_move setup i (thread_of s i) m.0 m.1)) h
room_event setup s (Attempts i) can h =
    each_thread (λ k t. HasRoom setup t) s (attempt setup i s) i (λ k apart. attempt_other setup i k s apart)
    (λ q. absurd (false≢true (sym (after_attempt setup s i can).inside ∙ q))) h

room_start : (setup : Setup) (threads objects : ℕ) (w : World) (k : ℕ)
    → HasRoom setup (thread_of (start threads objects w) k)
room_start setup threads objects w k =
    ⊎_elim
    (λ (e : thread_of (start threads objects w) k ≡ first_thread). subst (HasRoom setup) (sym e)
    (λ q. absurd (false≢true q)))
    (λ (e : thread_of (start threads objects w) k ≡ nobody). subst (HasRoom setup) (sym e) (λ q. absurd (false≢true q)))
    (start_thread threads objects w k)

room_run : (setup : Setup) (threads objects : ℕ) (w : World) (events : List Event) (k : ℕ)
    → HasRoom setup (thread_of (run setup events (start threads objects w)) k)
room_run setup threads objects w events =
    run_keeps setup (λ (z : State). (k : ℕ) → HasRoom setup (thread_of z k)) events (start threads objects w)
    (λ z e can h. room_event setup z e can h) (room_start setup threads objects w)

pub room_outside : RoomOutside
room_outside setup threads objects w s h i job is =
    subst (λ (z : State). (k : ℕ) → HasRoom setup (thread_of z k)) h.ends
    (room_run (supplied setup (own s)) threads objects w h.events) i (ap outside is)

-- ## What came for a thread are the outcomes of its rows

abbrev AllCame : State → Type 0
AllCame s = (i : ℕ) → (thread_of s i).came ≡ outcomes_of i s.rows

-- where an event brings no outcome
outcomes_quiet : (i k : ℕ) (e : Effect) (rs : List Row) → e.outcome ≡ None
    → outcomes_of k (map (row_after i e) rs) ≡ outcomes_of k rs
outcomes_quiet i k e rs none = of_same outcome_in k (row_after i e) rs (row_turn i e) (λ r mine. row_quiet r)
  where
    row_quiet : (r : Row) → (row_after i e r).outcome ≡ r.outcome
    row_quiet r =
        ⊎_elim
        (λ (is : is_open i r ≡ true). ap (λ (q : Row). q.outcome) (row_open i e r is)
        ∙ (ap (first_of r.outcome) none ∙ first_none r.outcome))
        (λ (off : is_open i r ≡ false). ap (λ (q : Row). q.outcome) (row_closed i e r off))
        (cases_Bool (is_open i r))

-- the open row of a thread that is outside has no outcome
none_yet : (calls : CallTable) (s : State) (i : ℕ) (job : Job) (w : World) (b : Carried) (r : Row) (rs : List Row)
    → (thread_of s i).phase ≡ Outside job → r.turn.thread ≡ i → Pending calls s w b r rs → r.outcome ≡ None
none_yet calls s i job w b r rs is mine p =
    let held : Holding calls (Outside job) p.job =
    subst (λ (q : Phase). Holding calls q p.job) is
    (subst (λ (k : ℕ). Holding calls (thread_of s k).phase p.job) mine p.holding) in
    sym p.outcome ∙ held.2

-- the outcome that comes for a thread that is outside is that of its last row
outcomes_record : (calls : CallTable) (s : State) (i : ℕ) (job : Job) (o : Given) (e : Effect) (w : World) (carried : ℕ
    → Carried) (busy : ℕ → Bool) (rs : List Row)
    → (thread_of s i).phase ≡ Outside job → e.outcome ≡ Some o → busy i ≡ false → Walk calls s w carried busy rs
    → outcomes_of i (map (row_after i e) rs) ≡ outcomes_of i rs ++ o ∷ []
outcomes_record calls s i job o e w carried busy rs is some free h =
    of_filled outcome_in calls s i e (Some o) w carried busy rs
    (λ u c b off walk. busy_found calls s i (ap busy_phase is) u c b off walk)
    (λ u b r us mine own p.
    let yet = none_yet calls s i job u b r us is mine p in
    (yet, ap (λ (q : Row). q.outcome) (row_open i e r own) ∙ ap₂ first_of yet some))
    free h

step_came : (calls : CallTable) (t : Thread) (x : Step) → (after_step calls t x).came ≡ t.came
step_came calls t (step.Work n) = refl
step_came calls t (step.Call c) = refl
step_came calls t step.End = refl

answered_came : (t : Thread) (c : Call) (n : ℕ) (a : TurnEnd) → (answered t c n a).came ≡ t.came
answered_came t c n (turn_end.Reply r) = refl
answered_came t c n (turn_end.Blocked b) = refl

-- what came for the thread of an event
came_mine : (setup : Setup) (w : World) (s : State) (i : ℕ) (m : Moved) → moves setup i (thread_of s i) ≡ Some m
    → Right setup.calls w s → (thread_of s i).came ≡ outcomes_of i s.rows
    → m.thread.came ≡ outcomes_of i (map (row_after i m.effect) s.rows)
came_mine setup w s i m e right came =
    let t = thread_of s i in
    at_moves setup i t (λ p n. t.phase ≡ p → n.thread.came ≡ outcomes_of i (map (row_after i n.effect) s.rows)) m
    (record {
      steps = λ x q phase. step_came setup.calls t x ∙ (came ∙ sym (outcomes_quiet i i _ s.rows refl));
      begins = λ job phase. came ∙ sym (outcomes_quiet i i _ s.rows refl);
      records = λ job o q f phase.
          ap (λ (l : List Given). l ++ dated job.turn o ∷ []) came
          ∙ sym (outcomes_record setup.calls s i job (dated job.turn o) (with_outcome t job o).effect w
          (λ k. setup.calls.nothing_carried) (λ k. false) s.rows phase refl refl right);
      grants = λ job phase. answered_came t job.call _ (setup.calls.answer job.found job.call job.outcome job.carried)
          ∙ (came ∙ sym (outcomes_quiet i i (answer setup.calls t job).effect s.rows refl));
      answers = λ job phase. answered_came t job.call _ (setup.calls.answer job.found job.call job.outcome job.carried)
          ∙ (came ∙ sym (outcomes_quiet i i (answer setup.calls t job).effect s.rows refl));
      agains = λ c b phase. came ∙ sym (outcomes_quiet i i _ s.rows refl);
    })
    e refl

came_move : (setup : Setup) (w : World) (s : State) (i : ℕ) (m : Moved) → moves setup i (thread_of s i) ≡ Some m
    → Right setup.calls w s → AllCame s → AllCame (move i (Some m) s)
came_move setup w s i m e right came k =
    let z = move i (Some m) s in
    ⊎_elim
    (λ (mine : i ≡ k).
    subst (λ (n : ℕ). (thread_of z n).came ≡ outcomes_of n z.rows) mine
    (ap (λ (t : Thread). t.came) (thread_moved setup s i m e) ∙ came_mine setup w s i m e right (came i)))
    (λ (apart : i ≡ k → ⊥). ap (λ (t : Thread). t.came) (thread_move i k (Some m) s apart)
    ∙ (came k ∙ sym (of_other outcome_in i k m.effect s.rows apart)))
    (cases_eq i k)

came_event : (setup : Setup) (w : World) (s : State) (e : Event) → is_allowed setup e s ≡ true → Right setup.calls w s
    → AllCame s → AllCame (happens setup e s)
came_event setup w s (Advances i) can right came k =
    let m = move_of setup s i can in
    subst AllCame (sym (advance_move setup i s ∙ ap (λ (o : Option Moved). move i o s) m.1))
    (came_move setup w s i m.0 m.1 right came) k
came_event setup w s (Attempts i) can right came k =
    let z = attempt setup i s in
    let rows : (n : ℕ) → outcomes_of n z.rows ≡ outcomes_of n s.rows = λ n. of_attempt outcome_in (λ turn c. refl) setup
    s i n can in
    ⊎_elim
    (λ (mine : i ≡ k). subst (λ (n : ℕ). (thread_of z n).came ≡ outcomes_of n z.rows) mine
    ((after_attempt setup s i can).came ∙ (came i ∙ sym (rows i))))
    (λ (apart : i ≡ k → ⊥). ap (λ (t : Thread). t.came) (attempt_other setup i k s apart) ∙ (came k ∙ sym (rows k)))
    (cases_eq i k)

came_start : (threads objects : ℕ) (w : World) → AllCame (start threads objects w)
came_start threads objects w k =
    ⊎_elim
    (λ (e : thread_of (start threads objects w) k ≡ first_thread). ap (λ (t : Thread). t.came) e)
    (λ (e : thread_of (start threads objects w) k ≡ nobody). ap (λ (t : Thread). t.came) e)
    (start_thread threads objects w k)

came_run : (setup : Setup) (threads objects : ℕ) (w : World) (events : List Event)
    → Right setup.calls w (run setup events (start threads objects w))
    × AllCame (run setup events (start threads objects w))
came_run setup threads objects w events =
    run_keeps setup (λ (z : State). Right setup.calls w z × AllCame z) events (start threads objects w)
    (λ z e can h. (right_event setup w z e can h.0, came_event setup w z e can h.0 h.1))
    (right_start setup.calls threads objects w, came_start threads objects w)

pub came_is_rows : CameIsRows
came_is_rows setup threads objects w s h =
    subst AllCame h.ends (came_run (supplied setup (own s)) threads objects w h.events).1

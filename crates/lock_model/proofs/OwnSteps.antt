-- What a thread asked last, by its phase.
use Rattle.std.proofs.Common.{◌≡◌, ℕ, ◌+◌, ◌-◌, ◌<◌, List, [], ◌∷◌, ◌++◌, length, Option, Some, true, false, sym, refl}
use Rattle.std.proofs.Common.{ap, ◌∙◌, subst, ⊎_elim, arith, set, slice_get}
use Rattle.std.proofs.lemmas.Bool.{cases_eq}
use Rattle.std.proofs.lemmas.List.{get_or-set_same, length-append}
use Rattle.std.proofs.lemmas.Option.{none-some}
use Rattle.lock_model.specs.CallTable.{CallTable, Plan, Way}
use Rattle.sequential_object.specs.declared.turn_end.TurnEnd.{TurnEnd}
use Rattle.sequential_object.specs.declared.turn_end.TurnEnd.TheVariants as turn_end
use Rattle.lock_model.specs.CallTable.Plan.{No_object, Object}
use Rattle.lock_model.specs.CallTable.Way.{Door, Inside, Keeps_table}
use Rattle.lock_model.specs.Held.{HasAsked, HaveAsked, call_in, call_of, is_end, last_call, last_step}
use Rattle.lock_model.specs.Machine.{Event, Moved, Setup, after_step, again, answered, attempt, can_attempt, granted}
use Rattle.lock_model.specs.Machine.{happens, is_allowed, move, moves, new_job, planned, reached, with_outcome}
use Rattle.lock_model.specs.Machine.Event.{Advances, Attempts}
use Rattle.lock_model.specs.Runs.{Arises, own, supplied}
use Rattle.lock_model.specs.State.{Phase, State, Thread, live_clock_in, nobody, start, thread_of}
use Rattle.lock_model.specs.State.Phase.{Outside, WantsObject}
use Rattle.sequential_object.specs.Worlds.{World}
use Rattle.sequential_object.specs.Step.{Carried}
use Rattle.posix_terms.specs.Calls.{Call}
use Rattle.posix_terms.specs.declared.transcript.Turn.{Turn}
use Rattle.posix_terms.specs.declared.step.Step.{Step}
use Rattle.posix_terms.specs.declared.step.Step.TheVariants as step
use Rattle.lock_model.proofs.Arising.{slice_get-push}
use Rattle.lock_model.proofs.Attempt.{attempt_other, move_of}
use Rattle.lock_model.proofs.Commute.{advance_move, thread_move}
use Rattle.lock_model.proofs.Growth.{at_attempt, at_moves, wanting_within}
use Rattle.lock_model.proofs.Kept.{first_thread, run_keeps, start_thread}
use Rattle.lock_model.proofs.Turn.{thread_moved}

last_pushed : (xs : List Step) (x : Step) → last_step (xs ++ x ∷ []) ≡ Some x
last_pushed xs x = ap (slice_get (xs ++ x ∷ [])) (ap (λ (n : ℕ). n - 1) (length-append xs (x ∷ [])) ∙ back (length xs))
    ∙ slice_get-push xs x
  where
    back : (n : ℕ) → n + 1 - 1 ≡ n
    back n = omega arith

no_end : (o : Option Step) (c : Call) → call_of o ≡ Some c → is_end o ≡ false
no_end (Some step.End) c h = absurd (none-some c h)
no_end o c h = refl

-- a thread goes on with its call
in_call : (t u : Thread) (c : Call) → u.asked ≡ t.asked → call_in t.phase ≡ Some c → call_in u.phase ≡ Some c
    → HasAsked t → HasAsked u
in_call t u c asked before now h =
    record {
      call = λ d e. ap last_call asked ∙ (h.call c before ∙ (sym now ∙ e));
      works = λ e. absurd (none-some c (ap call_in (sym e) ∙ now));
    }

-- ## Events that need no turn

step_asked : (calls : CallTable) (t : Thread) (x : Step) → HasAsked (after_step calls t x)
step_asked calls t (step.Work n) =
    record { call = λ d e. absurd (none-some d e); works = λ e. ap is_end (last_pushed t.asked (step.Work n)) }
step_asked calls t (step.Call c) = record {
  call = λ d e. ap call_of (last_pushed t.asked (step.Call c))
      ∙ e;
  works = λ e. absurd (none-some c (ap call_in (sym e)));
}
step_asked calls t step.End = record {
  call = λ d e. absurd (none-some d e);
  works = λ e. absurd (none-some 0 (ap (λ (p : Phase). live_clock_in p 0) e));
}

answered_asked : (t : Thread) (c : Call) (n : ℕ) (a : TurnEnd) → call_in t.phase ≡ Some c → HasAsked t
    → HasAsked (answered t c n a)
answered_asked t c n (turn_end.Reply r) at h =
    record { call = λ d e. absurd (none-some d e); works = λ e. no_end (last_step t.asked) c (h.call c at) }
answered_asked t c n (turn_end.Blocked b) at h = in_call t (answered t c n (turn_end.Blocked b)) c refl at refl h

moved_asked : (setup : Setup) (i : ℕ) (t : Thread) (m : Moved) → moves setup i t ≡ Some m → HasAsked t
    → HasAsked m.thread
moved_asked setup i t m e h =
    at_moves setup i t (λ p n. t.phase ≡ p → HasAsked n.thread) m
    (record {
      steps = λ x q at. step_asked setup.calls t x;
      begins = λ job at. in_call t (record t { phase = Outside job; clock = t.clock + setup.limits.door_cost }) job.call
          refl (ap call_in at) refl h;
      records = λ job o q f at. in_call t (with_outcome t job o).thread job.call refl (ap call_in at) refl h;
      grants = λ job at. answered_asked t job.call _ (setup.calls.answer job.found job.call job.outcome job.carried)
          (ap call_in at) h;
      answers = λ job at. answered_asked t job.call _ (setup.calls.answer job.found job.call job.outcome job.carried)
          (ap call_in at) h;
      agains = λ c b at. in_call t (again t c b).thread c refl (ap call_in at) refl h;
    }) e refl

-- ## Attempts

-- the thread in its place
placed : (s : State) (i : ℕ) (c : Call) (u : Thread) → i < length s.threads → u.asked ≡ (thread_of s i).asked
    → call_in (thread_of s i).phase ≡ Some c → call_in u.phase ≡ Some c → HasAsked (thread_of s i)
    → HasAsked (thread_of (record s { threads = set s.threads i u }) i)
placed s i c u l asked before now h = subst HasAsked (sym (get_or-set_same s.threads i u nobody l))
    (in_call (thread_of s i) u c asked before now h)

planned_asked : (calls : CallTable) (s : State) (i : ℕ) (c : Call) (b : Carried) (turn : Turn) (plan : Plan) (w : World)
    → i < length s.threads → call_in (thread_of s i).phase ≡ Some c → HasAsked (thread_of s i)
    → HasAsked (thread_of (planned calls s i (thread_of s i) c b turn plan w) i)
planned_asked calls s i c b turn No_object w l at h = let t = thread_of s i in
    placed s i c (granted t (t.clock + 1) (new_job c b turn No_object w) false) l refl at refl h
planned_asked calls s i c b turn (Object n way) w l at h = let t = thread_of s i in
    placed s i c (record t { phase = WantsObject c b turn.clock n way; clock = t.clock + 1 }) l refl at refl h

reached_asked : (calls : CallTable) (s : State) (i : ℕ) (c : Call) (b : Carried) (turn : Turn) (n : ℕ) (way : Way)
    (w : World) → i < length s.threads → call_in (thread_of s i).phase ≡ Some c → HasAsked (thread_of s i)
    → HasAsked (thread_of (reached calls s i (thread_of s i) c b turn n way w) i)
reached_asked calls s i c b turn n Inside w l at h = let t = thread_of s i in
    placed s i c (granted t (t.clock + 2) (new_job c b turn (Object n Inside) w) false) l refl at refl h
reached_asked calls s i c b turn n Door w l at h = let t = thread_of s i in
    placed s i c (granted t (t.clock + 2) (new_job c b turn (Object n Door) w) true) l refl at refl h
reached_asked calls s i c b turn n Keeps_table w l at h = let t = thread_of s i in
    placed s i c (granted t (t.clock + 1) (new_job c b turn (Object n Keeps_table) w) true) l refl at refl h

attempt_asked : (setup : Setup) (s : State) (i : ℕ) → can_attempt setup s i ≡ true → HasAsked (thread_of s i)
    → HasAsked (thread_of (attempt setup i s) i)
attempt_asked setup s i can h =
    let t = thread_of s i in
    let l = wanting_within setup s i can in
    at_attempt setup s i (λ p z. t.phase ≡ p → HasAsked (thread_of z i)) can
    (record {
      fails = λ p q at. subst HasAsked (sym (get_or-set_same s.threads i (record t { clock = t.clock + 1 }) nobody l))
          (record { call = h.call; works = h.works });
      plans = λ c b q at. planned_asked setup.calls s i c b (record { clock = t.clock; thread = i })
          (setup.calls.plan s.world c b) s.world l (ap call_in at) h;
      reaches = λ c b clock n way q k at. reached_asked setup.calls s i c b (record { clock = clock; thread = i }) n way
          s.world l (ap call_in at) h;
    }) refl

-- ## All events

-- what one thread keeps, and the others, which stay
asked_by : (s z : State) (i : ℕ) → HasAsked (thread_of z i) → ((k : ℕ) → (i ≡ k → ⊥) → thread_of z k ≡ thread_of s k)
    → HaveAsked s → HaveAsked z
asked_by s z i mine others h k =
    ⊎_elim
    (λ (same : i ≡ k). subst (λ (n : ℕ). HasAsked (thread_of z n)) same mine)
    (λ (apart : i ≡ k → ⊥). subst HasAsked (sym (others k apart)) (h k))
    (cases_eq i k)

asked_event : (setup : Setup) (s : State) (e : Event) → is_allowed setup e s ≡ true → HaveAsked s
    → HaveAsked (happens setup e s)
asked_event setup s (Advances i) can h =
    let m = move_of setup s i can in
    let mine = subst HasAsked (sym (thread_moved setup s i m.0 m.1)) (moved_asked setup i (thread_of s i) m.0 m.1 (h i))
    in
    subst HaveAsked (sym (advance_move setup i s ∙ ap (λ (v : Option Moved). move i v s) m.1))
    (asked_by s (move i (Some m.0) s) i mine (λ k apart. thread_move i k (Some m.0) s apart) h)
asked_event setup s (Attempts i) can h = asked_by s (attempt setup i s) i (attempt_asked setup s i can (h i))
    (λ k apart. attempt_other setup i k s apart) h

asked_start : (threads objects : ℕ) (w : World) → HaveAsked (start threads objects w)
asked_start threads objects w k =
    ⊎_elim
    (λ (e : thread_of (start threads objects w) k ≡ first_thread). subst HasAsked (sym e)
    (record { call = λ d q. absurd (none-some d q); works = λ q. refl }))
    (λ (e : thread_of (start threads objects w) k ≡ nobody). subst HasAsked (sym e)
    (record { call = λ d q. absurd (none-some d q); works = λ q. refl }))
    (start_thread threads objects w k)

pub steps_arisen : (setup : Setup) (threads objects : ℕ) (w : World) (s : State)
    → Arises setup (start threads objects w) s → HaveAsked s
steps_arisen setup threads objects w s h =
    let given = supplied setup (own s) in
    subst HaveAsked h.ends (run_keeps given HaveAsked h.events (start threads objects w)
    (λ z e can g. asked_event given z e can g) (asked_start threads objects w))

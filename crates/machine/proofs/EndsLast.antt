-- The last step that a thread asked is its end exactly when it has ended.
use Rattle.posix_terms.specs.Outcomes.{dated}
use Rattle.std.proofs.Common.{◌≡◌, ℕ, zero, suc, ◌-◌, ◌<◌, List, [], ◌∷◌, ◌++◌, length, get_or, replicate, slice_get}
use Rattle.std.proofs.Common.{Option, Some, None, Bool, true, false, sym, refl, ap, ◌∙◌, subst, ⊎_elim, arith}
use Rattle.std.proofs.lemmas.Bool.{cases_eq, false≢true}
use Rattle.std.proofs.lemmas.Option.{none-some}
use Rattle.lock_machine.specs.Conditions.{setup_under}
use Rattle.lock_machine.specs.Refusals.{phase_at}
use Rattle.lock_machine.specs.Shows.{PhaseShows}
use Rattle.lock_machine.specs.Threads.{Thread}
use Rattle.lock_machine.specs.Whole.{Whole, thread_at}
use Rattle.lock_machine.specs.declared.thread.Phase.{Phase}
use Rattle.lock_machine.specs.declared.thread.Phase.TheVariants as phase
use Rattle.sequential_object.specs.declared.turn_end.TurnEnd.{TurnEnd}
use Rattle.sequential_object.specs.declared.turn_end.TurnEnd.TheVariants as turn_end
use Rattle.lock_model.specs.Events.{EventLaws, IsIn, IsMoved, thread_in}
use Rattle.lock_model.specs.Events.IsMoved.{AnswersGranted, AnswersRecorded, AsksStep, GetsOutcome, GoesOut, MakesAgain}
use Rattle.lock_model.specs.Held.{HasAsked, call_in, call_of, has_end, is_end, last_step}
use Rattle.lock_model.specs.Laws.{StepsOfArisen}
use Rattle.lock_model.specs.Machine.{Event, Setup, after_step, answered, can_advance, can_attempt, happens}
use Rattle.lock_model.specs.Machine.Event.{Advances, Attempts}
use Rattle.sequential_object.specs.Numbers.{first_world}
use Rattle.lock_model.specs.Runs.{Arises, own, run, supplied}
use Rattle.lock_model.specs.State as lock
use Rattle.lock_model.specs.State.{State, nobody, start, thread_of}
use Rattle.lock_model.specs.State.Phase.{Blocked, Ended, Granted, Outside, Recorded, ToOutside, WantsObject, WantsTable}
use Rattle.lock_model.specs.State.Phase.{Working}
use Rattle.sequential_object.specs.Worlds.{World}
use Rattle.posix_terms.specs.Calls.{Call}
use Rattle.posix_terms.specs.declared.limits.TheConstants.Limits as limit
use Rattle.posix_terms.specs.declared.step.Step.{Step}
use Rattle.posix_terms.specs.declared.step.Step.TheVariants as step
use Rattle.machine.specs.Finishing.{is_ended}
use Rattle.machine.specs.Kept.{IsKept}
use Rattle.machine.specs.Runs.{terms_with}
use Rattle.machine.specs.Shown.{Shown}

-- ## A thread that has ended

abbrev is_over : lock.Phase → Bool
is_over Ended = true
is_over p = false

-- its last step is the end
abbrev EndedLast : State → ℕ → Type 0
EndedLast s i = i < length s.threads → (thread_of s i).phase ≡ Ended → has_end (thread_of s i).asked ≡ true

last_is : (xs : List Step) (x : Step) → last_step (xs ++ x ∷ []) ≡ Some x
last_is xs x = ap (slice_get (xs ++ x ∷ [])) (one_less xs x) ∙ at_end xs x
  where
    at_end : (xs : List Step) (x : Step) → slice_get (xs ++ x ∷ []) (length xs) ≡ Some x
    at_end [] x = refl
    at_end (y ∷ ys) x = at_end ys x

    one_more : (xs : List Step) (x : Step) → length (xs ++ x ∷ []) ≡ suc (length xs)
    one_more [] x = refl
    one_more (y ∷ ys) x = ap suc (one_more ys x)

    one_less : (xs : List Step) (x : Step) → length (xs ++ x ∷ []) - 1 ≡ length xs
    one_less xs x = let more = one_more xs x in omega arith

not_over : {A : Type 0} (p : lock.Phase) → is_over p ≡ false → p ≡ Ended → A
not_over p live ended = absurd (false≢true (sym live ∙ ap is_over ended))

answered_live : (t : lock.Thread) (c : Call) (clock : ℕ) (a : TurnEnd) → is_over (answered t c clock a).phase ≡ false
answered_live t c clock (turn_end.Reply r) = refl
answered_live t c clock (turn_end.Blocked b) = refl

step_last : (setup : Setup) (t u : lock.Thread) (x : Step) → u ≡ after_step setup.calls t x → u.phase ≡ Ended
    → has_end u.asked ≡ true
step_last setup t u (step.Work n) is ended = not_over Working refl (ap (λ (v : lock.Thread). v.phase) (sym is) ∙ ended)
step_last setup t u (step.Call c) is ended = not_over (WantsTable c setup.calls.nothing_carried) refl
    (ap (λ (v : lock.Thread). v.phase) (sym is) ∙ ended)
step_last setup t u step.End is ended = ap (λ (v : lock.Thread). has_end v.asked) is
    ∙ ap is_end (last_is t.asked step.End)

moved_last : (setup : Setup) (i : ℕ) (t u : lock.Thread) → IsMoved setup i t u → u.phase ≡ Ended
    → has_end u.asked ≡ true
moved_last setup i t u (AsksStep x there next is) ended = step_last setup t u x is ended
moved_last setup i t u (GoesOut job there is) ended =
    not_over (Outside job) refl (ap (λ (v : lock.Thread). v.phase) (sym is) ∙ ended)
moved_last setup i t u (GetsOutcome job o there next fits is) ended =
    not_over (Recorded (record job { outcome = Some (dated job.turn o) })) refl
    (ap (λ (v : lock.Thread). v.phase) (sym is) ∙ ended)
moved_last setup i t u (AnswersGranted job there is) ended =
    not_over u.phase (ap (λ (v : lock.Thread). is_over v.phase) is ∙ answered_live t job.call _ _) ended
moved_last setup i t u (AnswersRecorded job there is) ended =
    not_over u.phase (ap (λ (v : lock.Thread). is_over v.phase) is ∙ answered_live t job.call _ _) ended
moved_last setup i t u (MakesAgain c b there is) ended =
    not_over (WantsTable c b) refl (ap (λ (v : lock.Thread). v.phase) (sym is) ∙ ended)

in_call : {A : Type 0} (p : lock.Phase) → IsIn p ≡ true → p ≡ Ended → A
in_call p there ended = absurd (false≢true (ap IsIn (sym ended) ∙ there))

stays_last : (s z : State) (i : ℕ) → z ≡ s → EndedLast s i → EndedLast z i
stays_last s z i same h = subst (λ (x : State). EndedLast x i) (sym same) h

-- by the event of its own
own_last : EventLaws → (setup : Setup) (s : State) (e : Event) → EndedLast s (thread_in e)
    → EndedLast (happens setup e s) (thread_in e)
own_last laws setup s (Advances i) h = by_test (can_advance setup s i) refl
  where
    by_test : (b : Bool) → can_advance setup s i ≡ b → EndedLast (happens setup (Advances i) s) i
    by_test true can inside ended = moved_last setup i (thread_of s i) (thread_of (happens setup (Advances i) s) i)
        (laws.moved setup s i can) ended
    by_test false can inside ended =
        stays_last s (happens setup (Advances i) s) i (laws.not_allowed setup (Advances i) s can) h inside ended
own_last laws setup s (Attempts i) h = by_test (can_attempt setup s i) refl
  where
    by_test : (b : Bool) → can_attempt setup s i ≡ b → EndedLast (happens setup (Attempts i) s) i
    by_test true can inside ended = in_call (thread_of (happens setup (Attempts i) s) i).phase
        (laws.tried setup s i can).after ended
    by_test false can inside ended =
        stays_last s (happens setup (Attempts i) s) i (laws.not_allowed setup (Attempts i) s can) h inside ended

event_last : EventLaws → (setup : Setup) (s : State) (e : Event) (i : ℕ) → EndedLast s i
    → EndedLast (happens setup e s) i
event_last laws setup s e i h = ⊎_elim same apart (cases_eq (thread_in e) i)
  where
    same : thread_in e ≡ i → EndedLast (happens setup e s) i
    same is = subst (EndedLast (happens setup e s)) is (own_last laws setup s e (subst (EndedLast s) (sym is) h))

    apart : (thread_in e ≡ i → ⊥) → EndedLast (happens setup e s) i
    apart other inside ended =
        let stays = laws.others setup s e i other in
        let there : i < length s.threads = subst (λ (n : ℕ). i < n) (laws.count setup s e) inside in
        ap (λ (t : lock.Thread). has_end t.asked) stays
        ∙ h there (ap (λ (t : lock.Thread). t.phase) (sym stays) ∙ ended)

run_last : EventLaws → (setup : Setup) (events : List Event) (s : State) (i : ℕ) → EndedLast s i
    → EndedLast (run setup events s) i
run_last laws setup [] s i h = h
run_last laws setup (e ∷ es) s i h = run_last laws setup es (happens setup e s) i (event_last laws setup s e i h)

abbrev first : lock.Thread
first = record { phase = Working; clock = 1; asked = []; replies = []; came = [] }

start_last : (threads objects : ℕ) (w : World) (i : ℕ) → EndedLast (start threads objects w) i
start_last threads objects w i inside ended =
    not_over Working refl (ap (λ (t : lock.Thread). t.phase) (sym (get_first threads i inside)) ∙ ended)
  where
    get_first : (n i : ℕ) → i < length (replicate n first) → get_or (replicate n first) i nobody ≡ first
    get_first zero i l = absurd (omega arith)
    get_first (suc n) zero l = refl
    get_first (suc n) (suc i) l = get_first n i (omega arith)

arisen_last : EventLaws → (setup : Setup) (threads objects : ℕ) (w : World) (s : State)
    → Arises setup (start threads objects w) s → (i : ℕ) → EndedLast s i
arisen_last laws setup threads objects w s h i =
    subst (λ (z : State). EndedLast z i) h.ends
    (run_last laws (supplied setup (own s)) h.events (start threads objects w) i (start_last threads objects w i))

-- ## What a machine shows

unended : (o : Option Step) (c : Call) → call_of o ≡ Some c → is_end o ≡ false
unended (Some (step.Call d)) c h = refl
unended (Some (step.Work n)) c h = refl
unended (Some step.End) c h = absurd (none-some c h)
unended None c h = refl

asked_by : (u : lock.Thread) (p : lock.Phase) → u.phase ≡ p → HasAsked u → (u.phase ≡ Ended → has_end u.asked ≡ true)
    → has_end u.asked ≡ is_over p
asked_by u Working is h ended = h.works is
asked_by u (WantsTable c b) is h ended = unended (last_step u.asked) c (h.call c (ap call_in is))
asked_by u (WantsObject c b clock n way) is h ended = unended (last_step u.asked) c (h.call c (ap call_in is))
asked_by u (Granted job) is h ended = unended (last_step u.asked) job.call (h.call job.call (ap call_in is))
asked_by u (ToOutside job) is h ended = unended (last_step u.asked) job.call (h.call job.call (ap call_in is))
asked_by u (Outside job) is h ended = unended (last_step u.asked) job.call (h.call job.call (ap call_in is))
asked_by u (Recorded job) is h ended = unended (last_step u.asked) job.call (h.call job.call (ap call_in is))
asked_by u (Blocked c b) is h ended = unended (last_step u.asked) c (h.call c (ap call_in is))
asked_by u Ended is h ended = ended is

over_shown : (w : Whole) (s : State) (i : ℕ) (t : Thread) (u : lock.Thread) (p : Phase)
    → PhaseShows (terms_with w (own s)) i s.rows t u p → is_over u.phase ≡ is_ended p
over_shown w s i t u phase.Working h = ap is_over h
over_shown w s i t u (phase.WantsTable call carried) h = ap is_over h
over_shown w s i t u (phase.WantsObject call carried clock object) h = ap is_over h.1.0
over_shown w s i t u (phase.Granted place object ends) h = ap is_over h.1.0
over_shown w s i t u (phase.ToOutside o) h = ap is_over h.1.0
over_shown w s i t u (phase.Outside o) h = ap is_over h.1.0
over_shown w s i t u (phase.Recorded o) h = ap is_over h.1.0
over_shown w s i t u (phase.Blocked carried) h = ap is_over h.1
over_shown w s i t u phase.Ended h = ap is_over h

pub ends_last : (D : Type 0) (m : Shown D) → IsKept D m → StepsOfArisen → EventLaws → (i : ℕ)
    → i < length m.whole.threads → has_end (let t : Thread = thread_at m.whole i in t.asked)
    ≡ is_ended (phase_at m.whole i)
ends_last D m h steps laws i inside =
    let w = m.whole in
    let s = h.end in
    let u = thread_of s i in
    let setup = setup_under (terms_with w (own s)) in
    let there : i < length s.threads = subst (λ (n : ℕ). i < n) (sym h.ends.1.count) inside in
    let asked = steps setup (length w.threads) limit.OBJECTS first_world s h.ends.0 i in
    let ended = arisen_last laws setup (length w.threads) limit.OBJECTS first_world s h.ends.0 i there in
    ap has_end (sym (h.ends.1.threads i).asked) ∙ asked_by u u.phase refl asked ended
    ∙ over_shown w s i (thread_at w i) u (phase_at w i) (h.ends.1.threads i).phase

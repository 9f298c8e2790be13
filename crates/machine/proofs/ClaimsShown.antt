-- The claims of a machine, by the state that it shows: who has the locks of them, and what an event makes of them.
use Rattle.std.proofs.Common.{◌≡◌, ℕ, ◌<◌, ◌==◌, ◌||◌, not, List, length, map, option_map}
use Rattle.std.proofs.Common.{slice_get, Option, Some, None, Bool, true, false, is_some, sym, refl, ap}
use Rattle.std.proofs.Common.{◌∙◌, subst, arith}
use Rattle.std.proofs.lemmas.Bool.{false≢true}
use Rattle.std.proofs.lemmas.Bool.Decides.{nat_tests}
use Rattle.std.proofs.lemmas.Option.{none-some, same_Some, slice_get-map}
use Rattle.call_turns.specs.Errands.{door_taken}
use Rattle.lock_machine.specs.Conditions.{Conditions, setup_under}
use Rattle.lock_machine.specs.Refusals.{phase_at}
use Rattle.lock_machine.specs.Shows.{IsOut, PhaseShows}
use Rattle.lock_machine.specs.Threads.{Thread}
use Rattle.lock_machine.specs.Whole.{Whole, settings_in, thread_at}
use Rattle.lock_machine.specs.declared.thread.Outing.{Outing}
use Rattle.lock_machine.specs.declared.thread.Phase.{Phase}
use Rattle.lock_machine.specs.declared.thread.Phase.TheVariants as phase
use Rattle.lock_model.specs.CallTable.{Plan, Way, has_object, keeps_table as plan_keeps}
use Rattle.lock_model.specs.CallTable.Plan.{Object}
use Rattle.lock_model.specs.Events.{IsMoved, thread_in}
use Rattle.lock_model.specs.Events.IsMoved.{AnswersGranted, AnswersRecorded, AsksStep, GetsOutcome, GoesOut, MakesAgain}
use Rattle.lock_model.specs.Held.{AreHeld, HavePlans, holds_table, job_in, object_held, object_held_by, object_in}
use Rattle.lock_model.specs.Held.{row_of}
use Rattle.lock_model.specs.Machine.{Event, Setup, advance, after_step, answered}
use Rattle.lock_model.specs.Machine.{happens, is_number}
use Rattle.lock_model.specs.Machine.Event.{Advances}
use Rattle.lock_model.specs.RealCalls.{plan_of, real_calls, way_of}
use Rattle.lock_model.specs.Rows.{shown}
use Rattle.lock_model.specs.Runs.{own}
use Rattle.lock_model.specs.State as lock
use Rattle.lock_model.specs.State.{Job, Row, State, object_of, thread_of}
use Rattle.lock_model.specs.State.Phase.{Blocked, Ended, Granted, Outside, Recorded, ToOutside, WantsObject, WantsTable}
use Rattle.lock_model.specs.State.Phase.{Working}
use Rattle.posix_terms.specs.Calls.{Call}
use Rattle.posix_terms.specs.Queries.{Query}
use Rattle.posix_terms.specs.declared.limits.TheConstants.Limits as limit
use Rattle.posix_terms.specs.declared.outcome.Given.{Given}
use Rattle.posix_terms.specs.declared.step.Step.{Step}
use Rattle.posix_terms.specs.declared.step.Step.TheVariants as steps
use Rattle.posix_terms.specs.declared.transcript.HistoryRow.{HistoryRow}
use Rattle.sequential_object.specs.Answers.{numbered, outcome_in}
use Rattle.sequential_object.specs.Locked.{keeps_table, locked_object}
use Rattle.sequential_object.specs.Numbers.{first_world}
use Rattle.sequential_object.specs.Step.{asks}
use Rattle.sequential_object.specs.declared.turn_end.TurnEnd.{TurnEnd}
use Rattle.sequential_object.specs.declared.turn_end.TurnEnd.TheVariants as turn_end
use Rattle.machine.specs.DoorLaws.{DoorLaws}
use Rattle.call_turns.specs.Doors.{brings_back, takes_along}
use Rattle.machine.specs.DoorsThere.{Claim, Stage, claim_by, claim_in, claims_in, is_success, outcome_of}
use Rattle.machine.specs.DoorsThere.Stage.{Back, Going, Out}
use Rattle.machine.specs.Runs.{Coming, IsEnd, setup_with, terms_with}
use Rattle.machine.proofs.Claims.{AreLocked, OthersStay}
use Rattle.machine.proofs.Ending.{Leads}

-- ## The claims of a state

abbrev comes_back : Option Query → Bool
comes_back (Some r) = brings_back r.kind
comes_back None = false

abbrev goes_along : Option Query → Bool
goes_along (Some r) = takes_along r.kind
goes_along None = false

-- of a granted call
abbrev claim_of_call : Stage → Job → Claim
claim_of_call stage job =
    record {
      stage = stage;
      takes = numbered job.found (door_taken job.found.object job.call job.carried);
      locks = object_in job.plan;
      keeps = keeps_table job.call;
      returns = comes_back (asks job.found.object job.call job.carried);
      along = goes_along (asks job.found.object job.call job.carried);
    }

-- of a thread in this phase
abbrev pub claim_of : lock.Phase → Option Claim
claim_of (ToOutside job) = Some (claim_of_call Going job)
claim_of (Outside job) = Some (claim_of_call Out job)
claim_of (Recorded job) = Some (claim_of_call (Back (is_success (outcome_in job.outcome))) job)
claim_of p = None

pub call_claim : (terms : Conditions) (i : ℕ) (rows : List Row) (o : Outing) (job : Job) (stage : Stage)
    → IsOut terms i rows o job → claim_by stage o ≡ claim_of_call stage job
call_claim terms i rows o job stage h =
    let locks : o.object ≡ object_in job.plan = h.object_is ∙ sym (ap object_in h.plan) in
    let returns : brings_back o.errand.kind ≡ comes_back (asks job.found.object job.call job.carried) =
    ap comes_back (sym h.asks_is) in
    let along : takes_along o.errand.kind ≡ goes_along (asks job.found.object job.call job.carried) =
    ap goes_along (sym h.asks_is) in
    λ k. record {
      stage = stage;
      takes = h.door k;
      locks = locks k;
      keeps = h.keeps k;
      returns = returns k;
      along = along k;
    }

-- the row of a call, as the machine has it
pub row_shown : (terms : Conditions) (i : ℕ) (rows : List Row) (o : Outing) (job : Job) → IsOut terms i rows o job
    → slice_get (map shown rows) o.row ≡ Some (shown (row_of job))
row_shown terms i rows o job h = slice_get-map shown rows o.row ∙ ap (option_map shown) h.row

phase_claim : (terms : Conditions) (i : ℕ) (rows : List Row) (t : Thread) (u : lock.Thread) (p : Phase)
    → PhaseShows terms i rows t u p → claim_in (map shown rows) p ≡ claim_of u.phase
phase_claim terms i rows t u phase.Working h = ap claim_of (sym h)
phase_claim terms i rows t u (phase.WantsTable call carried) h = ap claim_of (sym h)
phase_claim terms i rows t u (phase.WantsObject call carried clock object) h = ap claim_of (sym h.1.0)
phase_claim terms i rows t u (phase.Granted place object ends) h = ap claim_of (sym h.1.0)
phase_claim terms i rows t u (phase.ToOutside o) h = ap Some (call_claim terms i rows o h.0 Going h.1.1)
    ∙ ap claim_of (sym h.1.0)
phase_claim terms i rows t u (phase.Outside o) h = ap Some (call_claim terms i rows o h.0 Out h.1.1)
    ∙ ap claim_of (sym h.1.0)
phase_claim terms i rows t u (phase.Recorded o) h =
    ap (λ (q : Option HistoryRow). Some (claim_by (Back (is_success (outcome_of q))) o))
    (row_shown terms i rows o h.0 h.1.1)
    ∙ ap Some (call_claim terms i rows o h.0 (Back (is_success (outcome_in (let job = h.0 in job.outcome)))) h.1.1)
    ∙ ap claim_of (sym h.1.0)
phase_claim terms i rows t u (phase.Blocked carried) h = ap claim_of (sym h.1)
phase_claim terms i rows t u phase.Ended h = ap claim_of (sym h)

-- those that the machine has
pub claims_shown : (w : Whole) (s : State) (i : ℕ) → IsEnd w s → claims_in w i ≡ claim_of (thread_of s i).phase
claims_shown w s i h =
    ap (λ (rows : List HistoryRow). claim_in rows (phase_at w i)) (sym h.1.rows)
    ∙ phase_claim (terms_with w (own s)) i s.rows (thread_at w i) (thread_of s i) (phase_at w i) (h.1.threads i).phase

-- ## Locks

-- what holds of a claim by the phase of its thread
record HasClaim (p : lock.Phase) (c : Claim) : Type 0 where
  within : (n : ℕ) → c.locks ≡ Some n → n < limit.OBJECTS
  held : object_held p ≡ c.locks
  table : c.keeps ≡ true → holds_table p ≡ true
  frees : c.keeps ≡ false → c.takes ≡ c.locks

pub plan_number : (way : Way) (o : Option ℕ) → object_in (plan_of way o) ≡ o
plan_number way None = refl
plan_number way (Some n) = refl

one_holder : (o : Option ℕ) (i j : ℕ) → is_number o i ≡ true → is_number o j ≡ true → i ≡ j
one_holder None i j a b = absurd (false≢true a)
one_holder (Some k) i j a b = grind (arith, nat_tests, a, b)

pub same_number : (n : ℕ) → (n == n) ≡ true
same_number n = grind (arith, nat_tests)

module _ (w : Whole) (s : State) (laws : DoorLaws) (ends : IsEnd w s) where
  pub held : AreHeld s
  held = laws.locks (setup_under (terms_with w (own s))) (length w.threads) limit.OBJECTS first_world s ends.0

  pub plans : HavePlans (real_calls (settings_in w)) s
  plans = laws.plans (setup_under (terms_with w (own s))) (length w.threads) limit.OBJECTS first_world s ends.0

  -- the object that a call locks, by the world that it found
  pub planned_lock : (i : ℕ) (job : Job) → job_in (thread_of s i).phase ≡ Some job
      → object_in job.plan ≡ numbered job.found (locked_object job.found.object job.call job.carried)
  planned_lock i job is = ap object_in (plans.found i job is)
      ∙ plan_number (way_of (is_some (asks job.found.object job.call job.carried)) (keeps_table job.call))
      (numbered job.found (locked_object job.found.object job.call job.carried))

  call_has : (i : ℕ) (o : Outing) (job : Job) (stage : Stage) → IsOut (terms_with w (own s)) i s.rows o job
      → job_in (thread_of s i).phase ≡ Some job
      → holds_table (thread_of s i).phase ≡ not (has_object job.plan) || plan_keeps job.plan
      → HasClaim (thread_of s i).phase (claim_by stage o)
  call_has i o job stage h is holds =
      record {
        within = λ n locks. subst (λ (m : ℕ). m < limit.OBJECTS) (same_Some h.object n (sym h.object_is ∙ locks))
            h.in_range;
        held = ap object_held_by is ∙ ap object_in h.plan ∙ sym h.object_is;
        table = λ keeps. holds ∙ ap (λ (p : Plan). not (has_object p) || plan_keeps p)
            (h.plan ∙ ap (λ (b : Bool). Object h.object (way_of true b)) keeps);
        frees = λ frees. h.door
            ∙ ap (numbered job.found) (laws.takes job.found.object job.call job.carried (sym h.keeps ∙ frees))
            ∙ sym (planned_lock i job is) ∙ ap object_in h.plan ∙ sym h.object_is;
      }

  has_claim : (i : ℕ) (c : Claim) → claims_in w i ≡ Some c → HasClaim (thread_of s i).phase c
  has_claim i c = by_phase (phase_at w i) (ends.1.threads i).phase
    where
      u : lock.Thread
      u = thread_of s i

      by_phase : (p : Phase) → PhaseShows (terms_with w (own s)) i s.rows (thread_at w i) u p
          → claim_in w.rows p ≡ Some c → HasClaim u.phase c
      by_phase (phase.ToOutside o) h is = subst (HasClaim u.phase) (same_Some (claim_by Going o) c is)
          (call_has i o h.0 Going h.1.1 (ap job_in h.1.0) (ap holds_table h.1.0))
      by_phase (phase.Outside o) h is = subst (HasClaim u.phase) (same_Some (claim_by Out o) c is)
          (call_has i o h.0 Out h.1.1 (ap job_in h.1.0) (ap holds_table h.1.0))
      by_phase (phase.Recorded o) h is =
          let stage = Back (is_success (outcome_of (slice_get w.rows o.row))) in
          subst (HasClaim u.phase) (same_Some (claim_by stage o) c is)
          (call_has i o h.0 stage h.1.1 (ap job_in h.1.0) (ap holds_table h.1.0))
      by_phase p h is = absurd (none-some c is)

  pub locks_within : (i n : ℕ) (c : Claim) → claims_in w i ≡ Some c → c.locks ≡ Some n → n < limit.OBJECTS
  locks_within i n c has its = let x = has_claim i c has in x.within n its

  -- who holds the table is the one whose claim keeps it
  pub keeps_alone : (i k : ℕ) (c : Claim) → holds_table (thread_of s i).phase ≡ true → claims_in w k ≡ Some c
      → c.keeps ≡ true → i ≡ k
  keeps_alone i k c holds has keeps =
      let x = has_claim k c has in
      one_holder s.table.holder i k (held.table i ∙ holds) (held.table k ∙ x.table keeps)

  pub are_locked : AreLocked (claims_in w)
  are_locked = record {
    object = λ i k n c e has also its his. one_holder (object_of s n).holder i k (holds i n c has its)
        (holds k n e also his);
    frees = λ i n c has frees takes. let x = has_claim i c has in sym (x.frees frees) ∙ takes;
  }
    where
      holds : (i n : ℕ) (c : Claim) → claims_in w i ≡ Some c → c.locks ≡ Some n
          → is_number (object_of s n).holder i ≡ true
      holds i n c has its =
          let x = has_claim i c has in
          let inside : n < length s.objects =
          subst (λ (m : ℕ). n < m) (sym (ap length ends.1.objects ∙ ends.1.object_count)) (x.within n its) in
          held.objects i n inside ∙ ap (λ (o : Option ℕ). is_number o n) (x.held ∙ its) ∙ same_number n

-- ## An event

-- the claims of the other threads stay
pub others_stay : DoorLaws → (old new : Whole) (c : Coming) (e : Event) (s : State) → Leads old new c e s
    → OthersStay (claims_in old) (claims_in new) (thread_in e)
others_stay laws old new c e s m = record {
  same = λ k apart.
      let setup = setup_with old c s in
      let events = laws.events in
      claims_shown new (happens setup e s) k m.after
      ∙ ap (λ (t : lock.Thread). claim_of t.phase) (events.others setup s e k apart)
      ∙ sym (claims_shown old s k m.before);
}

-- a claim after an event of its thread that needs no turn, where this outcome comes if any does
abbrev moved_to : Option Given → Claim → Stage → Option Claim
moved_to came c Going = Some (record c { stage = Out })
moved_to came c Out = Some (record c { stage = Back (is_success (outcome_in came)) })
moved_to came c (Back ok) = None

abbrev pub next_claim : Option Given → Option Claim → Option Claim
next_claim came (Some c) = moved_to came c c.stage
next_claim came None = None

-- a call that is not to go outside, nor is there, has no claim after it
abbrev home_at : Stage → Bool
home_at (Back ok) = true
home_at stage = false

abbrev pub is_home : Option Claim → Bool
is_home (Some c) = home_at c.stage
is_home None = true

next_home : (came : Option Given) (o : Option Claim) → is_home o ≡ true → next_claim came o ≡ None
next_home came None home = refl
next_home came (Some c) home = by_stage c.stage home
  where
    by_stage : (stage : Stage) → home_at stage ≡ true → moved_to came c stage ≡ None
    by_stage Going is = absurd (false≢true is)
    by_stage Out is = absurd (false≢true is)
    by_stage (Back ok) is = refl

pub home_inside : (o : Option Claim) (c : Claim) → is_home o ≡ true → o ≡ Some c → c.stage ≡ Out → ⊥
home_inside o c home has out = false≢true (ap home_at (sym out) ∙ ap is_home (sym has) ∙ home)

answered_in : (t : lock.Thread) (c : Call) (clock : ℕ) (a : TurnEnd) → claim_of (answered t c clock a).phase ≡ None
answered_in t c clock (turn_end.Reply r) = refl
answered_in t c clock (turn_end.Blocked b) = refl

stepped_in : (setup : Setup) (t : lock.Thread) (x : Step) → claim_of (after_step setup.calls t x).phase ≡ None
stepped_in setup t (steps.Work n) = refl
stepped_in setup t (steps.Call c) = refl
stepped_in setup t steps.End = refl

moved_claim : (setup : Setup) (i : ℕ) (t u : lock.Thread) → IsMoved setup i t u
    → claim_of u.phase ≡ next_claim (slice_get (setup.supply.outcomes i) (length t.came)) (claim_of t.phase)
moved_claim setup i t u m = by_event m
  where
    came : Option Given
    came = slice_get (setup.supply.outcomes i) (length t.came)

    by_phase : (p : lock.Phase) → t.phase ≡ p → claim_of u.phase ≡ next_claim came (claim_of p)
        → claim_of u.phase ≡ next_claim came (claim_of t.phase)
    by_phase p there is = is ∙ ap (λ (q : lock.Phase). next_claim came (claim_of q)) (sym there)

    by_event : IsMoved setup i t u → claim_of u.phase ≡ next_claim came (claim_of t.phase)
    by_event (AsksStep x there next is) = by_phase Working there (ap (λ (v : lock.Thread). claim_of v.phase) is
        ∙ stepped_in setup t x)
    by_event (GoesOut job there is) = by_phase (ToOutside job) there (ap (λ (v : lock.Thread). claim_of v.phase) is)
    by_event (GetsOutcome job o there next fits is) = by_phase (Outside job) there
        (ap (λ (v : lock.Thread). claim_of v.phase) is
        ∙ ap (λ (g : Option Given). Some (claim_of_call (Back (is_success (outcome_in g))) job)) (sym next))
    by_event (AnswersGranted job there is) = by_phase (Granted job) there
        (ap (λ (v : lock.Thread). claim_of v.phase) is ∙ answered_in t job.call _ _)
    by_event (AnswersRecorded job there is) = by_phase (Recorded job) there
        (ap (λ (v : lock.Thread). claim_of v.phase) is ∙ answered_in t job.call _ _)
    by_event (MakesAgain c b there is) = by_phase (Blocked c b) there (ap (λ (v : lock.Thread). claim_of v.phase) is)

pub advanced_claim : DoorLaws → (old new : Whole) (c : Coming) (i : ℕ) (s : State) → Leads old new c (Advances i) s
    → (let setup = setup_with old c s in
    let t : lock.Thread = thread_of s i in
    claims_in new i ≡ next_claim (slice_get (setup.supply.outcomes i) (length t.came)) (claims_in old i))
advanced_claim laws old new c i s m =
    let setup = setup_with old c s in
    let events = laws.events in
    let t : lock.Thread = thread_of s i in
    claims_shown new (advance setup i s) i m.after
    ∙ moved_claim setup i t (thread_of (advance setup i s) i) (events.moved setup s i m.allowed)
    ∙ ap (next_claim (slice_get (setup.supply.outcomes i) (length t.came))) (sym (claims_shown old s i m.before))

pub advanced_home : DoorLaws → (old new : Whole) (c : Coming) (i : ℕ) (s : State) → Leads old new c (Advances i) s
    → is_home (claims_in old i) ≡ true → claims_in new i ≡ None
advanced_home laws old new c i s m home =
    let setup = setup_with old c s in
    let t : lock.Thread = thread_of s i in
    advanced_claim laws old new c i s m
    ∙ next_home (slice_get (setup.supply.outcomes i) (length t.came)) (claims_in old i) home

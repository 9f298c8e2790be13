-- The steps that a thread asks are those that it is given.
use Rattle.std.proofs.Common.{◌≡◌, ℕ, ◌+◌, ◌<◌, ◌≤◌, ◌^◌, List, [], ◌∷◌, ◌++◌, length, Option, Some, None, Bool, true}
use Rattle.std.proofs.Common.{false, is_some, sym, refl, ap, ◌∙◌, subst}
use Rattle.std.proofs.lemmas.Bool.{cond-true, cond-false, false≢true, le-leb, lt-leb}
use Rattle.posix_terms.specs.Calls.{Call}
use Rattle.posix_terms.specs.declared.step.Step.{Step}
use Rattle.posix_terms.specs.declared.step.Step.TheVariants as step
use Rattle.lock_model.specs.Held.{HasAsked, call_in, has_end, last_call}
use Rattle.lock_model.specs.Machine.{Moved, after_step, again, ask, moves, moves_in, quietly, within}
use Rattle.lock_model.specs.RealCalls.{real_calls}
use Rattle.lock_model.specs.State as lock
use Rattle.lock_model.specs.State.{Row, thread_of}
use Rattle.lock_model.specs.State.Phase.{Blocked, Working}
use Rattle.lock_machine.specs.Asking.{Asks, EndsIf, GoesAgain, GoesAgainIn, GoesAgainWith, HasTime, worked}
use Rattle.lock_machine.specs.Conditions.{Conditions, setup_under}
use Rattle.lock_machine.specs.Shows.{BlockedIn, MayAdvance, MayAsk, PhaseShows, ThreadShows}
use Rattle.lock_machine.specs.Waiting.{is_call}
use Rattle.lock_machine.specs.Whole.{Whole, thread_at}
use Rattle.lock_machine.specs.declared.thread.Phase.{Phase}
use Rattle.lock_machine.specs.declared.thread.Phase.TheVariants as phase
use Rattle.lock_machine.specs.Threads.{Thread}
use Rattle.lock_machine.proofs.ShownThreads.{Moving}
use Rattle.std.specs.Prelude.{OnErr, Result, Ok, Err}
use Rattle.sequential_object.specs.Step.{Carried}

pub within_yes : (limit : ℕ) (m : Moved) → m.thread.clock ≤ limit → within limit (Some m) ≡ Some m
within_yes limit m h = cond-true _ _ _ (le-leb m.thread.clock limit h)

pub within_no : (limit : ℕ) (m : Moved) → limit < m.thread.clock → within limit (Some m) ≡ None
within_no limit m h = cond-false _ _ _ (lt-leb m.thread.clock limit h)

-- a thread that works, and whose next step is this
record Next (terms : Conditions) (i : ℕ) (t : Thread) (u : lock.Thread) (x : Step) : Type 0 where
  clock : u.clock ≡ t.clock
  in_time : t.clock ≤ 2 ^ 62
  asked : u.asked ≡ t.asked
  came : length u.came ≡ t.came
  works : t.phase ≡ phase.Working
  moves_is : moves (setup_under terms) i u
      ≡ within (2 ^ 62) (Some (quietly (after_step (real_calls terms.settings) u x)))
  working : u.phase ≡ Working
  unended : has_end t.asked ≡ false

moves_at : (terms : Conditions) (i : ℕ) (u : lock.Thread) (x : Step) → u.phase ≡ Working
    → terms.supply.next i u.asked u.replies ≡ Some x
    → moves (setup_under terms) i u ≡ within (2 ^ 62) (Some (quietly (after_step (real_calls terms.settings) u x)))
unfolding moves
moves_at terms i u x e next = ap (λ (p : lock.Phase). within (2 ^ 62) (moves_in (setup_under terms) i u p)) e
    ∙ ap (λ (o : Option Step). within (2 ^ 62) (ask (real_calls terms.settings) u o)) next

step_moves : (terms : Conditions) (i : ℕ) (rows : List Row) (moved : Bool) (t v : Thread) (u : lock.Thread) (x : Step)
    → Next terms i t u x → Asks moved x t v → Moving terms i rows moved v u
step_moves terms i rows true t v u (step.Work n) h (room, v_is) =
    let m : Moved = quietly (after_step (real_calls terms.settings) u (step.Work n)) in
    let fits : u.clock + n ≤ 2 ^ 62 = subst (λ (c : ℕ). c + n ≤ 2 ^ 62) (sym h.clock) room in
    let P : Thread → Type 0 = λ y. ThreadShows terms i rows y m.thread in
    let W : Phase → Type 0 = λ p. PhaseShows terms i rows (worked n t) m.thread p in (
      m,
      (
        h.moves_is ∙ within_yes (2 ^ 62) m fits,
        refl,
        subst P (sym v_is) (record {
          clock = ap (λ (c : ℕ). c + n) h.clock;
          in_time = room;
          asked = ap (λ (a : List Step). a ++ step.Work n ∷ []) h.asked;
          came = h.came;
          phase = subst W (sym h.works) refl;
        }),
      ),
    )
step_moves terms i rows false t v u (step.Work n) h (room, v_is) =
    let m : Moved = quietly (after_step (real_calls terms.settings) u (step.Work n)) in
    let full : 2 ^ 62 < u.clock + n = subst (λ (c : ℕ). 2 ^ 62 < c + n) (sym h.clock) room in
    let none : moves (setup_under terms) i u ≡ None = h.moves_is ∙ within_no (2 ^ 62) m full in
    let P : Thread → Type 0 = λ y. ThreadShows terms i rows y u in
    let W : Phase → Type 0 = λ p. PhaseShows terms i rows t u p in (
      none,
      subst P (sym v_is) (record {
        clock = h.clock;
        in_time = h.in_time;
        asked = h.asked;
        came = h.came;
        phase = subst W (sym h.works) h.working;
      }),
    )
step_moves terms i rows moved t v u (step.Call call) h (moved_is, v_is) =
    let m : Moved = quietly (after_step (real_calls terms.settings) u (step.Call call)) in
    let fits : u.clock ≤ 2 ^ 62 = subst (λ (c : ℕ). c ≤ 2 ^ 62) (sym h.clock) h.in_time in
    let P : Thread → Type 0 = λ y. ThreadShows terms i rows y m.thread in
    let Q : Bool → Type 0 = λ b. Moving terms i rows b v u in
    subst Q (sym moved_is) (
      m,
      (
        h.moves_is ∙ within_yes (2 ^ 62) m fits,
        refl,
        subst P (sym v_is) (record {
          clock = h.clock;
          in_time = h.in_time;
          asked = ap (λ (a : List Step). a ++ step.Call call ∷ []) h.asked;
          came = h.came;
          phase = refl;
        }),
      ),
    )
step_moves terms i rows moved t v u step.End h ends =
    let E : Bool → Type 0 = λ b. EndsIf b moved t v in
    let (moved_is, v_is) = (subst E h.unended ends) in
    let m : Moved = quietly (after_step (real_calls terms.settings) u step.End) in
    let fits : u.clock ≤ 2 ^ 62 = subst (λ (c : ℕ). c ≤ 2 ^ 62) (sym h.clock) h.in_time in
    let P : Thread → Type 0 = λ y. ThreadShows terms i rows y m.thread in
    let Q : Bool → Type 0 = λ b. Moving terms i rows b v u in
    subst Q (sym moved_is) (
      m,
      (
        h.moves_is
            ∙ within_yes (2 ^ 62) m fits,
        refl,
        subst P (sym v_is)
            (record {
              clock = h.clock;
              in_time = h.in_time;
              asked = ap (λ (a : List Step). a ++ step.End ∷ []) h.asked;
              came = h.came;
              phase = refl;
            }),
      ),
    )

pub ask_moves : (terms : Conditions) (i : ℕ) (rows : List Row) (moved : Bool) (x : Step) (t v : Thread)
    (u : lock.Thread) → t.phase ≡ phase.Working → ThreadShows terms i rows t u → HasAsked u
    → terms.supply.next i u.asked u.replies ≡ Some x → Asks moved x t v → Moving terms i rows moved v u
ask_moves terms i rows moved x t v u works h asked next asks =
    let P : Phase → Type 0 = λ p. PhaseShows terms i rows t u p in
    let now : u.phase ≡ Working = subst P works h.phase in
    let unended : has_end t.asked ≡ false = ap has_end (sym h.asked) ∙ asked.works now in
    step_moves terms i rows moved t v u x
    (record {
      clock = h.clock;
      in_time = h.in_time;
      asked = h.asked;
      came = h.came;
      works = works;
      moves_is = moves_at terms i u x now next;
      working = now;
      unended = unended;
    }) asks

moves_again : (terms : Conditions) (i : ℕ) (u : lock.Thread) (call : Call) (carried : Carried)
    → u.phase ≡ Blocked call carried → moves (setup_under terms) i u ≡ within (2 ^ 62) (Some (again u call carried))
unfolding moves
moves_again terms i u call carried e = ap (λ (p : lock.Phase). within (2 ^ 62) (moves_in (setup_under terms) i u p)) e

-- a blocked call, which is the last that its thread asked, wants the table again
pub again_moves : (terms : Conditions) (i : ℕ) (rows : List Row) (moved : Bool) (t v : Thread) (u : lock.Thread)
    (carried : Carried) → t.phase ≡ phase.Blocked carried → ThreadShows terms i rows t u → HasAsked u
    → GoesAgain moved t v → Moving terms i rows moved v u
again_moves terms i rows moved t v u carried is h asked goes =
    let P : Phase → Type 0 = λ p. PhaseShows terms i rows t u p in
    let (call, now) = (subst P is h.phase) in
    let last : last_call t.asked ≡ Some call = ap last_call (sym h.asked) ∙ asked.call call (ap call_in now) in
    let G : Phase → Type 0 = λ p. GoesAgainIn p moved t v in
    let W : Option Call → Type 0 = λ o. GoesAgainWith o carried moved t v in
    let went : (moved ≡ true) × (v ≡ record t { phase = phase.WantsTable call carried }) =
    subst W last (subst G is goes) in
    let m : Moved = again u call carried in
    let fits : u.clock ≤ 2 ^ 62 = subst (λ (c : ℕ). c ≤ 2 ^ 62) (sym h.clock) h.in_time in
    let Q : Bool → Type 0 = λ b. Moving terms i rows b v u in
    let R : Thread → Type 0 = λ y. ThreadShows terms i rows y m.thread in
    subst Q (sym went.0) (
      m,
      (
        moves_again terms i u call carried now ∙ within_yes (2 ^ 62) m fits,
        refl,
        subst R (sym went.1) (record {
          clock = h.clock;
          in_time = h.in_time;
          asked = h.asked;
          came = h.came;
          phase = refl;
        }),
      ),
    )

-- ## What no number forbids

time_fits : (terms : Conditions) (i : ℕ) (rows : List Row) (x : Step) (t : Thread) (u : lock.Thread)
    → ThreadShows terms i rows t u → HasTime x t
    → (let m : Moved = quietly (after_step (real_calls terms.settings) u x) in m.thread.clock) ≤ 2 ^ 62
time_fits terms i rows (step.Work n) t u h time = subst (λ (c : ℕ). c + n ≤ 2 ^ 62) (sym h.clock) time
time_fits terms i rows (step.Call call) t u h time = subst (λ (c : ℕ). c ≤ 2 ^ 62) (sym h.clock) h.in_time
time_fits terms i rows step.End t u h time = subst (λ (c : ℕ). c ≤ 2 ^ 62) (sym h.clock) h.in_time

-- a thread that works may ask a step for which its clock has room
pub may_ask : (w : Whole) (i : ℕ) (x : Step) → (thread_at w i).phase ≡ phase.Working → HasTime x (thread_at w i)
    → MayAsk i x w
may_ask w i x works time terms s (arises, h) next =
    let u = thread_of s i in
    let P : Phase → Type 0 = λ p. PhaseShows terms i s.rows (thread_at w i) u p in
    let now : u.phase ≡ Working = subst P works (h.threads i).phase in
    let m : Moved = quietly (after_step (real_calls terms.settings) u x) in
    ap is_some (moves_at terms i u x now next
    ∙ within_yes (2 ^ 62) m (time_fits terms i s.rows x (thread_at w i) u (h.threads i) time))

-- a call takes no time
pub call_time : (x : Step) (t : Thread) → is_call x ≡ true → HasTime x t
call_time (step.Work n) t h = absurd (false≢true h)
call_time (step.Call call) t h = tt
call_time step.End t h = tt

-- nor does a call that is made again
pub may_again : (w : Whole) (i : ℕ) → BlockedIn (thread_at w i).phase → MayAdvance i w
may_again w i blocked terms s (arises, h) = by_phase (thread_at w i).phase blocked (h.threads i).phase
  where
    by_phase : (p : Phase) → BlockedIn p → PhaseShows terms i s.rows (thread_at w i) (thread_of s i) p
        → is_some (moves (setup_under terms) i (thread_of s i)) ≡ true
    by_phase (phase.Blocked carried) b (call, now) =
        let u = thread_of s i in
        let fits : u.clock ≤ 2 ^ 62 = subst (λ (c : ℕ). c ≤ 2 ^ 62) (sym (h.threads i).clock) (h.threads i).in_time in
        ap is_some (moves_again terms i u call carried now ∙ within_yes (2 ^ 62) (again u call carried) fits)
    by_phase phase.Working b g = absurd b
    by_phase (phase.WantsTable call carried) b g = absurd b
    by_phase (phase.WantsObject call carried clock n) b g = absurd b
    by_phase (phase.Granted row n e) b g = absurd b
    by_phase (phase.ToOutside o) b g = absurd b
    by_phase (phase.Outside o) b g = absurd b
    by_phase (phase.Recorded o) b g = absurd b
    by_phase phase.Ended b g = absurd b

-- what is so anyway is so at an error
pub on_err : {T E P : Type 0} (r : Result T E) → P → OnErr r P
on_err (Ok v) p = tt
on_err (Err e) p = p

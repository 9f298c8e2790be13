-- Each plain run comes to an end, where its programs do.
use Rattle.std.proofs.Common.{◌≡◌, ℕ, zero, suc, ◌+◌, ◌-◌, ◌*◌, ◌<◌, ◌≤◌, ◌⊎◌, [], ◌∷◌, ◌++◌, length, Option, Some}
use Rattle.std.proofs.Common.{None, Bool, true, false, not, ◌||◌, nat_le, sym, refl, ap, ap₂, ◌∙◌, subst, inl, inr}
use Rattle.std.proofs.Common.{⊎_elim, arith}
use Rattle.std.proofs.lemmas.Bool.{false≢true, leb-true, cases_eq}
use Rattle.std.proofs.lemmas.List.{get_or-set_same, length-append, length-set}
use Rattle.lock_model.specs.CallTable.{CallTable, Plan, Way, has_object, keeps_table}
use Rattle.sequential_object.specs.declared.turn_end.TurnEnd.{TurnEnd}
use Rattle.sequential_object.specs.declared.turn_end.TurnEnd.TheVariants as turn_end
use Rattle.lock_model.specs.CallTable.Plan.{No_object, Object}
use Rattle.lock_model.specs.CallTable.Way.{Inside, Door, Keeps_table}
use Rattle.lock_model.specs.Machine.{Setup, Moved, Event, after_step, one_if, answered, answer, moves, move, granted}
use Rattle.lock_model.specs.Machine.{new_job, planned, reached, can_attempt, attempt, is_allowed, happens}
use Rattle.lock_model.specs.Machine.Event.{Advances, Attempts}
use Rattle.lock_model.specs.Programs.{Finite}
use Rattle.posix_terms.specs.declared.step.Step.{Step}
use Rattle.posix_terms.specs.declared.step.Step.TheVariants as step
use Rattle.lock_model.specs.Schedule.{EndsIn, next_event, plain_run}
use Rattle.lock_model.specs.State.{Job, Phase, Thread, State, nobody, thread_of}
use Rattle.lock_model.specs.State.Phase.{Working, WantsTable, WantsObject, Granted, ToOutside, Outside, Recorded}
use Rattle.lock_model.specs.State.Phase.{Blocked, Ended}
use Rattle.sequential_object.specs.Worlds.{World}
use Rattle.posix_terms.specs.Calls.{Call}
use Rattle.sequential_object.specs.Step.{Carried}
use Rattle.posix_terms.specs.declared.transcript.Turn.{Turn}
use Rattle.std.proofs.Common.{mul-le-mul_right}
use Rattle.lock_model.proofs.Commute.{advance_move, thread_move}
use Rattle.lock_model.proofs.Turn.{live_within, moves_live, moves_later, thread_moved}
use Rattle.lock_model.proofs.Attempt.{move_of, can_out, attempt_can, attempt_other}
use Rattle.lock_model.specs.Runs.{LeadsTo}
use Rattle.lock_model.specs.Schedule.{IsOver, plain}
use Rattle.lock_model.proofs.Diamond.{Leads}
use Rattle.lock_model.proofs.Plain.{plain_reaches, next_allowed, plain_event}
use Rattle.lock_model.proofs.Growth.{at_moves, at_attempt, wanting_within}

-- ## Sums over thread numbers

sum_below : ℕ → (ℕ → ℕ) → ℕ
sum_below zero f = 0
sum_below (suc n) f = f n + sum_below n f

sum_same : (n : ℕ) (f g : ℕ → ℕ) → ((k : ℕ) → k < n → g k ≡ f k) → sum_below n g ≡ sum_below n f
unfolding sum_below
sum_same zero f g h = refl
sum_same (suc n) f g h = ap₂ ◌+◌ (h n (omega arith)) (sum_same n f g (λ k l. h k (omega arith)))

-- where one part falls and the others stay, the sum falls
sum_less : (n i : ℕ) (f g : ℕ → ℕ) → i < n → g i < f i → ((k : ℕ) → (i ≡ k → ⊥) → g k ≡ f k)
    → sum_below n g < sum_below n f
unfolding sum_below
sum_less zero i f g l less same = absurd (omega arith)
sum_less (suc n) i f g l less same =
    ⊎_elim
    (λ (e : i ≡ n).
    let here : g n < f n = subst (λ (k : ℕ). g k < f k) e less in
    let rest : sum_below n g ≡ sum_below n f =
    sum_same n f g (λ k q. same k (λ w. let u : k ≡ n = sym w ∙ e in omega arith)) in
    omega arith)
    (λ (e : i ≡ n → ⊥).
    let here : g n ≡ f n = same n e in
    let rest : sum_below n g < sum_below n f = sum_less n i f g (omega arith) less same in
    omega arith)
    (cases_eq i n)

-- ## What a thread can still do

-- before it wants a lock
work_in : Phase → ℕ
work_in Working = 1
work_in (WantsTable c b) = 0
work_in (WantsObject c b clock n way) = 0
work_in (Granted job) = 2
work_in (ToOutside job) = 4
work_in (Outside job) = 3
work_in (Recorded job) = 2
work_in (Blocked c b) = 1
work_in Ended = 0

work_small : (p : Phase) → work_in p ≤ 4
unfolding work_in
work_small Working = omega arith
work_small (WantsTable c b) = omega arith
work_small (WantsObject c b clock n way) = omega arith
work_small (Granted job) = omega arith
work_small (ToOutside job) = omega arith
work_small (Outside job) = omega arith
work_small (Recorded job) = omega arith
work_small (Blocked c b) = omega arith
work_small Ended = omega arith

left : ℕ → ℕ → Thread → ℕ
left limit bound t = (limit - t.clock) * (bound + 5) + (bound - length t.asked + work_in t.phase)

left_move : (limit bound : ℕ) (t u : Thread) → t.clock ≤ u.clock
    → bound - length u.asked + work_in u.phase < bound - length t.asked + work_in t.phase
    → left limit bound u < left limit bound t
unfolding left
left_move limit bound t u l h =
    let falls : (limit - u.clock) * (bound + 5) ≤ (limit - t.clock) * (bound + 5) =
    mul-le-mul_right (bound + 5) (omega arith) in
    omega arith

left_attempt : (limit bound : ℕ) (t u : Thread) → t.clock < u.clock → u.clock ≤ limit
    → left limit bound u < left limit bound t
unfolding left
left_attempt limit bound t u l h =
    let small = work_small u.phase in
    let falls : (limit - u.clock + 1) * (bound + 5) ≤ (limit - t.clock) * (bound + 5) =
    mul-le-mul_right (bound + 5) (omega arith) in
    omega arith

-- ## Moves

answered_work : (t : Thread) (c : Call) (n : ℕ) (a : TurnEnd) → work_in (answered t c n a).phase ≡ 1
unfolding work_in
answered_work t c n (turn_end.Reply r) = refl
answered_work t c n (turn_end.Blocked b) = refl

answered_asked : (t : Thread) (c : Call) (n : ℕ) (a : TurnEnd) → (answered t c n a).asked ≡ t.asked
answered_asked t c n (turn_end.Reply r) = refl
answered_asked t c n (turn_end.Blocked b) = refl

abbrev is_end : Step → Bool
is_end step.End = true
is_end x = false

step_work : (calls : CallTable) (bound : ℕ) (t : Thread) (x : Step) → (x ≡ step.End) ⊎ (length t.asked < bound)
    → bound - length (after_step calls t x).asked + work_in (after_step calls t x).phase < bound - length t.asked + 1
unfolding work_in
step_work calls bound t (step.Work n) (inl e) = absurd (false≢true (ap is_end e))
step_work calls bound t (step.Work n) (inr l) = let e = length-append t.asked (step.Work n ∷ []) in omega arith
step_work calls bound t (step.Call c) h = let e = length-append t.asked (step.Call c ∷ []) in make_work h e
  where
    make_work : (step.Call c ≡ step.End) ⊎ (length t.asked < bound)
        → length (t.asked ++ step.Call c ∷ []) ≡ length t.asked + 1
        → bound - length (t.asked ++ step.Call c ∷ []) + 0 < bound - length t.asked + 1
    make_work h e = omega arith
step_work calls bound t step.End h = let e = length-append t.asked (step.End ∷ []) in end_work e
  where
    end_work : length (t.asked ++ step.End ∷ []) ≡ length t.asked + 1
        → bound - length (t.asked ++ step.End ∷ []) + 0 < bound - length t.asked + 1
    end_work e = omega arith

answer_work : (calls : CallTable) (bound : ℕ) (t : Thread) (job : Job)
    → bound - length (answer calls t job).thread.asked + work_in (answer calls t job).thread.phase
    < bound - length t.asked + 2
answer_work calls bound t job =
    let n = t.clock + one_if (has_object job.plan) + one_if (not (has_object job.plan) || keeps_table job.plan) in
    let a = calls.answer job.found job.call job.outcome job.carried in
    let e = answered_work t job.call n a in
    let l : length (answered t job.call n a).asked ≡ length t.asked = ap length (answered_asked t job.call n a) in
    omega arith

move_work : (setup : Setup) (finite : Finite setup.supply) (i : ℕ) (t : Thread) (m : Moved) → moves setup i t ≡ Some m
    → finite.bound i - length m.thread.asked + work_in m.thread.phase
    < finite.bound i - length t.asked + work_in t.phase
unfolding work_in
move_work setup finite i t m h =
    at_moves setup i t (λ p n. finite.bound i - length n.thread.asked + work_in n.thread.phase
    < finite.bound i - length t.asked + work_in p) m
    (record {
      steps = λ x q. step_work setup.calls (finite.bound i) t x (finite.ends i t.asked t.replies x q);
      begins = λ job. omega arith;
      records = λ job o q e. omega arith;
      grants = λ job. answer_work setup.calls (finite.bound i) t job;
      answers = λ job. answer_work setup.calls (finite.bound i) t job;
      agains = λ c b. omega arith;
    })
    h

-- ## Events

part_left : (setup : Setup) → Finite setup.supply → State → ℕ → ℕ
part_left setup finite s k = left setup.limits.clock_limit (finite.bound k) (thread_of s k)

total : (setup : Setup) → Finite setup.supply → State → ℕ
total setup finite s = sum_below (length s.threads) (part_left setup finite s)

-- where thread i alone has less left
total_less : (setup : Setup) (finite : Finite setup.supply) (s z : State) (i : ℕ) → length z.threads ≡ length s.threads
    → i < length s.threads
    → ((k : ℕ) → (i ≡ k → ⊥) → thread_of z k ≡ thread_of s k) → part_left setup finite z i < part_left setup finite s i
    → total setup finite z < total setup finite s
unfolding total part_left
total_less setup finite s z i count l others less =
    subst (λ (n : ℕ). sum_below n (part_left setup finite z) < sum_below (length s.threads) (part_left setup finite s))
    (sym count)
    (sum_less (length s.threads) i (part_left setup finite s) (part_left setup finite z) l less
    (λ k apart. ap (left setup.limits.clock_limit (finite.bound k)) (others k apart)))

total_move : (setup : Setup) (finite : Finite setup.supply) (s : State) (i : ℕ) (m : Moved)
    → moves setup i (thread_of s i) ≡ Some m → total setup finite (move i (Some m) s) < total setup finite s
unfolding part_left
total_move setup finite s i m e =
    let t = thread_of s i in
    let z = move i (Some m) s in
    total_less setup finite s z i (length-set s.threads i m.thread) (live_within s i t.clock (moves_live setup i t m e))
    (λ k apart. thread_move i k (Some m) s apart)
    (subst (λ (u : Thread). left setup.limits.clock_limit (finite.bound i) u
    < left setup.limits.clock_limit (finite.bound i) t) (sym (thread_moved setup s i m e))
    (left_move setup.limits.clock_limit (finite.bound i) t m.thread (moves_later setup i t m e).clock
    (move_work setup finite i t m e)))

planned_clock : (calls : CallTable) (s : State) (i : ℕ) (t : Thread) (c : Call) (b : Carried) (turn : Turn)
    (plan : Plan) (w : World) → i < length s.threads
    → (length (planned calls s i t c b turn plan w).threads ≡ length s.threads)
    × (t.clock < (thread_of (planned calls s i t c b turn plan w) i).clock)
planned_clock calls s i t c b turn No_object w l = (
  length-set s.threads i _,
  subst (λ (u : Thread). t.clock < u.clock)
      (sym (get_or-set_same s.threads i (granted t (t.clock + 1) (new_job c b turn No_object w) false) nobody l))
      (omega arith),
)
planned_clock calls s i t c b turn (Object n way) w l = (
  length-set s.threads i _,
  subst (λ (u : Thread). t.clock < u.clock)
      (sym (get_or-set_same s.threads i (record t { phase = WantsObject c b turn.clock n way; clock = t.clock + 1 })
      nobody l)) (omega arith),
)

reached_clock : (calls : CallTable) (s : State) (i : ℕ) (t : Thread) (c : Call) (b : Carried) (turn : Turn) (n : ℕ)
    (way : Way) (w : World) → i < length s.threads
    → (length (reached calls s i t c b turn n way w).threads ≡ length s.threads)
    × (t.clock < (thread_of (reached calls s i t c b turn n way w) i).clock)
reached_clock calls s i t c b turn n Inside w l = (
  length-set s.threads i _,
  subst (λ (u : Thread). t.clock < u.clock)
      (sym (get_or-set_same s.threads i (granted t (t.clock + 2) (new_job c b turn (Object n Inside) w) false) nobody
      l)) (omega arith),
)
reached_clock calls s i t c b turn n Door w l = (
  length-set s.threads i _,
  subst (λ (u : Thread). t.clock < u.clock)
      (sym (get_or-set_same s.threads i (granted t (t.clock + 2) (new_job c b turn (Object n Door) w) true) nobody l))
      (omega arith),
)
reached_clock calls s i t c b turn n Keeps_table w l = (
  length-set s.threads i _,
  subst (λ (u : Thread). t.clock < u.clock)
      (sym (get_or-set_same s.threads i (granted t (t.clock + 1) (new_job c b turn (Object n Keeps_table) w) true)
      nobody l)) (omega arith),
)

-- an attempt costs, whether it succeeds or not
pub attempt_clock : (setup : Setup) (s : State) (i : ℕ) → can_attempt setup s i ≡ true
    → (length (attempt setup i s).threads ≡ length s.threads)
    × ((thread_of s i).clock < (thread_of (attempt setup i s) i).clock)
attempt_clock setup s i can =
    let t = thread_of s i in
    let l = wanting_within setup s i can in
    at_attempt setup s i (λ p z. (length z.threads ≡ length s.threads) × (t.clock < (thread_of z i).clock)) can
    (record {
      fails = λ p h. (
        length-set s.threads i _,
        subst (λ (u : Thread). t.clock < u.clock)
            (sym (get_or-set_same s.threads i (record t { clock = t.clock + 1 }) nobody l)) (omega arith),
      );
      plans = λ c b h. planned_clock setup.calls s i t c b (record { clock = t.clock; thread = i })
          (setup.calls.plan s.world c b) s.world l;
      reaches = λ c b clock n way h k. reached_clock setup.calls s i t c b (record { clock = clock; thread = i }) n way
          s.world l;
    })

total_attempt : (setup : Setup) (finite : Finite setup.supply) (s : State) (i : ℕ) → can_attempt setup s i ≡ true
    → total setup finite (attempt setup i s) < total setup finite s
unfolding part_left
total_attempt setup finite s i can =
    let costs = attempt_clock setup s i can in
    let room : (thread_of (attempt setup i s) i).clock ≤ setup.limits.clock_limit =
    leb-true _ _ (ap (λ (z : State). nat_le (thread_of z i).clock setup.limits.clock_limit) (attempt_can setup i s can)
    ∙ (can_out setup s i can).room) in
    total_less setup finite s (attempt setup i s) i costs.0 (wanting_within setup s i can)
    (λ k apart. attempt_other setup i k s apart)
    (left_attempt setup.limits.clock_limit (finite.bound i) (thread_of s i) (thread_of (attempt setup i s) i) costs.1
    room)

total_event : (setup : Setup) (finite : Finite setup.supply) (s : State) (e : Event) → is_allowed setup e s ≡ true
    → total setup finite (happens setup e s) < total setup finite s
total_event setup finite s (Attempts i) can = total_attempt setup finite s i can
total_event setup finite s (Advances i) can =
    let m = move_of setup s i can in
    subst (λ (z : State). total setup finite z < total setup finite s)
    (sym (advance_move setup i s ∙ ap (λ (o : Option Moved). move i o s) m.1)) (total_move setup finite s i m.0 m.1)

-- ## The end

ends_next : (setup : Setup) (s : State) (e : Event) → next_event setup s ≡ Some e → (last : State)
    × EndsIn setup (happens setup e s) last → (last : State) × EndsIn setup s last
unfolding plain_run
ends_next setup s e h (last, ends) = (
  last,
  record {
    count = suc ends.count;
    reached = ap (plain_run setup ends.count) (plain_event setup s e h)
        ∙ ends.reached;
    over = ends.over;
  },
)

ends_over : (setup : Setup) (s : State) → next_event setup s ≡ None → (last : State) × EndsIn setup s last
unfolding plain_run
ends_over setup s h = (s, record { count = 0; reached = refl; over = h })

ends_by : (setup : Setup) (finite : Finite setup.supply) (fuel : ℕ) (s : State) → total setup finite s < fuel
    → (last : State) × EndsIn setup s last
ends_by setup finite zero s l = absurd (omega arith)
ends_by setup finite (suc fuel) s l =
    ends_at (next_event setup s) refl (λ z q. ends_by setup finite fuel z (omega arith))
  where
    ends_at : (o : Option Event) → next_event setup s ≡ o
        → ((z : State) → total setup finite z < total setup finite s → (last : State) × EndsIn setup z last)
        → (last : State) × EndsIn setup s last
    ends_at None h on = ends_over setup s h
    ends_at (Some e) h on = ends_next setup s e h
        (on (happens setup e s) (total_event setup finite s e (next_allowed setup s e h)))

pub some_end : (setup : Setup) (first : State) → Finite setup.supply → (last : State) × EndsIn setup first last
some_end setup first finite = ends_by setup finite (suc (total setup finite first)) first (omega arith)

pub ends_here : (setup : Setup) (s : State) → IsOver setup s → EndsIn setup s s
unfolding plain_run
ends_here setup s h = record { count = 0; reached = refl; over = h }

pub ends_before : (setup : Setup) (s last : State) (e : Event) → next_event setup s ≡ Some e
    → EndsIn setup (happens setup e s) last → EndsIn setup s last
unfolding plain_run
ends_before setup s last e h ends =
    record {
      count = suc ends.count;
      reached = ap (plain_run setup ends.count) (plain_event setup s e h) ∙ ends.reached;
      over = ends.over;
    }

pub plain_run-suc : (setup : Setup) (n : ℕ) (s : State) → plain_run setup (suc n) s ≡ plain setup (plain_run setup n s)
unfolding plain_run
plain_run-suc setup zero s = refl
plain_run-suc setup (suc n) s = plain_run-suc setup n (plain setup s)

pub one_more : (setup : Setup) (first s : State) (n : ℕ) (e : Event) → plain_run setup n first ≡ s
    → next_event setup s ≡ Some e → plain_run setup (suc n) first ≡ happens setup e s
one_more setup first s n e h q = plain_run-suc setup n first ∙ (ap (plain setup) h ∙ plain_event setup s e q)

pub leads_on : (setup : Setup) (n : ℕ) (s last : State) → Leads setup n s last → LeadsTo setup s last
leads_on setup zero s last h = record { events = []; allowed = tt; ends = h }
leads_on setup (suc n) s last (e, can, rest) =
    let r = leads_on setup n (happens setup e s) last rest in
    record { events = e ∷ r.events; allowed = (can, r.allowed); ends = r.ends }

pub plain_is_run : (setup : Setup) (first last : State) → EndsIn setup first last → LeadsTo setup first last
plain_is_run setup first last h = let r = plain_reaches setup h.count first last h.reached in
    leads_on setup r.0 first last r.1

pub each_lowers : (setup : Setup) → Finite setup.supply → (measure : State → ℕ)
    × ((s : State) (e : Event) → is_allowed setup e s ≡ true → measure (happens setup e s) < measure s)
each_lowers setup finite = (total setup finite, λ s e can. total_event setup finite s e can)

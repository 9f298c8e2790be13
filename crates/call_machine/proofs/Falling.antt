-- Each event lowers what the scripts of a run can still do with its threads.
use Rattle.std.proofs.Common.{◌≡◌, ◌⊎◌, ℕ, zero, suc, ◌+◌, ◌-◌, ◌*◌, ◌<◌, ◌≤◌, ◌^◌, List, [], ◌∷◌, length, get_or}
use Rattle.std.proofs.Common.{Option, Bool, true, false, if◌then◌else◌, inl, inr, sym, refl, ap, ap₂, ◌∙◌, subst, arith}
use Rattle.std.proofs.lemmas.Bool.{false≢true}
use Rattle.std.specs.Prelude.{not, ◌||◌}
use Rattle.posix_terms.specs.Calls.{Call}
use Rattle.posix_terms.specs.declared.reply.Reply.{Reply}
use Rattle.thread_scripts.specs.Laws.{RunsEnd}
use Rattle.thread_scripts.specs.Meaning.{lines_left, next_of}
use Rattle.thread_scripts.specs.declared.actor.ScriptState.{ScriptState}
use Rattle.posix_terms.specs.declared.step.Step.{Step}
use Rattle.posix_terms.specs.declared.step.Step.TheVariants as step
use Rattle.lock_model.specs.CallTable.{CallTable, has_object, keeps_table}
use Rattle.sequential_object.specs.declared.turn_end.TurnEnd.{TurnEnd}
use Rattle.sequential_object.specs.declared.turn_end.TurnEnd.TheVariants as turn_end
use Rattle.lock_model.specs.Events.{EventLaws, IsIn, IsMoved}
use Rattle.lock_model.specs.Events.IsMoved.{AnswersGranted, AnswersRecorded, AsksStep, GetsOutcome, GoesOut, MakesAgain}
use Rattle.lock_model.specs.Machine.{advance, after_step, answer, answered, attempt, can_advance, can_attempt, one_if}
use Rattle.lock_model.specs.Machine.{wants}
use Rattle.lock_model.specs.Machine.Event.{Advances, Attempts}
use Rattle.lock_model.specs.State as lock
use Rattle.lock_model.specs.State.{Job, Row, State, thread_of}
use Rattle.lock_model.specs.State.Phase.{Blocked, Ended, Granted, Outside, Recorded, ToOutside, WantsObject, WantsTable}
use Rattle.lock_model.specs.State.Phase.{Working}
use Rattle.call_machine.specs.Playing.{no_player}
use Rattle.lock_machine.specs.Conditions.{Conditions, setup_under}
use Rattle.lock_machine.specs.Shows.{PhaseShows, ThreadShows}
use Rattle.lock_machine.specs.Threads.{Thread}
use Rattle.lock_machine.specs.Views.{no_thread}
use Rattle.call_machine.specs.Weights.{Falls, left_in, total, weight}
use Rattle.call_machine.specs.declared.players.Player.{Player}
use Rattle.lock_machine.specs.declared.thread.Phase.{Phase}
use Rattle.lock_machine.specs.declared.thread.Phase.TheVariants as phase

-- ## By the thread of the lock machine

abbrev pub left_at : lock.Phase → Bool → ℕ → ℕ
left_at Working stuck lines = if stuck then 0 else 2 * lines + 1
left_at (WantsTable c b) stuck lines = 2 * lines + 2
left_at (WantsObject c b clock n way) stuck lines = 2 * lines + 2
left_at (Granted job) stuck lines = 2 * lines + 2
left_at (ToOutside job) stuck lines = 2 * lines + 5
left_at (Outside job) stuck lines = 2 * lines + 4
left_at (Recorded job) stuck lines = 2 * lines + 3
left_at (Blocked c b) stuck lines = 2 * lines + 3
left_at Ended stuck lines = 0

-- with the room on its clock
load : ℕ → ℕ → ℕ
load clock left = 4 * (2 ^ 62 - clock) + left

pub weight_at : lock.Thread → Bool → ℕ → ℕ
weight_at u stuck lines = load u.clock (left_at u.phase stuck lines)

left_shown : (terms : Conditions) (i : ℕ) (rows : List Row) (t : Thread) (u : lock.Thread) (p : Phase) (stuck : Bool)
    (lines : ℕ) → PhaseShows terms i rows t u p → left_in p stuck lines ≡ left_at u.phase stuck lines
left_shown terms i rows t u phase.Working stuck lines h = sym (ap (λ (q : lock.Phase). left_at q stuck lines) h)
left_shown terms i rows t u (phase.WantsTable call carried) stuck lines h =
    sym (ap (λ (q : lock.Phase). left_at q stuck lines) h)
left_shown terms i rows t u (phase.WantsObject call carried clock object) stuck lines h =
    sym (ap (λ (q : lock.Phase). left_at q stuck lines) h.1.0)
left_shown terms i rows t u (phase.Granted place object ends) stuck lines h =
    sym (ap (λ (q : lock.Phase). left_at q stuck lines) h.1.0)
left_shown terms i rows t u (phase.ToOutside outing) stuck lines h =
    sym (ap (λ (q : lock.Phase). left_at q stuck lines) h.1.0)
left_shown terms i rows t u (phase.Outside outing) stuck lines h =
    sym (ap (λ (q : lock.Phase). left_at q stuck lines) h.1.0)
left_shown terms i rows t u (phase.Recorded outing) stuck lines h =
    sym (ap (λ (q : lock.Phase). left_at q stuck lines) h.1.0)
left_shown terms i rows t u (phase.Blocked carried) stuck lines h =
    sym (ap (λ (q : lock.Phase). left_at q stuck lines) h.1)
left_shown terms i rows t u phase.Ended stuck lines h = sym (ap (λ (q : lock.Phase). left_at q stuck lines) h)

-- a thread weighs what the one weighs that it stands for
pub weight_shown : (terms : Conditions) (i : ℕ) (rows : List Row) (t : Thread) (u : lock.Thread) (p : Player)
    → ThreadShows terms i rows t u → weight t p ≡ weight_at u p.stuck (lines_left p.actor)
unfolding weight weight_at load
weight_shown terms i rows t u p h =
    ap₂ load (sym h.clock) (left_shown terms i rows t u t.phase p.stuck (lines_left p.actor) h.phase)

-- ## Sums

on_falls : (clock more a b : ℕ) → a < b → load (clock + more) a < load clock b
unfolding load
on_falls clock more a b h = omega arith

still_falls : (clock a b : ℕ) → a < b → load clock a < load clock b
unfolding load
still_falls clock a b h = omega arith

-- an event that costs may leave up to 3 more
cost_falls : (clock later a b : ℕ) → clock < later → later ≤ 2 ^ 62 → a ≤ b + 3 → load later a < load clock b
unfolding load
cost_falls clock later a b less room h = omega arith

-- ## Events without the turn

one_step : (n m : ℕ) → n < m → 2 * n + 1 < 2 * m + 1
one_step n m h = omega arith

one_call : (n m : ℕ) → n < m → 2 * n + 2 < 2 * m + 1
one_call n m h = omega arith

step_falls : (calls : CallTable) (u : lock.Thread) (x : Step) (n m : ℕ) → u.phase ≡ Working → (x ≡ step.End) ⊎ (n < m)
    → weight_at (after_step calls u x) false n < weight_at u false m
unfolding weight_at
step_falls calls u x n m works less =
    subst (λ (p : lock.Phase). weight_at (after_step calls u x) false n < load u.clock (left_at p false m)) (sym works)
    (by_step x less)
  where
    by_step : (x : Step) → (x ≡ step.End) ⊎ (n < m)
        → weight_at (after_step calls u x) false n < load u.clock (2 * m + 1)
    by_step (step.Work amount) (inl e) = cc
    by_step (step.Work amount) (inr h) = on_falls u.clock amount (2 * n + 1) (2 * m + 1) (one_step n m h)
    by_step (step.Call c) (inl e) = cc
    by_step (step.Call c) (inr h) = still_falls u.clock (2 * n + 2) (2 * m + 1) (one_call n m h)
    by_step step.End e = still_falls u.clock 0 (2 * m + 1) (omega arith)

-- a script's next step leaves it less to do
pub asked_falls : RunsEnd → (calls : CallTable) (u : lock.Thread) (last : Option Reply) (actor : ScriptState)
    → u.phase ≡ Working
    → (let next = next_of last actor in weight_at (after_step calls u next.0) false (lines_left next.1)
    < weight_at u false (lines_left actor))
asked_falls ends calls u last actor works = let next = next_of last actor in
    step_falls calls u next.0 (lines_left next.1) (lines_left actor) works (ends last actor)

-- an answer costs
answer_cost : (x y : Bool) (clock : ℕ) → clock < clock + one_if x + one_if (not x || y)
answer_cost true y clock = omega arith
answer_cost false y clock = omega arith

answered_clock : (u : lock.Thread) (c : Call) (clock : ℕ) (a : TurnEnd) → (answered u c clock a).clock ≡ clock
answered_clock u c clock (turn_end.Reply r) = refl
answered_clock u c clock (turn_end.Blocked b) = refl

answered_left : (u : lock.Thread) (c : Call) (clock lines : ℕ) (a : TurnEnd)
    → left_at (answered u c clock a).phase false lines ≤ 2 * lines + 3
answered_left u c clock lines (turn_end.Reply r) = omega arith
answered_left u c clock lines (turn_end.Blocked b) = omega arith

answer_falls : (calls : CallTable) (u : lock.Thread) (job : Job) (lines left : ℕ)
    → (answer calls u job).thread.clock ≤ 2 ^ 62 → 2 * lines + 2 ≤ left
    → weight_at (answer calls u job).thread false lines < load u.clock left
unfolding weight_at
answer_falls calls u job lines left room more =
    let v = (answer calls u job).thread in
    let a = calls.answer job.found job.call job.outcome job.carried in
    let next = u.clock + one_if (has_object job.plan) + one_if (not (has_object job.plan) || keeps_table job.plan) in
    let at : v.clock ≡ next = answered_clock u job.call next a in
    let later : u.clock < v.clock =
    subst (λ (n : ℕ). u.clock < n) (sym at) (answer_cost (has_object job.plan) (keeps_table job.plan) u.clock)
    in
    cost_falls u.clock v.clock (left_at v.phase false lines) left later room
    (enough (left_at v.phase false lines) lines left (answered_left u job.call next lines a) more)
  where
    enough : (x lines left : ℕ) → x ≤ 2 * lines + 3 → 2 * lines + 2 ≤ left → x ≤ left + 3
    enough x lines left h more = omega arith

-- from one phase to another
by_phases : (u v : lock.Thread) (lines : ℕ) {p : lock.Phase} {w : lock.Thread} → u.phase ≡ p → v ≡ w
    → weight_at w false lines < load u.clock (left_at p false lines) → weight_at v false lines < weight_at u false lines
unfolding weight_at
by_phases u v lines {p} {w} phase is less =
    subst (λ (q : lock.Phase). weight_at v false lines < load u.clock (left_at q false lines)) (sym phase)
    (subst (λ (t : lock.Thread). weight_at t false lines < load u.clock (left_at p false lines)) (sym is) less)

-- in a call each event leaves less to do
moved_falls : (terms : Conditions) (i : ℕ) (u v : lock.Thread) (lines : ℕ) → IsIn u.phase ≡ true → v.clock ≤ 2 ^ 62
    → IsMoved (setup_under terms) i u v → weight_at v false lines < weight_at u false lines
unfolding weight_at
moved_falls terms i u v lines inside room (AsksStep x phase next is) =
    absurd (false≢true (sym (ap IsIn phase) ∙ inside))
moved_falls terms i u v lines inside room (GoesOut job phase is) =
    by_phases u v lines phase is (on_falls u.clock (setup_under terms).limits.door_cost (2 * lines + 4) (2 * lines + 5)
    (omega arith))
moved_falls terms i u v lines inside room (GetsOutcome job o phase next fits is) =
    by_phases u v lines phase is (still_falls u.clock (2 * lines + 3) (2 * lines + 4) (omega arith))
moved_falls terms i u v lines inside room (AnswersGranted job phase is) =
    let more : 2 * lines + 2 ≤ 2 * lines + 2 = omega arith in
    by_phases u v lines phase is (answer_falls (setup_under terms).calls u job lines (2 * lines + 2)
    (subst (λ (t : lock.Thread). t.clock ≤ 2 ^ 62) is room) more)
moved_falls terms i u v lines inside room (AnswersRecorded job phase is) =
    let more : 2 * lines + 2 ≤ 2 * lines + 3 = omega arith in
    by_phases u v lines phase is (answer_falls (setup_under terms).calls u job lines (2 * lines + 3)
    (subst (λ (t : lock.Thread). t.clock ≤ 2 ^ 62) is room) more)
moved_falls terms i u v lines inside room (MakesAgain c b phase is) =
    by_phases u v lines phase is (still_falls u.clock (2 * lines + 2) (2 * lines + 3) (omega arith))

pub advance_falls : EventLaws → (terms : Conditions) (i : ℕ) (s : State) (lines : ℕ) → IsIn (thread_of s i).phase ≡ true
    → can_advance (setup_under terms) s i ≡ true
    → weight_at (thread_of (advance (setup_under terms) i s) i) false lines < weight_at (thread_of s i) false lines
advance_falls laws terms i s lines inside can =
    let setup = setup_under terms in
    moved_falls terms i (thread_of s i) (thread_of (advance setup i s) i) lines inside
    (laws.room setup s (Advances i) can) (laws.moved setup s i can)

-- ## Attempts

wanting_left : (p : lock.Phase) (lines : ℕ) → wants p ≡ true → left_at p false lines ≡ 2 * lines + 2
wanting_left (WantsTable c b) lines h = refl
wanting_left (WantsObject c b clock n way) lines h = refl
wanting_left p lines h = absurd (false≢true h)

call_left : (p : lock.Phase) (lines : ℕ) → IsIn p ≡ true → left_at p false lines ≤ 2 * lines + 5
call_left Working lines h = absurd (false≢true h)
call_left Ended lines h = absurd (false≢true h)
call_left (WantsTable c b) lines h = omega arith
call_left (WantsObject c b clock n way) lines h = omega arith
call_left (Granted job) lines h = omega arith
call_left (ToOutside job) lines h = omega arith
call_left (Outside job) lines h = omega arith
call_left (Recorded job) lines h = omega arith
call_left (Blocked c b) lines h = omega arith

pub attempt_falls : EventLaws → (terms : Conditions) (i : ℕ) (s : State) (lines : ℕ)
    → can_attempt (setup_under terms) s i ≡ true → weight_at (thread_of (attempt (setup_under terms) i s) i) false lines
    < weight_at (thread_of s i) false lines
unfolding weight_at
attempt_falls laws terms i s lines can =
    let setup = setup_under terms in
    let u = thread_of s i in
    let v = thread_of (attempt setup i s) i in
    let before : left_at u.phase false lines ≡ 2 * lines + 2 =
    wanting_left u.phase lines (laws.wanting setup s i can) in
    let after : left_at v.phase false lines ≤ 2 * lines + 5 =
    call_left v.phase lines (laws.tried setup s i can).after in
    cost_falls u.clock v.clock (left_at v.phase false lines) (left_at u.phase false lines) (laws.costs setup s i can)
    (laws.room setup s (Attempts i) can)
    (enough (left_at v.phase false lines) (left_at u.phase false lines) lines before after)
  where
    enough : (x y lines : ℕ) → y ≡ 2 * lines + 2 → x ≤ 2 * lines + 5 → x ≤ y + 3
    enough x y lines e h = omega arith

-- a later clock leaves less to do
pub later_weighs : (u : lock.Thread) (clock : ℕ) (stuck : Bool) (lines : ℕ) → u.clock ≤ clock
    → weight_at (record u { clock = clock }) stuck lines ≤ weight_at u stuck lines
unfolding weight_at load
later_weighs u clock stuck lines later = less u.clock clock (left_at u.phase stuck lines) later
  where
    less : (a b left : ℕ) → a ≤ b → 4 * (2 ^ 62 - b) + left ≤ 4 * (2 ^ 62 - a) + left
    less a b left h = omega arith

-- ## All threads

abbrev weight_of : List Thread → List Player → ℕ → ℕ
weight_of ts ps k = weight (get_or ts k no_thread) (get_or ps k no_player)

-- as many threads as players, before and after
abbrev SameSeats : List Thread → List Player → List Thread → List Player → Type 0
SameSeats ts ps us qs = (length us ≡ length ts) × (length ps ≡ length ts) × (length qs ≡ length ts)

total_same : (ts us : List Thread) (ps qs : List Player) → SameSeats ts ps us qs
    → ((k : ℕ) → weight_of us qs k ≡ weight_of ts ps k) → total us qs ≡ total ts ps
total_same [] [] ps qs seats same = refl
total_same [] (u ∷ us) ps qs (a, b, c) same = cc
total_same (t ∷ ts) [] ps qs (a, b, c) same = cc
total_same (t ∷ ts) (u ∷ us) [] qs (a, b, c) same = cc
total_same (t ∷ ts) (u ∷ us) (p ∷ ps) [] (a, b, c) same = cc
total_same (t ∷ ts) (u ∷ us) (p ∷ ps) (q ∷ qs) (a, b, c) same =
    let d : length us ≡ length ts = cc in
    let e : length ps ≡ length ts = cc in
    let f : length qs ≡ length ts = cc in
    ap₂ ◌+◌ (same 0) (total_same ts us ps qs (d, e, f) (λ k. same (suc k)))

-- where all but thread i weigh the same
total_but : (ts us : List Thread) (ps qs : List Player) (i : ℕ) → SameSeats ts ps us qs → i < length ts
    → ((k : ℕ) → (i ≡ k → ⊥) → weight_of us qs k ≡ weight_of ts ps k)
    → total us qs + weight_of ts ps i ≡ total ts ps + weight_of us qs i
total_but [] us ps qs i seats inside same = absurd (omega arith)
total_but (t ∷ ts) [] ps qs i (a, b, c) inside same = cc
total_but (t ∷ ts) (u ∷ us) [] qs i (a, b, c) inside same = cc
total_but (t ∷ ts) (u ∷ us) (p ∷ ps) [] i (a, b, c) inside same = cc
total_but (t ∷ ts) (u ∷ us) (p ∷ ps) (q ∷ qs) zero (a, b, c) inside same =
    let d : length us ≡ length ts = cc in
    let e : length ps ≡ length ts = cc in
    let f : length qs ≡ length ts = cc in
    swapped (weight u q) (weight t p) (total us qs) (total ts ps)
    (total_same ts us ps qs (d, e, f) (λ k. same (suc k) (λ (x : 0 ≡ suc k). omega (arith, x))))
  where
    swapped : (a b x y : ℕ) → x ≡ y → a + x + b ≡ b + y + a
    swapped a b x y e = omega arith
total_but (t ∷ ts) (u ∷ us) (p ∷ ps) (q ∷ qs) (suc i) (a, b, c) inside same =
    let d : length us ≡ length ts = cc in
    let e : length ps ≡ length ts = cc in
    let f : length qs ≡ length ts = cc in
    carried (weight u q) (weight t p) (total us qs) (total ts ps) (weight_of ts ps i) (weight_of us qs i)
    (same 0 (λ (x : suc i ≡ 0). omega (arith, x)))
    (total_but ts us ps qs i (d, e, f) (omega arith)
    (λ k apart. same (suc k) (λ (x : suc i ≡ suc k). apart (omega (arith, x)))))
  where
    carried : (a b x y v w : ℕ) → a ≡ b → x + v ≡ y + w → a + x + v ≡ b + y + w
    carried a b x y v w e h = omega arith

pub total_falls : (ts us : List Thread) (ps qs : List Player) (i : ℕ) → SameSeats ts ps us qs → i < length ts
    → ((k : ℕ) → (i ≡ k → ⊥) → weight_of us qs k ≡ weight_of ts ps k) → weight_of us qs i < weight_of ts ps i
    → Falls true ts ps us qs
total_falls ts us ps qs i seats inside same less = lower (total us qs) (total ts ps) (weight_of us qs i)
    (weight_of ts ps i) (total_but ts us ps qs i seats inside same) less
  where
    lower : (x y a b : ℕ) → x + b ≡ y + a → a < b → x < y
    lower x y a b e h = omega arith

pub total_stays : (ts us : List Thread) (ps qs : List Player) (i : ℕ) → SameSeats ts ps us qs → i < length ts
    → ((k : ℕ) → (i ≡ k → ⊥) → weight_of us qs k ≡ weight_of ts ps k) → weight_of us qs i ≤ weight_of ts ps i
    → Falls false ts ps us qs
total_stays ts us ps qs i seats inside same less = lower (total us qs) (total ts ps) (weight_of us qs i)
    (weight_of ts ps i) (total_but ts us ps qs i seats inside same) less
  where
    lower : (x y a b : ℕ) → x + b ≡ y + a → a ≤ b → x ≤ y
    lower x y a b e h = omega arith

-- a stuck script reads no more lines
pub stuck_weighs : (u : lock.Thread) (lines most : ℕ) → u.phase ≡ Working
    → weight_at u true lines ≤ weight_at u false most
unfolding weight_at load
stuck_weighs u lines most works =
    subst (λ (p : lock.Phase). load u.clock (left_at p true lines) ≤ load u.clock (left_at p false most)) (sym works)
    (least (4 * (2 ^ 62 - u.clock)) most)
  where
    least : (x lines : ℕ) → x + 0 ≤ x + (2 * lines + 1)
    least x lines = omega arith

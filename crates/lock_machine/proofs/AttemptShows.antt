-- An attempt at the lock of the table is that of the lock machine.
use Rattle.std.proofs.Common.{◌≡◌, ℕ, ◌+◌, ◌<◌, ◌≤◌, ◌^◌, List, [], ◌∷◌, ◌++◌, length, map, set, get_or, slice_get}
use Rattle.std.proofs.Common.{Option, Some, None, Bool, true, false, sym, refl, ap, ap₂, ◌∙◌, subst, arith, ⊎_elim}
use Rattle.std.proofs.lemmas.Bool.{and_from, and_left, and_right, cases_Bool, cond-true, cond-false, le-leb}
use Rattle.std.proofs.lemmas.Bool.{leb-true, leb-false, lt-leb}
use Rattle.std.proofs.lemmas.List.{get_or-set_same, get_or_append_left, get_or_push, length-append, length-map}
use Rattle.std.proofs.lemmas.List.{length-set, map-append, set-get_or}
use Rattle.std.proofs.lemmas.Option.{get_or_from_slice_get, none-some, slice_get-get_or, slice_get_within}
use Rattle.std.specs.Prelude.{IfSome, is_some, nat_le}
use Rattle.sequential_object.specs.Locked.{LocksDoor, OutsideLocks, keeps_table, locked_object}
use Rattle.sequential_object.specs.Step.{Carried, asks, step}
use Rattle.posix_terms.specs.Calls.{Call}
use Rattle.posix_terms.specs.declared.limits.TheConstants.Limits as limit
use Rattle.posix_terms.specs.Queries.{Query}
use Rattle.posix_terms.specs.declared.transcript.Settings.{Settings}
use Rattle.posix_terms.specs.declared.transcript.HistoryRow.{HistoryRow}
use Rattle.posix_terms.specs.declared.transcript.Turn.{Turn}
use Rattle.det_mutex.specs.Attempt.{held, takes}
use Rattle.det_mutex.specs.declared.lock.DetLock.{DetLock}
use Rattle.logical_clocks.specs.TurnOrder.{has_turn}
use Rattle.lock_model.specs.CallTable.{Way, way_goes, way_keeps}
use Rattle.lock_model.specs.CallTable.Plan.{No_object, Object}
use Rattle.lock_model.specs.CallTable.Way.{Inside}
use Rattle.lock_model.specs.Held.{row_of}
use Rattle.lock_model.specs.Machine.{attempt, can_attempt, failed, granted, new_job, planned, tried, tries, wants}
use Rattle.sequential_object.specs.Numbers.{world_with}
use Rattle.lock_model.specs.RealCalls.{plan_of, real_calls, way_of}
use Rattle.sequential_object.specs.Answers.{numbered}
use Rattle.lock_model.specs.State as lock
use Rattle.lock_model.specs.State.{Job, Row, State, live_clocks, nobody, thread_of}
use Rattle.lock_model.specs.State.Phase.{WantsObject, WantsTable}
use Rattle.sequential_object.specs.Worlds.{World}
use Rattle.call_turns.specs.Store.{EndsAt, GoesOut, LocksAsStep, Stands, StartsIn, Stored, number_locked}
use Rattle.lock_machine.specs.Held.{turn_started}
use Rattle.lock_machine.specs.Events.{Grants, IfInTime, Parts, PlansTo, Tries, TriesIn, TriesLock, granted_row}
use Rattle.lock_machine.specs.Events.{in_time, later, parts}
use Rattle.lock_model.specs.Rows.{shown}
use Rattle.lock_machine.specs.Conditions.{Conditions, setup_under}
use Rattle.lock_machine.specs.Shows.{IsGranted, IsOut, PhaseShows, Shows, ThreadShows}
use Rattle.lock_machine.specs.Whole.{Whole, thread_at}
use Rattle.lock_machine.specs.Threads.{Thread}
use Rattle.lock_machine.specs.Views.{no_thread}
use Rattle.sequential_object.specs.declared.turn_end.TurnEnd.{TurnEnd}
use Rattle.call_turns.specs.declared.patience.TurnStart.{TurnStart}
use Rattle.call_turns.specs.declared.patience.TurnStart.TheVariants as start
use Rattle.descriptor_table.specs.declared.plan.Errand.{Errand}
use Rattle.lock_machine.specs.declared.thread.Outing.{Outing}
use Rattle.lock_machine.specs.declared.thread.Phase.{Phase}
use Rattle.lock_machine.specs.declared.thread.Phase.TheVariants as phase
use Rattle.lock_machine.proofs.ShownThreads.{thread_rows, threads_set}

-- ## Attempts that can't be made

wants_none : (terms : Conditions) (s : State) (i : ℕ) → wants (thread_of s i).phase ≡ false
    → can_attempt (setup_under terms) s i ≡ false
unfolding can_attempt
wants_none terms s i h = and_left _ _ h

abbrev pub Attempted : Conditions → State → ℕ → Bool → Whole → Type 0
Attempted terms s i made z = (can_attempt (setup_under terms) s i ≡ made)
    × Shows terms z (attempt (setup_under terms) i s)

-- as an attempt at the table leaves it
abbrev pub table_tried : Whole → ℕ → Parts → Whole
table_tried w i new = record w {
  threads = set w.threads i new.thread;
  lock = new.lock;
  table = new.table;
  rows = new.rows;
}

abbrev pub table_parts : Whole → ℕ → Parts
table_parts w i = parts (thread_at w i) w.lock w.table w.rows

-- it leaves the state as it is
pub not_attempted : (terms : Conditions) (w : Whole) (s : State) (i : ℕ) → Shows terms w s
    → can_attempt (setup_under terms) s i ≡ false → Attempted terms s i false w
unfolding attempt
not_attempted terms w s i h off = let P : State → Type 0 = Shows terms w in
    (off, subst P (sym (cond-false _ _ _ off)) h)

pub attempted_no : (terms : Conditions) (w : Whole) (s : State) (i : ℕ) → Shows terms w s
    → can_attempt (setup_under terms) s i ≡ false
    → Attempted terms s i false (record w { threads = set w.threads i (thread_at w i) })
attempted_no terms w s i h off =
    let P : List Thread → Type 0 = λ ts. Attempted terms s i false (record w { threads = ts }) in
    subst P (sym (set-get_or w.threads i no_thread)) (not_attempted terms w s i h off)

-- the attempt leaves this state, in which the thread's clock is this
pub attempted_yes : (terms : Conditions) (s z : State) (i : ℕ) (v : Whole) → wants (thread_of s i).phase ≡ true
    → has_turn (live_clocks s) i ≡ true → tried (setup_under terms) s i ≡ z → (thread_of z i).clock ≤ 2 ^ 62
    → Shows terms v z
    → Attempted terms s i true v
unfolding attempt can_attempt
attempted_yes terms s z i v wanting turn is room shows =
    let setup = setup_under terms in
    let fits : nat_le (thread_of (tried setup s i) i).clock (2 ^ 62) ≡ true =
    ap (λ (x : State). nat_le (thread_of x i).clock (2 ^ 62)) is ∙ le-leb (thread_of z i).clock (2 ^ 62) room in
    let can : can_attempt setup s i ≡ true = and_from _ _ wanting (and_from _ _ turn fits) in
    let P : State → Type 0 = Shows terms v in
    (can, subst P (sym (cond-true _ _ _ can ∙ is)) shows)

-- the attempt would leave a clock past the limit
pub attempted_full : (terms : Conditions) (s : State) (i n : ℕ)
    → (thread_of (tried (setup_under terms) s i) i).clock ≡ n → 2 ^ 62 < n → can_attempt (setup_under terms) s i ≡ false
unfolding can_attempt
attempted_full terms s i n clock past =
    let no_room : nat_le (thread_of (tried (setup_under terms) s i) i).clock (2 ^ 62) ≡ false =
    ap (λ (c : ℕ). nat_le c (2 ^ 62)) clock ∙ lt-leb n (2 ^ 62) past in
    and_right _ _ (and_right _ _ no_room)

-- ## Grants

slice_get-more : {A : Type 0} (xs ys : List A) (n : ℕ) (x : A) → slice_get xs n ≡ Some x
    → slice_get (xs ++ ys) n ≡ Some x
slice_get-more xs ys n x h =
    let inside : n < length xs = slice_get_within xs n x h in
    let longer : n < length (xs ++ ys) = subst (λ (k : ℕ). n < k) (sym (length-append xs ys)) (omega arith) in
    slice_get-get_or (xs ++ ys) n x longer
    ∙ ap Some (get_or_append_left xs ys x n inside ∙ get_or_from_slice_get xs n x x h)

-- what a call takes its object's lock for
abbrev pub way_here : State → Call → Carried → Way
way_here s call carried = way_of (is_some (asks s.world.object call carried)) (keeps_table call)

unfoldable pub job_of : State → Turn → Call → Carried → Way → Option ℕ → Job
job_of s turn call carried way object = new_job call carried turn (plan_of way object) s.world

-- the rows once it is granted
abbrev pub rows_with : State → Job → List Row
rows_with s job = s.rows ++ row_of job ∷ []

-- the world then: where the call keeps the table, its change is still to come
abbrev pub world_left : Settings → State → Call → Carried → Bool → World
world_left settings s call carried true = s.world
world_left settings s call carried false = world_with s.world (step settings s.world.object call None carried).after

placed : (terms : Conditions) (w : Whole) (s : State) (job : Job) → Shows terms w s
    → slice_get (rows_with s job) (length w.rows) ≡ Some (row_of job)
placed terms w s job h =
    let last : length s.rows ≡ length w.rows = sym (length-map s.rows shown) ∙ ap length h.rows in
    let one_more : length (rows_with s job) ≡ length w.rows + 1 = length-append s.rows (row_of job ∷ [])
    ∙ ap (λ (n : ℕ). n + 1) last in
    slice_get-get_or (rows_with s job) (length w.rows) (row_of job)
    (subst (λ (n : ℕ). length w.rows < n) (sym one_more) (omega arith))
    ∙ ap Some (get_or_push s.rows (row_of job) (row_of job) (length w.rows) last)

-- what a grant makes of the thread, of the world and of the rows
pub record Granted_now (terms : Conditions) (w : Whole) (s : State) (turn : Turn) (call : Call) (carried : Carried)
    (way : Way) (object : Option ℕ) (cost : ℕ) (new : Parts) : Type 0 where
  pub thread : ThreadShows terms turn.thread (rows_with s (job_of s turn call carried way object)) new.thread
      (granted (thread_of s turn.thread) ((thread_of s turn.thread).clock + cost)
      (job_of s turn call carried way object) (way_goes way))
  pub world : Stands new.table (world_left terms.settings s call carried (way_keeps way))
  pub rows : map shown (rows_with s (job_of s turn call carried way object)) ≡ new.rows

rows_granted : (terms : Conditions) (w : Whole) (s : State) (turn : Turn) (call : Call) (carried : Carried) (way : Way)
    (object : Option ℕ) (rows : List HistoryRow) → Shows terms w s → rows ≡ w.rows ++ granted_row turn call ∷ []
    → map shown (rows_with s (job_of s turn call carried way object)) ≡ rows
unfolding job_of
rows_granted terms w s turn call carried way object rows h is =
    map-append shown s.rows (row_of (job_of s turn call carried way object) ∷ [])
    ∙ ap (λ (rs : List HistoryRow). rs ++ granted_row turn call ∷ []) h.rows ∙ sym is

-- the thread, so much later
abbrev late_thread : Whole → ℕ → ℕ → Thread
late_thread w i cost = record (thread_at w i) { clock = (thread_at w i).clock + cost }

-- a turn that asks nothing outside
ended_shows : (terms : Conditions) (w : Whole) (s : State) (turn : Turn) (call : Call) (carried : Carried)
    (object : Option ℕ) (cost : ℕ) (new : Parts) (e : TurnEnd) → Shows terms w s
    → IfSome object (λ n. n < limit.OBJECTS) → (thread_at w turn.thread).clock + cost ≤ 2 ^ 62
    → EndsAt terms.settings s.world carried call e new.table
    → new.thread ≡ turn_started (length w.rows) object call carried (start.Ended e) (late_thread w turn.thread cost)
    → new.rows ≡ w.rows ++ granted_row turn call ∷ []
    → Granted_now terms w s turn call carried Inside object cost new
unfolding job_of
ended_shows terms w s turn call carried object cost new e h few room done thread rows =
    let i = turn.thread in
    let t = thread_at w i in
    let u = thread_of s i in
    let job = job_of s turn call carried Inside object in
    let x : Thread = turn_started (length w.rows) object call carried (start.Ended e) (late_thread w i cost) in
    let y : lock.Thread = granted u (u.clock + cost) job false in
    let is_granted : IsGranted terms i (rows_with s job) (length w.rows) object e job =
    record { plan = refl; in_range = few; thread = refl; answers = done.answer_is; row = placed terms w s job h } in
    let here : ThreadShows terms i (rows_with s job) x y =
    record {
      clock = ap (λ (c : ℕ). c + cost) (h.threads i).clock;
      in_time = room;
      asked = (h.threads i).asked;
      came = (h.threads i).came;
      phase = (job, (refl, is_granted));
    } in
    let P : Thread → Type 0 = λ v. ThreadShows terms i (rows_with s job) v y in
    record {
      thread = subst P (sym thread) here;
      world = done.change;
      rows = rows_granted terms w s turn call carried Inside object new.rows h rows;
    }

goes_out : (keeps : Bool) → way_goes (way_of true keeps) ≡ true
goes_out true = refl
goes_out false = refl

keeps_out : (keeps : Bool) → way_keeps (way_of true keeps) ≡ keeps
keeps_out true = refl
keeps_out false = refl

-- a turn that goes outside, with the lock of an object
out_shows : (terms : Conditions) (w : Whole) (s : State) (turn : Turn) (call : Call) (carried : Carried) (n cost : ℕ)
    (new : Parts) (errand : Errand) → Shows terms w s
    → n < limit.OBJECTS → (thread_at w turn.thread).clock + cost ≤ 2 ^ 62
    → GoesOut terms.settings s.world carried w.table call errand new.table
    → new.thread ≡ turn_started (length w.rows) (Some n) call carried (start.GoesOut errand)
    (late_thread w turn.thread cost) → new.rows ≡ w.rows ++ granted_row turn call ∷ []
    → Granted_now terms w s turn call carried (way_of true (keeps_table call)) (Some n) cost new
unfolding job_of
out_shows terms w s turn call carried n cost new errand h few room done thread rows =
    let i = turn.thread in
    let u = thread_of s i in
    let way = way_of true (keeps_table call) in
    let job = job_of s turn call carried way (Some n) in
    let o : Outing = record {
      row = length w.rows;
      object = Some n;
      carried = carried;
      errand = errand;
      keeps_table = keeps_table call;
    } in
    let x : Thread = turn_started (length w.rows) (Some n) call carried (start.GoesOut errand) (late_thread w i cost) in
    let y : lock.Thread = granted u (u.clock + cost) job true in
    let is_out : IsOut terms i (rows_with s job) o job =
    record {
      object = n;
      object_is = refl;
      in_range = few;
      plan = refl;
      thread = refl;
      carried = refl;
      asks_is = done.request;
      door = done.door;
      waits = done.waits;
      keeps = refl;
      ends = done.ends;
      row = placed terms w s job h;
    } in
    let here : ThreadShows terms i (rows_with s job) x y =
    record {
      clock = ap (λ (c : ℕ). c + cost) (h.threads i).clock;
      in_time = room;
      asked = (h.threads i).asked;
      came = (h.threads i).came;
      phase = (job, (refl, is_out));
    } in
    let P : Thread → Type 0 = λ v. ThreadShows terms i (rows_with s job) v y in
    let Q : Bool → Type 0 = λ b. ThreadShows terms i (rows_with s job) new.thread (granted u (u.clock + cost) job b) in
    let R : Bool → Type 0 = λ b. Stands new.table (world_left terms.settings s call carried b) in
    record {
      thread = subst Q (sym (goes_out (keeps_table call))) (subst P (sym thread) here);
      world = subst R (sym (keeps_out (keeps_table call))) (world_out (keeps_table call) refl);
      rows = rows_granted terms w s turn call carried way (Some n) new.rows h rows;
    }
  where
    world_out : (keeps : Bool) → keeps_table call ≡ keeps
        → Stands new.table (world_left terms.settings s call carried keeps)
    world_out true is = subst (λ (k : Stored). Stands k s.world) (sym (done.kept is)) h.world
    world_out false is = done.change is

started_shows : (terms : Conditions) (w : Whole) (s : State) (turn : Turn) (call : Call) (carried : Carried) (way : Way)
    (object : Option ℕ) (cost : ℕ) (new : Parts) (x : TurnStart) → Shows terms w s
    → IfSome object (λ n. n < limit.OBJECTS) → (thread_at w turn.thread).clock + cost ≤ 2 ^ 62
    → way ≡ way_here s call carried → (object ≡ None → asks s.world.object call carried ≡ None)
    → StartsIn terms.settings s.world carried w.table call x new.table
    → new.thread ≡ turn_started (length w.rows) object call carried x (late_thread w turn.thread cost)
    → new.rows ≡ w.rows ++ granted_row turn call ∷ [] → Granted_now terms w s turn call carried way object cost new
started_shows terms w s turn call carried way object cost new (start.Ended e) h few room way_is alone done thread rows =
    let inside : way ≡ Inside = way_is
    ∙ ap (λ (o : Option Query). way_of (is_some o) (keeps_table call)) done.request in
    let P : Way → Type 0 = λ y. Granted_now terms w s turn call carried y object cost new in
    subst P (sym inside) (ended_shows terms w s turn call carried object cost new e h few room done thread rows)
started_shows terms w s turn call carried way (Some n) cost new (start.GoesOut errand) h few room way_is alone done
    thread rows =
    let out : way ≡ way_of true (keeps_table call) = way_is
    ∙ ap (λ (o : Option Query). way_of (is_some o) (keeps_table call)) done.request in
    let P : Way → Type 0 = λ y. Granted_now terms w s turn call carried y (Some n) cost new in
    subst P (sym out) (out_shows terms w s turn call carried n cost new errand h few room done thread rows)
started_shows terms w s turn call carried way None cost new (start.GoesOut errand) h few room way_is alone done thread
    rows = absurd (none-some _ (sym (alone refl) ∙ done.request))

-- of a call that takes its object's lock in this way, or none and asks nothing outside
pub grant_shows : (terms : Conditions) (w : Whole) (s : State) (turn : Turn) (call : Call) (carried : Carried)
    (way : Way) (object : Option ℕ) (cost : ℕ) (l : DetLock) (new : Parts) → Shows terms w s
    → IfSome object (λ n. n < limit.OBJECTS) → (thread_at w turn.thread).clock + cost ≤ 2 ^ 62
    → way ≡ way_here s call carried → (object ≡ None → asks s.world.object call carried ≡ None)
    → Grants w.settings.patience turn call carried object (record (later (table_parts w turn.thread) cost) { lock = l })
    new → Granted_now terms w s turn call carried way object cost new
grant_shows terms w s turn call carried way object cost l new h few room way_is alone g =
    started_shows terms w s turn call carried way object cost new g.start h few room way_is alone
    (g.performs terms.settings s.world (ap (λ (x : Settings). x.patience) h.settings) h.world) g.thread g.rows

-- the other threads see only that there is a row more
pub others_granted : (terms : Conditions) (w : Whole) (s : State) (i : ℕ) (job : Job) (t : Thread) (u : lock.Thread)
    → i < length w.threads → Shows terms w s → ThreadShows terms i (rows_with s job) t u
    → (k : ℕ) → ThreadShows terms k (rows_with s job) (get_or (set w.threads i t) k no_thread)
    (get_or (set s.threads i u) k nobody)
others_granted terms w s i job t u inside h now =
    threads_set terms (rows_with s job) w.threads s.threads i t u inside h.count now
    (λ k apart. thread_rows terms k s.rows (rows_with s job) (get_or w.threads k no_thread) (thread_of s k)
    (λ place other mine at. slice_get-more s.rows (row_of job ∷ []) place (row_of other) at) (h.threads k))

-- ## Attempts that fail, and attempts that succeed

-- a thread that wants the table, and has the turn
record Trying (terms : Conditions) (w : Whole) (s : State) (i : ℕ) (call : Call) (carried : Carried) : Type 0 where
  inside : i < length w.threads
  shows : Shows terms w s
  turn : has_turn (live_clocks s) i ≡ true
  wanting : (thread_at w i).phase ≡ phase.WantsTable call carried
  phase : (thread_of s i).phase ≡ WantsTable call carried

abbrev turn_of : State → ℕ → Turn
turn_of s i = record { clock = (thread_of s i).clock; thread = i }

tried_took : (terms : Conditions) (s : State) (i : ℕ) (call : Call) (carried : Carried)
    → (thread_of s i).phase ≡ WantsTable call carried → takes s.table (thread_of s i).clock ≡ true
    → tried (setup_under terms) s i ≡ planned (real_calls terms.settings) s i (thread_of s i) call carried (turn_of s i)
    (plan_of (way_here s call carried) (numbered s.world (locked_object s.world.object call carried))) s.world
tried_took terms s i call carried e h = ap (tries (real_calls terms.settings) s i (thread_of s i)) e ∙ cond-true _ _ _ h

tried_failed : (terms : Conditions) (s : State) (i : ℕ) (call : Call) (carried : Carried)
    → (thread_of s i).phase ≡ WantsTable call carried → takes s.table (thread_of s i).clock ≡ false
    → tried (setup_under terms) s i ≡ failed s i (thread_of s i)
tried_failed terms s i call carried e h = ap (tries (real_calls terms.settings) s i (thread_of s i)) e
    ∙ cond-false _ _ _ h

planned_by : (terms : Conditions) (s : State) (i : ℕ) (call : Call) (carried : Carried) (o : Option ℕ)
    → (thread_of s i).phase ≡ WantsTable call carried → takes s.table (thread_of s i).clock ≡ true
    → numbered s.world (locked_object s.world.object call carried) ≡ o
    → tried (setup_under terms) s i ≡ planned (real_calls terms.settings) s i (thread_of s i) call carried (turn_of s i)
    (plan_of (way_here s call carried) o) s.world
planned_by terms s i call carried o e h is = tried_took terms s i call carried e h
    ∙ ap (λ (x : Option ℕ). planned (real_calls terms.settings) s i (thread_of s i) call carried (turn_of s i)
    (plan_of (way_here s call carried) x) s.world) is

pub within_threads : (terms : Conditions) (w : Whole) (s : State) (i : ℕ) → i < length w.threads → Shows terms w s
    → i < length s.threads
within_threads terms w s i inside h = subst (λ (n : ℕ). i < n) (sym h.count) inside

-- a thread that has failed stands where it stood, 1 later
pub fail_shows : (terms : Conditions) (w : Whole) (s : State) (i : ℕ) → i < length w.threads → Shows terms w s
    → (thread_at w i).clock + 1 ≤ 2 ^ 62
    → ((rows : List Row) → PhaseShows terms i rows (thread_at w i) (thread_of s i) (thread_at w i).phase
    → PhaseShows terms i rows (record (thread_at w i) { clock = (thread_at w i).clock + 1 })
    (record (thread_of s i) { clock = (thread_of s i).clock + 1 }) (thread_at w i).phase)
    → Shows terms (record w {
      threads = set w.threads i (record (thread_at w i) { clock = (thread_at w i).clock + 1 });
    }) (failed s i (thread_of s i))
fail_shows terms w s i inside h room phase_on =
    let t = thread_at w i in
    let u = thread_of s i in
    let x : Thread = record t { clock = t.clock + 1 } in
    let y : lock.Thread = record u { clock = u.clock + 1 } in
    let now : ThreadShows terms i s.rows x y =
    record {
      clock = ap (λ (c : ℕ). c + 1) (h.threads i).clock;
      in_time = room;
      asked = (h.threads i).asked;
      came = (h.threads i).came;
      phase = phase_on s.rows (h.threads i).phase;
    } in
    record {
      settings = h.settings;
      count = length-set s.threads i y ∙ h.count ∙ sym (length-set w.threads i x);
      threads = threads_set terms s.rows w.threads s.threads i x y inside h.count now (λ k apart. h.threads k);
      table = h.table;
      objects = h.objects;
      object_count = h.object_count;
      world = h.world;
      rows = h.rows;
    }

-- the clock of the thread in a state in which it was set to this
pub clock_set : (terms : Conditions) (w : Whole) (s : State) (i : ℕ) (y : lock.Thread) → i < length w.threads
    → Shows terms w s → (let v : lock.Thread = get_or (set s.threads i y) i nobody in v.clock) ≡ y.clock
clock_set terms w s i y inside h =
    ap (λ (v : lock.Thread). v.clock) (get_or-set_same s.threads i y nobody (within_threads terms w s i inside h))

-- with so much more, it is within the limit as the clock that it stands for is
pub clock_fits : (terms : Conditions) (w : Whole) (s : State) (i cost : ℕ) → Shows terms w s
    → (thread_at w i).clock + cost ≤ 2 ^ 62 → (thread_of s i).clock + cost ≤ 2 ^ 62
clock_fits terms w s i cost h room = subst (λ (c : ℕ). c + cost ≤ 2 ^ 62) (sym (h.threads i).clock) room

attempt_fails : (terms : Conditions) (w : Whole) (s : State) (i : ℕ) (call : Call) (carried : Carried)
    → Trying terms w s i call carried → (thread_at w i).clock + 1 ≤ 2 ^ 62 → takes s.table (thread_of s i).clock ≡ false
    → Attempted terms s i true (table_tried w i (later (table_parts w i) 1))
attempt_fails terms w s i call carried a room shut =
    let u = thread_of s i in
    let t = thread_at w i in
    let on : (rows : List Row) → PhaseShows terms i rows t u t.phase
    → PhaseShows terms i rows (record t { clock = t.clock + 1 }) (record u { clock = u.clock + 1 }) t.phase =
    λ rows h.
    let P : Phase → Type 0 = λ p. PhaseShows terms i rows (record t { clock = t.clock + 1 })
    (record u { clock = u.clock + 1 }) p in subst P (sym a.wanting) a.phase in
    attempted_yes terms s (failed s i u) i (table_tried w i (later (table_parts w i) 1)) (ap wants a.phase) a.turn
    (tried_failed terms s i call carried a.phase shut)
    (subst (λ (c : ℕ). c ≤ 2 ^ 62) (sym (clock_set terms w s i (record u { clock = u.clock + 1 }) a.inside a.shows))
    (clock_fits terms w s i 1 a.shows room))
    (fail_shows terms w s i a.inside a.shows room on)

-- a call that takes no object asks nothing outside
asks_none : OutsideLocks → LocksAsStep → (h : Stored) (w : World) (call : Call) (carried : Carried) → Stands h w
    → number_locked h call carried ≡ None → asks w.object call carried ≡ None
asks_none outside numbers h w call carried stands none =
    none_asked (locked_object w.object call carried) (asks w.object call carried) (sym (numbers h w call carried stands)
    ∙ none) (outside w.object call carried)
  where
    none_asked : (o : Option ℕ) (r : Option Query) → numbered w o ≡ None
        → (is_some r ≡ true → LocksDoor w.object (keeps_table call) o) → r ≡ None
    none_asked o None e locks = refl
    none_asked None (Some r) e locks = absurd (locks refl)
    none_asked (Some n) (Some r) e locks = absurd (none-some _ (sym e))

-- the call is granted at once
attempt_takes : OutsideLocks → LocksAsStep
    → (terms : Conditions) (w : Whole) (s : State) (i : ℕ) (call : Call) (carried : Carried) (new : Parts)
    → Trying terms w s i call carried → (thread_at w i).clock + 1 ≤ 2 ^ 62 → takes s.table (thread_of s i).clock ≡ true
    → number_locked w.table call carried ≡ None
    → Grants w.settings.patience (turn_of s i) call carried None
    (record (later (table_parts w i) 1) { lock = held i w.lock }) new
    → Attempted terms s i true (table_tried w i new)
unfolding job_of
attempt_takes outside numbers terms w s i call carried new a room free none g =
    let u = thread_of s i in
    let job = job_of s (turn_of s i) call carried Inside None in
    let y : lock.Thread = granted u (u.clock + 1) job false in
    let z : State = planned (real_calls terms.settings) s i u call carried (turn_of s i) No_object s.world in
    let asks_no = asks_none outside numbers w.table s.world call carried a.shows.world none in
    let inside : Inside ≡ way_here s call carried =
    sym (ap (λ (o : Option Query). way_of (is_some o) (keeps_table call)) asks_no) in
    let now = grant_shows terms w s (turn_of s i) call carried Inside None 1 (held i w.lock) new a.shows tt room inside
    (λ e. asks_no) g in
    attempted_yes terms s z i (table_tried w i new) (ap wants a.phase) a.turn
    (planned_by terms s i call carried None a.phase free (sym (numbers w.table s.world call carried a.shows.world)
    ∙ none))
    (subst (λ (c : ℕ). c ≤ 2 ^ 62) (sym (clock_set terms w s i y a.inside a.shows))
    (clock_fits terms w s i 1 a.shows room))
    (record {
      settings = a.shows.settings;
      count = length-set s.threads i y ∙ a.shows.count ∙ sym (length-set w.threads i new.thread);
      threads = others_granted terms w s i job new.thread y a.inside a.shows now.thread;
      table = ap (held i) a.shows.table ∙ sym g.lock;
      objects = a.shows.objects;
      object_count = a.shows.object_count;
      world = now.world;
      rows = now.rows;
    })

-- the call wants an object
attempt_plans : LocksAsStep → (terms : Conditions) (w : Whole) (s : State) (i n : ℕ) (call : Call) (carried : Carried)
    → Trying terms w s i call carried → (thread_at w i).clock + 1 ≤ 2 ^ 62 → takes s.table (thread_of s i).clock ≡ true
    → number_locked w.table call carried ≡ Some n
    → n < limit.OBJECTS
    → Attempted terms s i true (table_tried w i
    (parts (record (thread_at w i) {
      phase = phase.WantsObject call carried (thread_of s i).clock n;
      clock = (thread_at w i).clock + 1;
    }) (held i w.lock) w.table w.rows))
attempt_plans numbers terms w s i n call carried a room free is few =
    let t = thread_at w i in
    let u = thread_of s i in
    let h = a.shows in
    let x : Thread = record t { phase = phase.WantsObject call carried u.clock n; clock = t.clock + 1 } in
    let way = way_here s call carried in
    let y : lock.Thread = record u { phase = WantsObject call carried u.clock n way; clock = u.clock + 1 } in
    let now : ThreadShows terms i s.rows x y =
    record {
      clock = ap (λ (c : ℕ). c + 1) (h.threads i).clock;
      in_time = room;
      asked = (h.threads i).asked;
      came = (h.threads i).came;
      phase = (way, (refl, few));
    } in
    let z : State = planned (real_calls terms.settings) s i u call carried (turn_of s i) (Object n way) s.world in
    attempted_yes terms s z i (table_tried w i (parts x (held i w.lock) w.table w.rows)) (ap wants a.phase) a.turn
    (planned_by terms s i call carried (Some n) a.phase free (sym (numbers w.table s.world call carried h.world) ∙ is))
    (subst (λ (c : ℕ). c ≤ 2 ^ 62) (sym (clock_set terms w s i y a.inside h)) (clock_fits terms w s i 1 h room))
    (record {
      settings = h.settings;
      count = length-set s.threads i y ∙ h.count ∙ sym (length-set w.threads i x);
      threads = threads_set terms s.rows w.threads s.threads i x y a.inside h.count now (λ k apart. h.threads k);
      table = ap (held i) h.table;
      objects = h.objects;
      object_count = h.object_count;
      world = h.world;
      rows = h.rows;
    })

-- ## By the phase of the thread

planned_clock : (terms : Conditions) (w : Whole) (s : State) (i : ℕ) (call : Call) (carried : Carried) (o : Option ℕ)
    → i < length w.threads → Shows terms w s
    → (thread_of (planned (real_calls terms.settings) s i (thread_of s i) call carried (turn_of s i)
    (plan_of (way_here s call carried) o) s.world) i).clock ≡ (thread_of s i).clock + 1
planned_clock terms w s i call carried None inside h =
    clock_set terms w s i (granted (thread_of s i) ((thread_of s i).clock + 1)
    (new_job call carried (turn_of s i) No_object s.world) false) inside h
planned_clock terms w s i call carried (Some n) inside h =
    clock_set terms w s i (record (thread_of s i) {
      phase =
          WantsObject call carried (thread_of s i).clock n (way_here s call carried);
      clock = (thread_of s i).clock + 1;
    })
    inside h

attempt_full : (terms : Conditions) (w : Whole) (s : State) (i : ℕ) (call : Call) (carried : Carried)
    → Trying terms w s i call carried → 2 ^ 62 < (thread_at w i).clock + 1 → can_attempt (setup_under terms) s i ≡ false
attempt_full terms w s i call carried a full =
    let u = thread_of s i in
    let h = a.shows.threads i in
    let past : 2 ^ 62 < u.clock + 1 = subst (λ (c : ℕ). 2 ^ 62 < c + 1) (sym h.clock) full in
    attempted_full terms s i (u.clock + 1)
    (⊎_elim
    (λ (free : takes s.table u.clock ≡ true).
    ap (λ (x : State). (thread_of x i).clock) (tried_took terms s i call carried a.phase free)
    ∙ planned_clock terms w s i call carried (numbered s.world (locked_object s.world.object call carried)) a.inside
    a.shows)
    (λ (shut : takes s.table u.clock ≡ false).
    ap (λ (x : State). (thread_of x i).clock) (tried_failed terms s i call carried a.phase shut)
    ∙ clock_set terms w s i (record u { clock = u.clock + 1 }) a.inside a.shows)
    (cases_Bool (takes s.table u.clock)))
    past

plan_tried : OutsideLocks → LocksAsStep
    → (terms : Conditions) (w : Whole) (s : State) (i : ℕ) (call : Call) (carried : Carried) (new : Parts)
    (o : Option ℕ) → Trying terms w s i call carried → (thread_at w i).clock + 1 ≤ 2 ^ 62
    → takes s.table (thread_of s i).clock ≡ true → number_locked w.table call carried ≡ o
    → PlansTo w.settings.patience o (turn_of s i) call carried
    (record (later (table_parts w i) 1) { lock = held i w.lock }) new
    → Attempted terms s i true (table_tried w i new)
plan_tried outside numbers terms w s i call carried new None a room free is g =
    attempt_takes outside numbers terms w s i call carried new a room free is g
plan_tried outside numbers terms w s i call carried new (Some n) a room free is (few, e) =
    let P : Parts → Type 0 = λ p. Attempted terms s i true (table_tried w i p) in
    subst P (sym e) (attempt_plans numbers terms w s i n call carried a room free is few)

lock_tried : OutsideLocks → LocksAsStep
    → (terms : Conditions) (w : Whole) (s : State) (i : ℕ) (call : Call) (carried : Carried) (new : Parts) (b : Bool)
    → Trying terms w s i call carried → (thread_at w i).clock + 1 ≤ 2 ^ 62 → takes w.lock (thread_at w i).clock ≡ b
    → TriesLock w.settings.patience b i call carried (table_parts w i) new
    → Attempted terms s i true (table_tried w i new)
lock_tried outside numbers terms w s i call carried new true a room free g =
    let P : ℕ → Type 0 = λ clock. PlansTo w.settings.patience (number_locked w.table call carried)
    (record { clock = clock; thread = i }) call carried
    (record (later (table_parts w i) 1) { lock = held i w.lock }) new in
    plan_tried outside numbers terms w s i call carried new (number_locked w.table call carried) a room
    (ap₂ takes a.shows.table (a.shows.threads i).clock ∙ free) refl (subst P (sym (a.shows.threads i).clock) g)
lock_tried outside numbers terms w s i call carried new false a room shut g =
    let P : Parts → Type 0 = λ p. Attempted terms s i true (table_tried w i p) in
    subst P (sym g) (attempt_fails terms w s i call carried a room (ap₂ takes a.shows.table (a.shows.threads i).clock
    ∙ shut))

not_made : (terms : Conditions) (w : Whole) (s : State) (i : ℕ) (made : Bool) (new : Parts) → Shows terms w s
    → can_attempt (setup_under terms) s i ≡ false
    → (made ≡ false) × (new ≡ table_parts w i) → Attempted terms s i made (table_tried w i new)
not_made terms w s i made new h off g =
    let P : Bool → Type 0 = λ b. Attempted terms s i b (table_tried w i new) in
    let Q : Parts → Type 0 = λ p. Attempted terms s i false (table_tried w i p) in
    subst P (sym g.0) (subst Q (sym g.1) (attempted_no terms w s i h off))

time_tried : OutsideLocks → LocksAsStep
    → (terms : Conditions) (w : Whole) (s : State) (i : ℕ) (call : Call) (carried : Carried) (made : Bool) (new : Parts)
    (b : Bool) → Trying terms w s i call carried → in_time (table_parts w i) 1 ≡ b
    → IfInTime b made
    (TriesLock w.settings.patience (takes w.lock (thread_at w i).clock) i call carried (table_parts w i) new)
    (new ≡ table_parts w i)
    → Attempted terms s i made (table_tried w i new)
time_tried outside numbers terms w s i call carried made new true a room h =
    let P : Bool → Type 0 = λ b. Attempted terms s i b (table_tried w i new) in
    subst P (sym h.0) (lock_tried outside numbers terms w s i call carried new (takes w.lock (thread_at w i).clock) a
    (leb-true ((thread_at w i).clock + 1) (2 ^ 62) room) refl h.1)
time_tried outside numbers terms w s i call carried made new false a full h =
    not_made terms w s i made new a.shows
    (attempt_full terms w s i call carried a (leb-false ((thread_at w i).clock + 1) (2 ^ 62) full)) h

-- only a thread that wants the table makes this attempt
pub attempt_whole : OutsideLocks → LocksAsStep
    → (terms : Conditions) (w : Whole) (s : State) (i : ℕ) (call : Call) (carried : Carried) (made : Bool) (new : Parts)
    → i < length w.threads → Shows terms w s → has_turn (live_clocks s) i ≡ true
    → (thread_at w i).phase ≡ phase.WantsTable call carried
    → Tries w.settings.patience made i (table_parts w i) new → Attempted terms s i made (table_tried w i new)
attempt_whole outside numbers terms w s i call carried made new inside h turn is tries =
    let P : Phase → Type 0 = λ p. PhaseShows terms i s.rows (thread_at w i) (thread_of s i) p in
    let Q : Phase → Type 0 = λ p. TriesIn w.settings.patience p made i (table_parts w i) new in
    let g = subst P is (h.threads i).phase in
    time_tried outside numbers terms w s i call carried made new (in_time (table_parts w i) 1)
    (record { inside = inside; shows = h; turn = turn; wanting = is; phase = g }) refl (subst Q is tries)

-- in a phase that wants nothing there is no attempt
pub attempt_idle : (terms : Conditions) (w : Whole) (s : State) (i : ℕ) → Shows terms w s
    → wants (thread_of s i).phase ≡ false → (can_attempt (setup_under terms) s i ≡ false)
    × Shows terms w (attempt (setup_under terms) i s)
attempt_idle terms w s i h idle = not_attempted terms w s i h (wants_none terms s i idle)

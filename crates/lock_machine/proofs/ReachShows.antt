-- An attempt at the lock of an object is that of the lock machine.
use Rattle.std.proofs.Common.{◌≡◌, ℕ, ◌+◌, ◌<◌, ◌≤◌, ◌^◌, List, length, set, get_or, Option, Some, None, Bool, true}
use Rattle.std.proofs.Common.{false, ◌&&◌, sym, refl, ap, ap₂, ◌∙◌, subst}
use Rattle.std.proofs.lemmas.Bool.{cond-true, cond-false, false≢true, leb-true, leb-false}
use Rattle.std.proofs.lemmas.List.{length-set, set-get_or}
use Rattle.std.proofs.lemmas.Option.{none-some}
use Rattle.std.specs.Prelude.{is_some}
use Rattle.sequential_object.specs.Locked.{KeepsOutside, keeps_table, locked_object}
use Rattle.sequential_object.specs.Step.{Carried, asks}
use Rattle.posix_terms.specs.Calls.{Call}
use Rattle.posix_terms.specs.declared.limits.TheConstants.Limits as limit
use Rattle.posix_terms.specs.declared.transcript.Turn.{Turn}
use Rattle.det_mutex.specs.Attempt.{freed, held, new_lock, takes}
use Rattle.det_mutex.specs.declared.lock.DetLock.{DetLock}
use Rattle.logical_clocks.specs.TurnOrder.{has_turn}
use Rattle.lock_model.specs.CallTable.{Way, way_goes, way_keeps}
use Rattle.lock_model.specs.CallTable.Plan.{Object}
use Rattle.lock_model.specs.CallTable.Way.{Inside, Door, Keeps_table}
use Rattle.lock_model.specs.Held.{HavePlans}
use Rattle.lock_model.specs.Machine.{can_attempt, failed, granted, is_number, new_job, reached, reached_freeing}
use Rattle.lock_model.specs.Machine.{reached_keeping, tried, tries, wants}
use Rattle.lock_model.specs.RealCalls.{plan_of, real_calls, way_of}
use Rattle.sequential_object.specs.Answers.{numbered}
use Rattle.lock_model.specs.State as lock
use Rattle.lock_model.specs.State.{State, live_clocks, object_of, thread_of}
use Rattle.lock_model.specs.State.Phase.{WantsObject}
use Rattle.sequential_object.specs.Worlds.{World}
use Rattle.lock_machine.specs.Events.{Grants, IfInTime, ObjectWanted, Parts, Reaches, ReachesIn, TriesObject}
use Rattle.lock_machine.specs.Events.{in_time, later}
use Rattle.lock_machine.specs.Events.{object_cost, object_reached, takes_object}
use Rattle.lock_machine.specs.Conditions.{Conditions, setup_under}
use Rattle.lock_machine.specs.Shows.{PhaseShows, Shows}
use Rattle.lock_machine.specs.Whole.{Whole, thread_at}
use Rattle.lock_machine.specs.Threads.{Thread}
use Rattle.lock_machine.specs.declared.thread.Phase.{Phase}
use Rattle.lock_machine.specs.declared.thread.Phase.TheVariants as phase
use Rattle.lock_machine.proofs.AttemptShows.{Attempted, attempted_full, attempted_no, attempted_yes, clock_fits}
use Rattle.lock_machine.proofs.AttemptShows.{clock_set, fail_shows, grant_shows, job_of, others_granted, rows_with}
use Rattle.lock_machine.proofs.AttemptShows.{table_parts, way_here, world_left}

-- as an attempt at this object leaves it
abbrev pub object_tried : Whole → ℕ → ℕ → DetLock → Parts → Whole
object_tried w i n now new = record w {
  threads = set w.threads i new.thread;
  lock = new.lock;
  objects = set w.objects n now;
  table = new.table;
  rows = new.rows;
}

abbrev pub lock_at : Whole → ℕ → DetLock
lock_at w n = get_or w.objects n new_lock

-- a thread that wants this object, and has the turn
record Reaching (terms : Conditions) (w : Whole) (s : State) (i n clock : ℕ) (call : Call) (carried : Carried)
    (way : Way) : Type 0 where
  inside : i < length w.threads
  shows : Shows terms w s
  turn : has_turn (live_clocks s) i ≡ true
  wanting : (thread_at w i).phase ≡ phase.WantsObject call carried clock n
  phase : (thread_of s i).phase ≡ WantsObject call carried clock n way
  way_is : way ≡ way_here s call carried
  keeps : way_keeps way ≡ keeps_table call
  in_range : n < limit.OBJECTS

abbrev turn_at : ℕ → ℕ → Turn
turn_at i clock = record { clock = clock; thread = i }

-- whether it takes the object, as both see it
taken_in : State → ℕ → ℕ → Bool
taken_in s i n = is_number s.table.holder i && takes (object_of s n) (thread_of s i).clock

taken_same : (terms : Conditions) (w : Whole) (s : State) (i n : ℕ) → Shows terms w s
    → taken_in s i n ≡ takes_object i (lock_at w n) (table_parts w i)
unfolding taken_in
taken_same terms w s i n h =
    ap (λ (l : DetLock). is_number l.holder i && takes (object_of s n) (thread_of s i).clock) h.table
    ∙ ap₂ (λ (ls : List DetLock) (c : ℕ). is_number w.lock.holder i && takes (get_or ls n new_lock) c) h.objects
    (h.threads i).clock

tried_reached : (terms : Conditions) (s : State) (i n clock : ℕ) (call : Call) (carried : Carried) (way : Way)
    → (thread_of s i).phase ≡ WantsObject call carried clock n way → taken_in s i n ≡ true
    → tried (setup_under terms) s i ≡ reached (real_calls terms.settings) s i (thread_of s i) call carried
    (turn_at i clock) n way s.world
unfolding taken_in
tried_reached terms s i n clock call carried way e h = ap (tries (real_calls terms.settings) s i (thread_of s i)) e
    ∙ cond-true _ _ _ h

tried_shut : (terms : Conditions) (s : State) (i n clock : ℕ) (call : Call) (carried : Carried) (way : Way)
    → (thread_of s i).phase ≡ WantsObject call carried clock n way → taken_in s i n ≡ false
    → tried (setup_under terms) s i ≡ failed s i (thread_of s i)
unfolding taken_in
tried_shut terms s i n clock call carried way e h = ap (tries (real_calls terms.settings) s i (thread_of s i)) e
    ∙ cond-false _ _ _ h

same_objects : (w : Whole) (n : ℕ) (ts : List Thread)
    → record w { threads = ts } ≡ record w { threads = ts; objects = set w.objects n (lock_at w n) }
same_objects w n ts = sym (ap (λ (ls : List DetLock). let z : Whole = record w { threads = ts; objects = ls } in z)
    (set-get_or w.objects n new_lock))

reach_fails : (terms : Conditions) (w : Whole) (s : State) (i n clock : ℕ) (call : Call) (carried : Carried) (way : Way)
    → Reaching terms w s i n clock call carried way → (thread_at w i).clock + 1 ≤ 2 ^ 62 → taken_in s i n ≡ false
    → Attempted terms s i true (object_tried w i n (lock_at w n) (later (table_parts w i) 1))
reach_fails terms w s i n clock call carried way a room shut =
    let u = thread_of s i in
    let t = thread_at w i in
    let on : (rows : List lock.Row) → PhaseShows terms i rows t u t.phase
    → PhaseShows terms i rows (record t { clock = t.clock + 1 }) (record u { clock = u.clock + 1 }) t.phase =
    λ rows h.
    let P : Phase → Type 0 = λ p. PhaseShows terms i rows (record t { clock = t.clock + 1 })
    (record u { clock = u.clock + 1 }) p in
    subst P (sym a.wanting) (way, (a.phase, a.in_range)) in
    let P : Whole → Type 0 = λ z. Attempted terms s i true z in
    subst P (same_objects w n (set w.threads i (record t { clock = t.clock + 1 })))
    (attempted_yes terms s (failed s i u) i (record w { threads = set w.threads i (record t { clock = t.clock + 1 }) })
    (ap wants a.phase) a.turn (tried_shut terms s i n clock call carried way a.phase shut)
    (subst (λ (c : ℕ). c ≤ 2 ^ 62) (sym (clock_set terms w s i (record u { clock = u.clock + 1 }) a.inside a.shows))
    (clock_fits terms w s i 1 a.shows room))
    (fail_shows terms w s i a.inside a.shows room on))

-- as the grant leaves it
reach_shows : (terms : Conditions) (w : Whole) (s : State) (i n clock : ℕ) (call : Call) (carried : Carried) (way : Way)
    (cost : ℕ) (l table : DetLock) (new : Parts) → Reaching terms w s i n clock call carried way
    → (thread_at w i).clock + cost ≤ 2 ^ 62 → table ≡ l
    → Grants w.settings.patience (turn_at i clock) call carried (Some n)
    (record (later (table_parts w i) cost) { lock = l }) new
    → Shows terms (object_tried w i n (held i (lock_at w n)) new)
    (record {
      threads = set s.threads i (granted (thread_of s i) ((thread_of s i).clock + cost)
          (job_of s (turn_at i clock) call carried way (Some n)) (way_goes way));
      table = table;
      objects = set s.objects n (held i (object_of s n));
      rows = rows_with s (job_of s (turn_at i clock) call carried way (Some n));
      world = world_left terms.settings s call carried (way_keeps way);
    })
reach_shows terms w s i n clock call carried way cost l table new a room table_is g =
    let u = thread_of s i in
    let turn = turn_at i clock in
    let job = job_of s turn call carried way (Some n) in
    let y : lock.Thread = granted u (u.clock + cost) job (way_goes way) in
    let now = grant_shows terms w s turn call carried way (Some n) cost l new a.shows a.in_range room a.way_is
    (λ e. absurd (none-some n (sym e))) g in
    record {
      settings = a.shows.settings;
      count = length-set s.threads i y ∙ a.shows.count ∙ sym (length-set w.threads i new.thread);
      threads = others_granted terms w s i job new.thread y a.inside a.shows now.thread;
      table = table_is ∙ sym g.lock;
      objects = ap (λ (ls : List DetLock). set ls n (held i (get_or ls n new_lock))) a.shows.objects;
      object_count = length-set w.objects n (held i (lock_at w n)) ∙ a.shows.object_count;
      world = now.world;
      rows = now.rows;
    }

-- where the call frees the table
reach_frees : (terms : Conditions) (w : Whole) (s : State) (i n clock : ℕ) (call : Call) (carried : Carried) (way : Way)
    (new : Parts) → Reaching terms w s i n clock call carried way → (thread_at w i).clock + 2 ≤ 2 ^ 62
    → tried (setup_under terms) s i ≡ reached_freeing (real_calls terms.settings) s i (thread_of s i) call n
    (new_job call carried (turn_at i clock) (Object n way) s.world) (way_goes way) → way_keeps way ≡ false
    → Grants w.settings.patience (turn_at i clock) call carried (Some n)
    (record (later (table_parts w i) 2) { lock = freed ((thread_at w i).clock + 1) }) new
    → Attempted terms s i true (object_tried w i n (held i (lock_at w n)) new)
unfolding job_of
reach_frees terms w s i n clock call carried way new a room is frees g =
    let u = thread_of s i in
    let job = new_job call carried (turn_at i clock) (Object n way) s.world in
    let y : lock.Thread = granted u (u.clock + 2) job (way_goes way) in
    let z : State = reached_freeing (real_calls terms.settings) s i u call n job (way_goes way) in
    let P : Bool → Type 0 = λ b. Shows terms (object_tried w i n (held i (lock_at w n)) new)
    (record z { world = world_left terms.settings s call carried b }) in
    attempted_yes terms s z i (object_tried w i n (held i (lock_at w n)) new) (ap wants a.phase) a.turn is
    (subst (λ (c : ℕ). c ≤ 2 ^ 62) (sym (clock_set terms w s i y a.inside a.shows))
    (clock_fits terms w s i 2 a.shows room))
    (subst P frees (reach_shows terms w s i n clock call carried way 2 (freed ((thread_at w i).clock + 1))
    (freed (u.clock + 1)) new a room (ap (λ (c : ℕ). freed (c + 1)) (a.shows.threads i).clock) g))

-- by its way
reach_takes : (terms : Conditions) (w : Whole) (s : State) (i n clock : ℕ) (call : Call) (carried : Carried) (way : Way)
    (new : Parts) → Reaching terms w s i n clock call carried way
    → (thread_at w i).clock + object_cost true (way_keeps way) ≤ 2 ^ 62 → taken_in s i n ≡ true
    → Grants w.settings.patience (turn_at i clock) call carried (Some n)
    (object_reached (way_keeps way) (table_parts w i)) new
    → Attempted terms s i true (object_tried w i n (held i (lock_at w n)) new)
unfolding job_of
reach_takes terms w s i n clock call carried Inside new a room free g =
    reach_frees terms w s i n clock call carried Inside new a room
    (tried_reached terms s i n clock call carried Inside a.phase free) refl g
reach_takes terms w s i n clock call carried Door new a room free g = reach_frees terms w s i n clock call carried Door
    new a room (tried_reached terms s i n clock call carried Door a.phase free) refl g
reach_takes terms w s i n clock call carried Keeps_table new a room free g =
    let u = thread_of s i in
    let job = new_job call carried (turn_at i clock) (Object n Keeps_table) s.world in
    let y : lock.Thread = granted u (u.clock + 1) job true in
    let z : State = reached_keeping s i u call n job in
    attempted_yes terms s z i (object_tried w i n (held i (lock_at w n)) new) (ap wants a.phase) a.turn
    (tried_reached terms s i n clock call carried Keeps_table a.phase free)
    (subst (λ (c : ℕ). c ≤ 2 ^ 62) (sym (clock_set terms w s i y a.inside a.shows))
    (clock_fits terms w s i 1 a.shows room))
    (reach_shows terms w s i n clock call carried Keeps_table 1 w.lock s.table new a room a.shows.table g)

-- ## By the parts

reached_clock : (terms : Conditions) (w : Whole) (s : State) (i n clock : ℕ) (call : Call) (carried : Carried)
    (way : Way) → i < length w.threads → Shows terms w s
    → (thread_of (reached (real_calls terms.settings) s i (thread_of s i) call carried (turn_at i clock) n way s.world)
    i).clock ≡ (thread_of s i).clock + object_cost true (way_keeps way)
reached_clock terms w s i n clock call carried Inside inside h =
    clock_set terms w s i (granted (thread_of s i) ((thread_of s i).clock + 2)
    (new_job call carried (turn_at i clock) (Object n Inside) s.world) false) inside h
reached_clock terms w s i n clock call carried Door inside h =
    clock_set terms w s i (granted (thread_of s i) ((thread_of s i).clock + 2)
    (new_job call carried (turn_at i clock) (Object n Door) s.world) true) inside h
reached_clock terms w s i n clock call carried Keeps_table inside h =
    clock_set terms w s i (granted (thread_of s i) ((thread_of s i).clock + 1)
    (new_job call carried (turn_at i clock) (Object n Keeps_table) s.world) true) inside h

cost_in : (terms : Conditions) (w : Whole) (s : State) (i n clock : ℕ) (call : Call) (carried : Carried) (way : Way)
    (taken : Bool) → Reaching terms w s i n clock call carried way → taken_in s i n ≡ taken
    → (thread_of (tried (setup_under terms) s i) i).clock ≡ (thread_of s i).clock + object_cost taken (keeps_table call)
cost_in terms w s i n clock call carried way true a is =
    ap (λ (x : State). (thread_of x i).clock) (tried_reached terms s i n clock call carried way a.phase is)
    ∙ reached_clock terms w s i n clock call carried way a.inside a.shows
    ∙ ap (λ (b : Bool). (thread_of s i).clock + object_cost true b) a.keeps
cost_in terms w s i n clock call carried way false a is =
    let u = thread_of s i in
    ap (λ (x : State). (thread_of x i).clock) (tried_shut terms s i n clock call carried way a.phase is)
    ∙ clock_set terms w s i (record u { clock = u.clock + 1 }) a.inside a.shows

reach_full : (terms : Conditions) (w : Whole) (s : State) (i n clock : ℕ) (call : Call) (carried : Carried) (way : Way)
    (taken : Bool) → Reaching terms w s i n clock call carried way → taken_in s i n ≡ taken
    → 2 ^ 62 < (thread_at w i).clock + object_cost taken (keeps_table call)
    → can_attempt (setup_under terms) s i ≡ false
reach_full terms w s i n clock call carried way taken a is full =
    attempted_full terms s i ((thread_of s i).clock + object_cost taken (keeps_table call))
    (cost_in terms w s i n clock call carried way taken a is)
    (subst (λ (c : ℕ). 2 ^ 62 < c + object_cost taken (keeps_table call)) (sym (a.shows.threads i).clock) full)

-- a call of thread i that wants this object, with its turn
abbrev wanted_at : ℕ → ℕ → ℕ → Call → Carried → ObjectWanted
wanted_at i n clock call carried = record { turn = turn_at i clock; call = call; carried = carried; object = n }

object_tried_by : (terms : Conditions) (w : Whole) (s : State) (i n clock : ℕ) (call : Call) (carried : Carried)
    (way : Way) (now : DetLock) (new : Parts) (taken : Bool) → Reaching terms w s i n clock call carried way
    → taken_in s i n ≡ taken → (thread_at w i).clock + object_cost taken (keeps_table call) ≤ 2 ^ 62
    → TriesObject w.settings.patience taken (wanted_at i n clock call carried) (lock_at w n) now (table_parts w i) new
    → Attempted terms s i true (object_tried w i n now new)
object_tried_by terms w s i n clock call carried way now new true a is room (held_now, g) =
    let P : DetLock → Type 0 = λ l. Attempted terms s i true (object_tried w i n l new) in
    let Q : Bool → Type 0 = λ b. Grants w.settings.patience (turn_at i clock) call carried (Some n)
    (object_reached b (table_parts w i)) new in
    let R : Bool → Type 0 = λ b. (thread_at w i).clock + object_cost true b ≤ 2 ^ 62 in
    subst P (sym held_now) (reach_takes terms w s i n clock call carried way new a (subst R (sym a.keeps) room) is
    (subst Q (sym a.keeps) g))
object_tried_by terms w s i n clock call carried way now new false a is room (still, e) =
    let P : DetLock → Type 0 = λ l. Attempted terms s i true (object_tried w i n l new) in
    let Q : Parts → Type 0 = λ p. Attempted terms s i true (object_tried w i n (lock_at w n) p) in
    subst P (sym still) (subst Q (sym e) (reach_fails terms w s i n clock call carried way a room is))

object_in_time : (terms : Conditions) (w : Whole) (s : State) (i n clock : ℕ) (call : Call) (carried : Carried)
    (way : Way) (made : Bool) (now : DetLock) (new : Parts) (taken b : Bool)
    → Reaching terms w s i n clock call carried way → taken_in s i n ≡ taken
    → in_time (table_parts w i) (object_cost taken (keeps_table call)) ≡ b
    → IfInTime b made (TriesObject w.settings.patience taken (wanted_at i n clock call carried) (lock_at w n) now
    (table_parts w i) new) ((now ≡ lock_at w n) × (new ≡ table_parts w i))
    → Attempted terms s i made (object_tried w i n now new)
object_in_time terms w s i n clock call carried way made now new taken true a is room (made_it, h) =
    let P : Bool → Type 0 = λ b. Attempted terms s i b (object_tried w i n now new) in
    subst P (sym made_it) (object_tried_by terms w s i n clock call carried way now new taken a is
    (leb-true ((thread_at w i).clock + object_cost taken (keeps_table call)) (2 ^ 62) room) h)
object_in_time terms w s i n clock call carried way made now new taken false a is full (missed, (still, e)) =
    let P : Bool → Type 0 = λ b. Attempted terms s i b (object_tried w i n now new) in
    let Q : DetLock → Type 0 = λ l. Attempted terms s i false (object_tried w i n l new) in
    let R : Parts → Type 0 = λ p. Attempted terms s i false (object_tried w i n (lock_at w n) p) in
    let S : Whole → Type 0 = λ z. Attempted terms s i false z in
    let off = reach_full terms w s i n clock call carried way taken a is
    (leb-false ((thread_at w i).clock + object_cost taken (keeps_table call)) (2 ^ 62) full) in
    subst P (sym missed) (subst Q (sym still)
    (subst R (sym e) (subst S (same_objects w n (set w.threads i (thread_at w i)))
    (attempted_no terms w s i a.shows off))))

-- ## The way of a thread that wants an object

planned_way : (w : World) (o : Option ℕ) (own way : Way) (n : ℕ) → plan_of own (numbered w o) ≡ Object n way
    → (way ≡ own) × (is_some o ≡ true)
planned_way w None own way n e = cc
planned_way w (Some object) own way n e = let same : way ≡ own = cc in (same, refl)

way_keeping : (goes keeps : Bool) → (keeps ≡ true → goes ≡ true) → way_keeps (way_of goes keeps) ≡ keeps
way_keeping true true h = refl
way_keeping true false h = refl
way_keeping false true h = absurd (false≢true (h refl))
way_keeping false false h = refl

-- it is that of the plan in the present world; and a call that keeps the table goes outside, where it locks an object
reaching : KeepsOutside → (terms : Conditions) (w : Whole) (s : State) (i n clock : ℕ) (call : Call) (carried : Carried)
    (way : Way) → i < length w.threads → Shows terms w s → HavePlans (real_calls terms.settings) s
    → has_turn (live_clocks s) i ≡ true
    → (thread_at w i).phase ≡ phase.WantsObject call carried clock n
    → (thread_of s i).phase ≡ WantsObject call carried clock n way → n < limit.OBJECTS
    → Reaching terms w s i n clock call carried way
reaching law terms w s i n clock call carried way inside h plans turn wanting is few =
    let o = s.world.object in
    let found = planned_way s.world (locked_object o call carried) (way_here s call carried) way n
    (plans.wants i call carried clock n way is) in
    let goes : keeps_table call ≡ true → is_some (asks o call carried) ≡ true = λ keeps. sym (law o call carried keeps)
    ∙ found.1 in
    record {
      inside = inside;
      shows = h;
      turn = turn;
      wanting = wanting;
      phase = is;
      way_is = found.0;
      keeps = ap way_keeps found.0 ∙ way_keeping (is_some (asks o call carried)) (keeps_table call) goes;
      in_range = few;
    }

-- only a thread that wants this object makes this attempt
pub reach_whole : KeepsOutside
    → (terms : Conditions) (w : Whole) (s : State) (i n clock : ℕ) (call : Call) (carried : Carried) (made : Bool)
    (now : DetLock) (new : Parts) → i < length w.threads → Shows terms w s → HavePlans (real_calls terms.settings) s
    → has_turn (live_clocks s) i ≡ true
    → (thread_at w i).phase ≡ phase.WantsObject call carried clock n
    → Reaches w.settings.patience made i (lock_at w n) now (table_parts w i) new
    → Attempted terms s i made (object_tried w i n now new)
reach_whole law terms w s i n clock call carried made now new inside h plans turn is tries =
    let P : Phase → Type 0 = λ p. PhaseShows terms i s.rows (thread_at w i) (thread_of s i) p in
    let Q : Phase → Type 0 = λ p. ReachesIn w.settings.patience p made i (lock_at w n) now (table_parts w i) new in
    let g = subst P is (h.threads i).phase in
    let taken = takes_object i (lock_at w n) (table_parts w i) in
    object_in_time terms w s i n clock call carried g.0 made now new taken
    (in_time (table_parts w i) (object_cost taken (keeps_table call)))
    (reaching law terms w s i n clock call carried g.0 inside h plans turn is g.1.0 g.1.1) (taken_same terms w s i n h)
    refl (subst Q is tries)

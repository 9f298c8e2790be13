-- The events of a thread, put together from what the code does on the way.
use Rattle.std.proofs.Common.{◌≡◌, ℕ, ◌+◌, List, [], ◌∷◌, ◌++◌, ap, length, Option, Some, None, Bool, true, false, refl}
use Rattle.std.proofs.Common.{sym, ap₂, ◌∙◌, subst}
use Rattle.std.proofs.lemmas.Option.{none-some, same_Some}
use Rattle.std.specs.Prelude.{IfOk, Result, Ok, Err}
use Rattle.std.specs.declared.alloc.AllocError.{AllocError}
use Rattle.call_turns.specs.Store.{Performs, Stored, number_locked}
use Rattle.call_turns.specs.declared.patience.TurnStart.{TurnStart}
use Rattle.call_turns.specs.declared.patience.TurnStart.TheVariants as start
use Rattle.sequential_object.specs.Locked.{keeps_table}
use Rattle.sequential_object.specs.Step.{Carried}
use Rattle.posix_terms.specs.Calls.{Call}
use Rattle.posix_terms.specs.declared.transcript.HistoryRow.{HistoryRow}
use Rattle.posix_terms.specs.declared.transcript.Turn.{Turn}
use Rattle.det_mutex.specs.Attempt.{freed, held, takes}
use Rattle.det_mutex.specs.declared.lock.DetLock.{DetLock}
use Rattle.lock_machine.specs.Events.{Grants, GrantsObject, IfInTime, ObjectWanted, Parts, granted_row, PlansTo}
use Rattle.lock_machine.specs.Events.{Reaches, ReachesIn, Tries, TriesIn}
use Rattle.lock_machine.specs.Events.{TriesLock, TriesObject, in_time, later, object_cost}
use Rattle.lock_machine.specs.Events.{object_reached, object_taken, parts, takes_object}
use Rattle.lock_machine.specs.Held.{phase_started, turn_started}
use Rattle.lock_machine.specs.Threads.{Thread}
use Rattle.lock_machine.specs.declared.thread.Phase.{Phase}
use Rattle.lock_machine.specs.declared.thread.Phase.TheVariants as phase

-- ## Whatever the phase of the thread was

started_any : (row : ℕ) (object : Option ℕ) (call : Call) (carried : Carried) (x : TurnStart) (p : Phase) (t : Thread)
    → turn_started row object call carried x (record t { phase = p }) ≡ turn_started row object call carried x t
started_any row object call carried (start.Ended e) p t = refl
started_any row object call carried (start.GoesOut errand) p t = refl

regranted : (patience : ℕ) (turn : Turn) (call : Call) (carried : Carried) (object : Option ℕ) (p : Phase)
    (old new : Parts) → Grants patience turn call carried object
    (record old { thread = record old.thread { phase = p } }) new → Grants patience turn call carried object old new
regranted patience turn call carried object p old new g =
    record {
      start = g.start;
      performs = g.performs;
      thread = g.thread
          ∙ started_any (length old.rows) object call carried g.start p old.thread;
      lock = g.lock;
      rows = g.rows;
    }

replanned : (patience : ℕ) (o : Option ℕ) (turn : Turn) (call : Call) (carried : Carried) (p : Phase) (old new : Parts)
    → PlansTo patience o turn call carried (record old { thread = record old.thread { phase = p } }) new
    → PlansTo patience o turn call carried old new
replanned patience None turn call carried p old new g = regranted patience turn call carried None p old new g
replanned patience (Some object) turn call carried p old new g = g

-- ## Put together

-- a turn that was made, and has its row then
pub seated : (patience : ℕ) (turn : Turn) (call : Call) (carried : Carried) (object : Option ℕ) (x : TurnStart)
    (t : Thread) (p : Phase) (lock : DetLock) (old new : Stored) (rows later_rows : List HistoryRow)
    → Performs patience carried old call x new → p ≡ phase_started (length rows) object call carried x
    → later_rows ≡ rows ++ granted_row turn call ∷ []
    → Grants patience turn call carried object (parts t lock old rows)
    (parts (record t { phase = p }) lock new later_rows)
seated patience turn call carried object x t p lock old new rows later_rows performs phase_is rows_are =
    record {
      start = x;
      performs = performs;
      thread = ap (λ (q : Phase). let u : Thread = record t { phase = q } in u) phase_is;
      lock = refl;
      rows = rows_are;
    }

pub planned_none : (patience : ℕ) (o : Option ℕ) (turn : Turn) (call : Call) (carried : Carried) (old new : Parts)
    → o ≡ None → Grants patience turn call carried None old new → PlansTo patience o turn call carried old new
planned_none patience o turn call carried old new none h =
    subst (λ (x : Option ℕ). PlansTo patience x turn call carried old new) (sym none) h

pub tried_planned : (patience i now : ℕ) (call : Call) (carried : Carried) (p : Phase) (turn : Turn) (lock : DetLock)
    (old new : Parts) → old.thread.phase ≡ phase.WantsTable call carried → in_time old 1 ≡ true
    → takes old.lock old.thread.clock ≡ true
    → now ≡ old.thread.clock + 1 → turn ≡ record { clock = old.thread.clock; thread = i } → lock ≡ held i old.lock
    → PlansTo patience (number_locked old.table call carried) turn call carried
    (parts (record old.thread { phase = p; clock = now }) lock old.table old.rows) new
    → Tries patience true i old new
tried_planned patience i now call carried p turn lock old new is room free clock turn_is held_is h =
    let P : ℕ → Type 0 = λ n. PlansTo patience (number_locked old.table call carried) turn call carried
    (parts (record old.thread { phase = p; clock = n }) lock old.table old.rows) new in
    let Q : Turn → Type 0 = λ t. PlansTo patience (number_locked old.table call carried) t call carried
    (parts (record old.thread { phase = p; clock = old.thread.clock + 1 }) lock old.table old.rows) new in
    let R : DetLock → Type 0 = λ l. PlansTo patience (number_locked old.table call carried)
    (record { clock = old.thread.clock; thread = i }) call carried
    (parts (record old.thread { phase = p; clock = old.thread.clock + 1 }) l old.table old.rows) new in
    let plans = replanned patience (number_locked old.table call carried)
    (record { clock = old.thread.clock; thread = i }) call carried p
    (record (later old 1) { lock = held i old.lock }) new (subst R held_is (subst Q turn_is (subst P clock h)))
    in
    let F : Bool → Type 0 = λ b. TriesLock patience b i call carried old new in
    let T : Bool → Type 0 = λ b. IfInTime b true
    (TriesLock patience (takes old.lock old.thread.clock) i call carried old new) (new ≡ old) in
    let U : Phase → Type 0 = λ q. TriesIn patience q true i old new in
    subst U (sym is) (subst T (sym room) (refl, subst F (sym free) plans))

pub granted_object : (patience : ℕ) (r : Result (Unit {0}) AllocError) (q p : Phase) (i : ℕ) (call : Call)
    (carried : Carried) (clock object : ℕ) (old new : ℕ → Parts) → q ≡ phase.WantsObject call carried clock object
    → IfOk r (λ _. (now : ℕ) → Grants patience (record { clock = clock; thread = i }) call carried (Some object)
    (record (old now) { thread = record (old now).thread { phase = p } }) (new now))
    → IfOk r (λ _. (now : ℕ) → GrantsObject patience q i (old now) (new now))
granted_object patience (Ok u) q p i call carried clock object old new is h =
    λ now. let U : Phase → Type 0 = λ x. GrantsObject patience x i (old now) (new now) in
    subst U (sym is) (regranted patience (record { clock = clock; thread = i }) call carried (Some object) p
    (old now) (new now) (h now))
granted_object patience (Err e) q p i call carried clock object old new is h = tt

-- the parts as the object's lock was taken
pub reached_parts : (keeps : Bool) (now : ℕ) (lock : DetLock) (old : Parts)
    → now ≡ old.thread.clock + object_cost true keeps → (keeps ≡ true → lock ≡ old.lock)
    → (keeps ≡ false → lock ≡ freed (old.thread.clock + 1))
    → parts (record old.thread { clock = now }) lock old.table old.rows ≡ object_reached keeps old
reached_parts true now lock old clock_is keeps frees =
    ap₂ (λ (n : ℕ) (l : DetLock). parts (record old.thread { clock = n }) l old.table old.rows) clock_is (keeps refl)
reached_parts false now lock old clock_is keeps frees =
    ap₂ (λ (n : ℕ) (l : DetLock). parts (record old.thread { clock = n }) l old.table old.rows) clock_is (frees refl)

pub reached_granted : (patience i now : ℕ) (call : Call) (carried : Carried) (clock object : ℕ)
    (lock own later_own : DetLock) (old new : Parts) → old.thread.phase ≡ phase.WantsObject call carried clock object
    → takes_object i own old ≡ true → in_time old (object_cost true (keeps_table call)) ≡ true
    → parts (record old.thread { clock = now }) lock old.table old.rows ≡ object_reached (keeps_table call) old
    → later_own ≡ held i own
    → GrantsObject patience old.thread.phase i (parts (record old.thread { clock = now }) lock old.table old.rows) new
    → Reaches patience true i own later_own old new
reached_granted patience i now call carried clock object lock own later_own old new is taken room reached_is held_is h =
    let W : Phase → Type 0 = λ q. GrantsObject patience q i
    (parts (record old.thread { clock = now }) lock old.table old.rows) new in
    let P : Parts → Type 0 = λ p. Grants patience (record { clock = clock; thread = i }) call carried (Some object) p
    new in
    let grants = subst P reached_is (subst W is h) in
    let wanted : ObjectWanted = record {
      turn = record { clock = clock; thread = i };
      call = call;
      carried = carried;
      object = object;
    } in
    let rests : Type 0 = (later_own ≡ own) × (new ≡ old) in
    let T : Bool → Type 0 = λ b. IfInTime b true (TriesObject patience true wanted own later_own old new) rests in
    let F : Bool → Type 0 = λ b. IfInTime (in_time old (object_cost b (keeps_table call))) true
    (TriesObject patience b wanted own later_own old new) rests in
    let U : Phase → Type 0 = λ q. ReachesIn patience q true i own later_own old new in
    subst U (sym is) (subst F (sym taken) (subst T (sym room) (refl, (held_is, grants))))

pub taken_some : (b : Bool) (i : ℕ) (object taken : DetLock) → object_taken b i object ≡ Some taken → (b ≡ true)
    × (taken ≡ held i object)
taken_some true i object taken e = (refl, same_Some taken (held i object) (sym e))
taken_some false i object taken e = absurd (none-some taken e)

-- The answer of a thread's call is that of the lock machine.
use Rattle.std.proofs.Common.{◌≡◌, ℕ, zero, suc, ◌+◌, ◌<◌, ◌≤◌, ◌^◌, List, [], ◌∷◌, length, map, get_or, set, slice_get}
use Rattle.std.proofs.Common.{Option, Some, None, Bool, true, false, ◌==◌, ◌&&◌, ◌||◌, not, sym, refl, ap, ap₂, ◌∙◌}
use Rattle.std.proofs.Common.{subst, arith, ⊎_elim}
use Rattle.std.proofs.lemmas.Bool.{cases_Bool, eq-eqb, eqb-false, leb-true, leb-false, ne_eqb}
use Rattle.std.proofs.lemmas.List.{get_or-set_same, map-set, set-get_or}
use Rattle.std.proofs.lemmas.Option.{same_Some, none-some, slice_get-map}
use Rattle.std.specs.Prelude.{is_some, option_map}
use Rattle.sequential_object.specs.Step.{step}
use Rattle.posix_terms.specs.Calls.{Call}
use Rattle.posix_terms.specs.declared.limits.TheConstants.Limits as limit
use Rattle.posix_terms.specs.declared.outcome.Given.{Given}
use Rattle.posix_terms.specs.declared.reply.Answer as posix
use Rattle.posix_terms.specs.declared.transcript.HistoryRow.{HistoryRow}
use Rattle.det_mutex.specs.Attempt.{freed, new_lock}
use Rattle.det_mutex.specs.declared.lock.DetLock.{DetLock}
use Rattle.lock_model.specs.CallTable.{CallTable, Plan, has_object, keeps_table}
use Rattle.lock_model.specs.CallTable.Way.{Inside}
use Rattle.lock_model.specs.Held.{AreHeld, HaveRows, holds_table, object_held, object_in, row_of}
use Rattle.lock_model.specs.Machine as machine
use Rattle.lock_model.specs.Machine.{Effect, Moved, advance, answered, can_advance, filled_by, first_of, is_number}
use Rattle.lock_model.specs.Machine.{is_open, late_change, lock_after, moves, moves_in, one_if, row_after, within}
use Rattle.lock_model.specs.RealCalls.{plan_of, real_calls}
use Rattle.sequential_object.specs.Answers.{answer_in, outcome_in}
use Rattle.lock_model.specs.State as lock
use Rattle.lock_model.specs.State.{Job, Row, State, nobody, thread_of}
use Rattle.lock_model.specs.State.Phase.{Granted}
use Rattle.sequential_object.specs.Worlds.{World}
use Rattle.lock_machine.specs.Events.{Answers, AnswersIn, AnswersWith, Parts, in_time, parts, row_answered}
use Rattle.lock_machine.specs.Held.{end_held, phase_behind, told_as}
use Rattle.lock_machine.specs.Conditions.{Conditions, setup_under}
use Rattle.lock_model.specs.Rows.{shown, shown_answer}
use Rattle.lock_machine.specs.Shows.{IsGranted, PhaseShows, Shows, ThreadShows, replied}
use Rattle.lock_machine.specs.Whole.{Whole, thread_at}
use Rattle.sequential_object.specs.declared.turn_end.TurnEnd.{TurnEnd}
use Rattle.sequential_object.specs.declared.turn_end.TurnEnd.TheVariants as end
use Rattle.lock_machine.specs.declared.thread.Phase.{Phase}
use Rattle.lock_machine.specs.declared.thread.Phase.TheVariants as phase
use Rattle.lock_machine.specs.Threads.{Thread}
use Rattle.lock_machine.proofs.AskShows.{within_no, within_yes}
use Rattle.lock_machine.proofs.ShownThreads.{advance_by, first_kept, lock_left, row_left, whole_moved, whole_still}

-- ## The one row that is open

fill_none : (i : ℕ) (e : Effect) (rows : List Row)
    → ((j : ℕ) (q : Row) → slice_get rows j ≡ Some q → is_open i q ≡ true → ⊥) → map (row_after i e) rows ≡ rows
fill_none i e [] h = refl
fill_none i e (r ∷ rows) h =
    ap₂ ◌∷◌
    (row_left i e r false (not_open (is_open i r) (λ o. h 0 r refl o)))
    (fill_none i e rows (λ j q at o. h (suc j) q at o))
  where
    not_open : (b : Bool) → (b ≡ true → ⊥) → b ≡ false
    not_open true h = absurd (h refl)
    not_open false h = refl

pub fill_one : (i : ℕ) (e : Effect) (rows : List Row) (k : ℕ) (r : Row) → slice_get rows k ≡ Some r → is_open i r ≡ true
    → ((j : ℕ) (q : Row) → slice_get rows j ≡ Some q → is_open i q ≡ true → j ≡ k)
    → map (row_after i e) rows ≡ set rows k (filled_by e r)
fill_one i e [] k r at o one = absurd (none-some r at)
fill_one i e (x ∷ rows) zero r at o one =
    let same : x ≡ r = same_Some x r at in
    let head : row_after i e x ≡ filled_by e r = ap (row_after i e) same ∙ row_left i e r true o in
    ap₂ ◌∷◌ head (fill_none i e rows (λ j q there open_too. not_zero j (one (suc j) q there open_too)))
  where
    not_zero : (j : ℕ) → suc j ≡ 0 → ⊥
    not_zero j h = omega arith
fill_one i e (x ∷ rows) (suc k) r at o one =
    ap₂ ◌∷◌
    (row_left i e x false (not_open (is_open i x) (λ open_too. not_suc k (one 0 x refl open_too))))
    (fill_one i e rows k r at o (λ j q there open_too. less j k (one (suc j) q there open_too)))
  where
    not_open : (b : Bool) → (b ≡ true → ⊥) → b ≡ false
    not_open true h = absurd (h refl)
    not_open false h = refl

    not_suc : (k : ℕ) → 0 ≡ suc k → ⊥
    not_suc k h = omega arith

    less : (j k : ℕ) → suc j ≡ suc k → j ≡ k
    less j k h = omega arith

-- ## The locks of objects

locks_unheld : (i : ℕ) (o : Option ℕ) (ls : List DetLock)
    → ((k : ℕ) → k < length ls → is_number (get_or ls k new_lock).holder i ≡ false) → map (lock_after i o) ls ≡ ls
locks_unheld i o [] h = refl
locks_unheld i o (l ∷ ls) h = ap₂ ◌∷◌ (lock_left i o l false (h 0 (omega arith)))
    (locks_unheld i o ls (λ k inside. h (suc k) (omega arith)))

pub locks_freed : (i n clock : ℕ) (ls : List DetLock) → n < length ls → is_number (get_or ls n new_lock).holder i ≡ true
    → ((k : ℕ) → k < length ls → (k ≡ n → ⊥) → is_number (get_or ls k new_lock).holder i ≡ false)
    → map (lock_after i (Some clock)) ls ≡ set ls n (freed clock)
locks_freed i n clock [] inside mine others = absurd (omega arith)
locks_freed i zero clock (l ∷ ls) inside mine others =
    ap₂ ◌∷◌ (lock_left i (Some clock) l true mine)
    (locks_unheld i (Some clock) ls (λ k within. others (suc k) (omega arith) (not_zero k)))
  where
    not_zero : (k : ℕ) → suc k ≡ 0 → ⊥
    not_zero k e = omega arith
locks_freed i (suc n) clock (l ∷ ls) inside mine others =
    ap₂ ◌∷◌ (lock_left i (Some clock) l false (others 0 (omega arith) (not_suc n)))
    (locks_freed i n clock ls (omega arith) mine
    (λ k within apart. others (suc k) (omega arith) (λ e. apart (one_less k n e))))
  where
    not_suc : (k : ℕ) → 0 ≡ suc k → ⊥
    not_suc k e = omega arith

    one_less : (a b : ℕ) → suc a ≡ suc b → a ≡ b
    one_less a b e = omega arith

-- ## The move

-- the table is freed now where no object is held, and else later, when the thread does not hold it
abbrev pub freeing : Option ℕ → lock.Thread → Call → TurnEnd → Moved
freeing object u c a =
    record {
      thread = answered u c (u.clock + 1) a;
      effect = record {
        outcome = None;
        answer = Some a;
        object_freed = Some u.clock;
        table_freed = Some (u.clock + one_if (is_some object));
        world = None;
      };
    }

-- the answer of a job with this plan and this answer, which makes no change
abbrev pub answer_by : lock.Thread → Call → Plan → TurnEnd → Option World → Moved
answer_by u c plan a w =
    let next = u.clock + one_if (has_object plan) in
    record {
      thread = answered u c (next + one_if (not (has_object plan) || keeps_table plan)) a;
      effect = record {
        outcome = None;
        answer = Some a;
        object_freed = Some u.clock;
        table_freed = Some next;
        world = w;
      };
    }

pub late_none : (calls : CallTable) (job : Job) (o : Option Given) → late_change calls job o false ≡ None
late_none calls job None = refl
late_none calls job (Some o) = refl

late_by : (calls : CallTable) (job : Job) (object : Option ℕ)
    → late_change calls job job.outcome (keeps_table (plan_of Inside object)) ≡ None
late_by calls job None = late_none calls job job.outcome
late_by calls job (Some n) = late_none calls job job.outcome

freeing_by : (u : lock.Thread) (c : Call) (object : Option ℕ) (a : TurnEnd)
    → answer_by u c (plan_of Inside object) a None ≡ freeing object u c a
freeing_by u c None a =
    ap (λ (n : ℕ).
    let m : Moved
    = record {
      thread = answered u c n a;
      effect
          = record {
            outcome = None;
            answer = Some a;
            object_freed = Some u.clock;
            table_freed = Some (u.clock + 0);
            world
                = None;
          };
    } in m) (once u.clock)
  where
    once : (n : ℕ) → n + 0 + 1 ≡ n + 1
    once n = omega arith
freeing_by u c (Some object) a =
    ap (λ (n : ℕ).
    let m : Moved
    = record {
      thread = answered u c n a;
      effect
          = record {
            outcome = None;
            answer = Some a;
            object_freed = Some u.clock;
            table_freed = Some (u.clock + 1);
            world
                = None;
          };
    } in m) (once u.clock)
  where
    once : (n : ℕ) → n + 1 + 0 ≡ n + 1
    once n = omega arith

answer_frees : (calls : CallTable) (u : lock.Thread) (job : Job) (object : Option ℕ) (a : TurnEnd)
    → job.plan ≡ plan_of Inside object → calls.answer job.found job.call job.outcome job.carried ≡ a
    → machine.answer calls u job ≡ freeing object u job.call a
answer_frees calls u job object a plan gives =
    ap (λ (p : Plan). answer_by u job.call p (calls.answer job.found job.call job.outcome job.carried)
    (late_change calls job job.outcome (keeps_table p))) plan
    ∙ ap₂ (λ (b : TurnEnd) (w : Option World). answer_by u job.call (plan_of Inside object) b w) gives
    (late_by calls job object)
    ∙ freeing_by u job.call object a

moves_granted : (terms : Conditions) (i : ℕ) (u : lock.Thread) (job : Job) (object : Option ℕ) (a : TurnEnd)
    → u.phase ≡ Granted job → job.plan ≡ plan_of Inside object
    → answer_in (step terms.settings job.found.object job.call (outcome_in job.outcome) job.carried) ≡ a
    → moves (setup_under terms) i u ≡ within (2 ^ 62) (Some (freeing object u job.call a))
unfolding moves
moves_granted terms i u job object a e plan gives =
    ap (λ (p : lock.Phase). within (2 ^ 62) (moves_in (setup_under terms) i u p)) e
    ∙ ap (λ (m : Moved). within (2 ^ 62) (Some m)) (answer_frees (real_calls terms.settings) u job object a plan gives)

pub answered_clock : (u : lock.Thread) (c : Call) (n : ℕ) (a : TurnEnd) → (answered u c n a).clock ≡ n
answered_clock u c n (end.Reply reply) = refl
answered_clock u c n (end.Blocked carried) = refl

-- ## The whole

same_eqb : (a b : ℕ) → a ≡ b → (a == b) ≡ true
same_eqb a b e = ⊎_elim (λ (h : (a == b) ≡ true). h) (λ (h : (a == b) ≡ false). absurd (eqb-false a b h e))
    (cases_Bool (a == b))

pub open_row : (i : ℕ) (job : Job) → job.turn.thread ≡ i → is_open i (row_of job) ≡ true
open_row i job e = ap (λ (b : Bool). b && true) (same_eqb job.turn.thread i e)

shown_end : (x : TurnEnd) → shown_answer (Some x) ≡ Some (told_as x)
shown_end (end.Reply reply) = refl
shown_end (end.Blocked carried) = refl

shown_filled : (r : Row) (e : Effect) (x : TurnEnd) → e.outcome ≡ None → e.answer ≡ Some x
    → shown (filled_by e r) ≡ record (shown r) { answer = Some (told_as x) }
shown_filled r e x out ans k =
    record {
      call = r.call;
      turn = r.turn;
      outcome = ap outcome_in (ap (first_of r.outcome) out ∙ first_kept r.outcome)
          k;
      answer = (ap shown_answer ans ∙ shown_end x) k;
    }

pub rows_answered : (i : ℕ) (s : State) (w : List HistoryRow) (place : ℕ) (job : Job) (e : Effect) (x : TurnEnd)
    → HaveRows s → map shown s.rows ≡ w → job.turn.thread ≡ i → slice_get s.rows place ≡ Some (row_of job)
    → e.outcome ≡ None → e.answer ≡ Some x
    → map shown (map (row_after i e) s.rows) ≡ set w place (record (shown (row_of job)) { answer = Some (told_as x) })
rows_answered i s w place job e x rows is mine at out ans =
    let open_is = open_row i job mine in
    ap (map shown) (fill_one i e s.rows place (row_of job) at open_is
    (λ j q there o. rows.one i j place q (row_of job) there at o open_is))
    ∙ map-set shown s.rows place (filled_by e (row_of job))
    ∙ ap₂ (λ (rs : List HistoryRow) (q : HistoryRow). set rs place q) is (shown_filled (row_of job) e x out ans)

-- the lock that a call with this object holds
abbrev pub lock_held : Whole → Option ℕ → DetLock
lock_held w None = w.lock
lock_held w (Some n) = get_or w.objects n new_lock

abbrev pub with_lock : Whole → Option ℕ → DetLock → List Thread → List HistoryRow → Whole
with_lock w None l threads rows = record w { threads = threads; lock = l; rows = rows }
with_lock w (Some n) l threads rows = record w { threads = threads; objects = set w.objects n l; rows = rows }

abbrev parts_at : Whole → ℕ → Option ℕ → Parts
parts_at w i object = parts (thread_at w i) (lock_held w object) w.table w.rows

-- what an answer is given for, and what it leaves
record Answering (terms : Conditions) (w : Whole) (s : State) (i place : ℕ) (object : Option ℕ) (e : TurnEnd)
    (job : Job) : Type 0 where
  inside : i < length w.threads
  shows : Shows terms w s
  held : AreHeld s
  rows : HaveRows s
  phase : (thread_of s i).phase ≡ Granted job
  held_is : end_held (thread_at w i).phase ≡ Some e
  granted : IsGranted terms i s.rows place object e job

-- whether thread i holds the table, and an object
table_held : (terms : Conditions) (w : Whole) (s : State) (i place : ℕ) (object : Option ℕ) (e : TurnEnd) (job : Job)
    → Answering terms w s i place object e job → is_number s.table.holder i ≡ not (is_some object)
table_held terms w s i place object e job a = a.held.table i ∙ ap holds_table a.phase
    ∙ ap (λ (p : Plan). not (has_object p) || keeps_table p) a.granted.plan ∙ by_plan object
  where
    by_plan : (o : Option ℕ) → (not (has_object (plan_of Inside o)) || keeps_table (plan_of Inside o)) ≡ not (is_some o)
    by_plan None = refl
    by_plan (Some n) = refl

one_held : (terms : Conditions) (w : Whole) (s : State) (i place : ℕ) (object : Option ℕ) (e : TurnEnd) (job : Job)
    → Answering terms w s i place object e job → (n : ℕ) → n < length s.objects
    → is_number (get_or s.objects n new_lock).holder i ≡ is_number object n
one_held terms w s i place object e job a n inside = a.held.objects i n inside
    ∙ ap (λ (p : lock.Phase). is_number (object_held p) n) a.phase
    ∙ ap (λ (p : Plan). is_number (object_in p) n) a.granted.plan ∙ by_plan object
  where
    by_plan : (o : Option ℕ) → is_number (object_in (plan_of Inside o)) n ≡ is_number o n
    by_plan None = refl
    by_plan (Some m) = refl

object_inside : (terms : Conditions) (w : Whole) (s : State) → Shows terms w s → (n : ℕ) → n < limit.OBJECTS
    → n < length s.objects
object_inside terms w s h n l = subst (λ (k : ℕ). n < k) (sym (ap length h.objects ∙ h.object_count)) l

lock_is_held : (terms : Conditions) (w : Whole) (s : State) (i place : ℕ) (object : Option ℕ) (e : TurnEnd) (job : Job)
    → Answering terms w s i place object e job → is_number (lock_held w object).holder i ≡ true
lock_is_held terms w s i place None e job a = ap (λ (l : DetLock). is_number l.holder i) (sym a.shows.table)
    ∙ table_held terms w s i place None e job a
lock_is_held terms w s i place (Some n) e job a =
    ap (λ (ls : List DetLock). is_number (get_or ls n new_lock).holder i) (sym a.shows.objects)
    ∙ one_held terms w s i place (Some n) e job a n (object_inside terms w s a.shows n a.granted.in_range)
    ∙ eq-eqb n n refl

abbrev Answered : Conditions → Whole → State → ℕ → Option ℕ → Bool → Parts → Type 0
Answered terms w s i object moved new = (can_advance (setup_under terms) s i ≡ moved)
    × Shows terms (with_lock w object new.lock (set w.threads i new.thread) new.rows) (advance (setup_under terms) i s)

next_le : (c : ℕ) → c < 2 ^ 62 → c + 1 ≤ 2 ^ 62
next_le c h = omega arith

-- the thread works, or makes its call again
thread_answered : (terms : Conditions) (i : ℕ) (rows : List Row) (t : Thread) (u : lock.Thread) (c : Call) (e : TurnEnd)
    → u.clock ≡ t.clock → t.clock < 2 ^ 62 → u.asked ≡ t.asked → length u.came ≡ t.came
    → ThreadShows terms i rows (record t { phase = phase_behind e; clock = t.clock + 1 }) (answered u c (u.clock + 1) e)
thread_answered terms i rows t u c (end.Reply reply) clock room asked came =
    record {
      clock = ap (λ (n : ℕ). n + 1) clock;
      in_time = next_le t.clock room;
      asked = asked;
      came = came;
      phase = refl;
    }
thread_answered terms i rows t u c (end.Blocked carried) clock room asked came =
    record {
      clock = ap (λ (n : ℕ). n + 1) clock;
      in_time = next_le t.clock room;
      asked = asked;
      came = came;
      phase = (c, refl);
    }

thread_now : (terms : Conditions) (w : Whole) (s : State) (i place : ℕ) (object : Option ℕ) (e : TurnEnd) (job : Job)
    (a : Answering terms w s i place object e job) (rows : List Row) → (thread_at w i).clock < 2 ^ 62
    → ThreadShows terms i rows (row_answered (parts_at w i object) place e (shown (row_of job))).thread
    (freeing object (thread_of s i) job.call e).thread
thread_now terms w s i place object e job a rows room =
    let h = a.shows.threads i in thread_answered terms i rows (thread_at w i) (thread_of s i) job.call e h.clock room
    h.asked h.came

move_made : (terms : Conditions) (w : Whole) (s : State) (i place : ℕ) (object : Option ℕ) (e : TurnEnd) (job : Job)
    (a : Answering terms w s i place object e job) → (thread_at w i).clock < 2 ^ 62
    → moves (setup_under terms) i (thread_of s i) ≡ Some (freeing object (thread_of s i) job.call e)
move_made terms w s i place object e job a room =
    let u = thread_of s i in
    let fits : u.clock + 1 ≤ 2 ^ 62 = subst (λ (c : ℕ). c + 1 ≤ 2 ^ 62) (sym (a.shows.threads i).clock)
    (next_le (thread_at w i).clock room) in
    moves_granted terms i u job object e a.phase a.granted.plan a.granted.answers
    ∙ within_yes (2 ^ 62) (freeing object u job.call e)
    (subst (λ (c : ℕ). c ≤ 2 ^ 62) (sym (answered_clock u job.call (u.clock + 1) e)) fits)

answered_yes : (terms : Conditions) (w : Whole) (s : State) (i place : ℕ) (object : Option ℕ) (e : TurnEnd) (job : Job)
    (a : Answering terms w s i place object e job) → (thread_at w i).clock < 2 ^ 62
    → Answered terms w s i object true (row_answered (parts_at w i object) place e (shown (row_of job)))
answered_yes terms w s i place None e job a room =
    let u = thread_of s i in
    let h = a.shows.threads i in
    let m = freeing None u job.call e in
    let new = row_answered (parts_at w i None) place e (shown (row_of job)) in
    let inside : (n : ℕ) → n < length s.objects
    → is_number (get_or s.objects n new_lock).holder i ≡ false = one_held terms w s i place None e job a in
    whole_moved terms w s i new.thread m new.lock w.objects new.rows a.inside a.shows
    (move_made terms w s i place None e job a room)
    (thread_now terms w s i place None e job a (map (row_after i m.effect) s.rows) room)
    (lock_left i (Some (u.clock + 0)) s.table true (table_held terms w s i place None e job a)
    ∙ ap freed (still u.clock ∙ h.clock))
    (locks_unheld i (Some u.clock) s.objects inside ∙ a.shows.objects)
    refl
    (rows_answered i s w.rows place job m.effect e a.rows a.shows.rows a.granted.thread a.granted.row refl refl)
  where
    still : (n : ℕ) → n + 0 ≡ n
    still n = omega arith
answered_yes terms w s i place (Some n) e job a room =
    let u = thread_of s i in
    let h = a.shows.threads i in
    let m = freeing (Some n) u job.call e in
    let new = row_answered (parts_at w i (Some n)) place e (shown (row_of job)) in
    let within : n < length s.objects = object_inside terms w s a.shows n a.granted.in_range in
    whole_moved terms w s i new.thread m w.lock (set w.objects n new.lock) new.rows a.inside a.shows
    (move_made terms w s i place (Some n) e job a room)
    (thread_now terms w s i place (Some n) e job a (map (row_after i m.effect) s.rows) room)
    (lock_left i (Some (u.clock + 1)) s.table false (table_held terms w s i place (Some n) e job a) ∙ a.shows.table)
    (locks_freed i n u.clock s.objects within (one_held terms w s i place (Some n) e job a n within ∙ eq-eqb n n refl)
    (λ k inside apart. one_held terms w s i place (Some n) e job a k inside ∙ ne_eqb n k (λ e. apart (sym e)))
    ∙ ap₂ (λ (ls : List DetLock) (c : ℕ). set ls n (freed c)) a.shows.objects h.clock)
    refl
    (rows_answered i s w.rows place job m.effect e a.rows a.shows.rows a.granted.thread a.granted.row refl refl)

same_lock : (w : Whole) (object : Option ℕ) (ts : List Thread)
    → with_lock w object (lock_held w object) ts w.rows ≡ record w { threads = ts }
same_lock w None ts = refl
same_lock w (Some n) ts = ap (λ (ls : List DetLock). let z : Whole = record w { threads = ts; objects = ls } in z)
    (set-get_or w.objects n new_lock)

move_refused : (terms : Conditions) (w : Whole) (s : State) (i place : ℕ) (object : Option ℕ) (e : TurnEnd) (job : Job)
    → Answering terms w s i place object e job → 2 ^ 62 ≤ (thread_at w i).clock
    → moves (setup_under terms) i (thread_of s i) ≡ None
move_refused terms w s i place object e job a full =
    let u = thread_of s i in
    let h = a.shows.threads i in
    let m = freeing object u job.call e in
    let past : 2 ^ 62 < u.clock + 1 =
    subst (λ (c : ℕ). 2 ^ 62 < c + 1) (sym h.clock) (next_lt (thread_at w i).clock full) in
    moves_granted terms i u job object e a.phase a.granted.plan a.granted.answers
    ∙ within_no (2 ^ 62) m (subst (λ (c : ℕ). 2 ^ 62 < c) (sym (answered_clock u job.call (u.clock + 1) e)) past)
  where
    next_lt : (c : ℕ) → 2 ^ 62 ≤ c → 2 ^ 62 < c + 1
    next_lt c h = omega arith

answered_no : (terms : Conditions) (w : Whole) (s : State) (i place : ℕ) (object : Option ℕ) (e : TurnEnd) (job : Job)
    → Answering terms w s i place object e job → 2 ^ 62 ≤ (thread_at w i).clock
    → Answered terms w s i object false (parts_at w i object)
answered_no terms w s i place object e job a full =
    let t = thread_at w i in
    let still = whole_still terms w s i t a.inside a.shows (move_refused terms w s i place object e job a full)
    (a.shows.threads i) in
    let P : Whole → Type 0 = λ z. Shows terms z (advance (setup_under terms) i s) in
    (still.0, subst P (sym (same_lock w object (set w.threads i t))) still.1)

-- ## What is told

pub replies_moved : (terms : Conditions) (s : State) (i : ℕ) (m : Moved) → i < length s.threads
    → moves (setup_under terms) i (thread_of s i) ≡ Some m
    → (thread_of (advance (setup_under terms) i s) i).replies ≡ m.thread.replies
replies_moved terms s i m inside is =
    ap (λ (z : State). (thread_of z i).replies) (advance_by terms s i (Some m) is)
    ∙ ap (λ (t : lock.Thread). t.replies) (get_or-set_same s.threads i m.thread nobody inside)

pub replies_still : (terms : Conditions) (s : State) (i : ℕ) → moves (setup_under terms) i (thread_of s i) ≡ None
    → (thread_of (advance (setup_under terms) i s) i).replies ≡ (thread_of s i).replies
replies_still terms s i is = ap (λ (z : State). (thread_of z i).replies) (advance_by terms s i None is)

pub replies_answered : (u : lock.Thread) (c : Call) (n : ℕ) (e : TurnEnd)
    → (answered u c n e).replies ≡ replied (Some (told_as e)) u.replies
replies_answered u c n (end.Reply reply) = refl
replies_answered u c n (end.Blocked carried) = refl

abbrev Told : Conditions → Whole → State → ℕ → Option ℕ → Option posix.Answer → Parts → Type 0
Told terms w s i object told new = Answered terms w s i object (is_some told) new
    × ((thread_of (advance (setup_under terms) i s) i).replies ≡ replied told (thread_of s i).replies)

answered_by : (terms : Conditions) (w : Whole) (s : State) (i place : ℕ) (object : Option ℕ) (e : TurnEnd) (job : Job)
    (told : Option posix.Answer) (new : Parts) (b : Bool) → Answering terms w s i place object e job
    → in_time (parts_at w i object) 1 ≡ b
    → AnswersIn b told place (parts_at w i object) new → Told terms w s i object told new
answered_by terms w s i place object e job told new true a room h =
    let old = parts_at w i object in
    let P : Option TurnEnd → Type 0 = λ o. AnswersWith told place o (slice_get w.rows place) old new in
    let there : slice_get w.rows place ≡ Some (shown (row_of job)) = ap (λ (rs : List HistoryRow). slice_get rs place)
    (sym a.shows.rows) ∙ slice_get-map shown s.rows place ∙ ap (option_map shown) a.granted.row in
    let Q : Option HistoryRow → Type 0 = λ o. AnswersWith told place (Some e) o old new in
    let g : (told ≡ Some (told_as e))
    × (new ≡ row_answered old place e (shown (row_of job))) = subst Q there (subst P a.held_is h) in
    let fewer_is = fewer (thread_at w i).clock (leb-true ((thread_at w i).clock + 1) (2 ^ 62) room) in
    let inside : i < length s.threads = subst (λ (n : ℕ). i < n) (sym a.shows.count) a.inside in
    let R : Option posix.Answer → Type 0 = λ o. Told terms w s i object o new in
    let S : Parts → Type 0 = λ p. Told terms w s i object (Some (told_as e)) p in
    subst R (sym g.0) (subst S (sym g.1) (
      answered_yes terms w s i place object e job a fewer_is,
      replies_moved terms s i (freeing object (thread_of s i) job.call e) inside
          (move_made terms w s i place object e job a fewer_is)
          ∙ replies_answered (thread_of s i) job.call ((thread_of s i).clock + 1) e,
    ))
  where
    fewer : (c : ℕ) → c + 1 ≤ 2 ^ 62 → c < 2 ^ 62
    fewer c h = omega arith
answered_by terms w s i place object e job told new false a room h =
    let full = more (thread_at w i).clock (leb-false ((thread_at w i).clock + 1) (2 ^ 62) room) in
    let R : Option posix.Answer → Type 0 = λ o. Told terms w s i object o new in
    let S : Parts → Type 0 = λ p. Told terms w s i object None p in
    subst R (sym h.0) (subst S (sym h.1) (
      answered_no terms w s i place object e job a full,
      replies_still terms s i
          (move_refused terms w s i place object e job a full),
    ))
  where
    more : (c : ℕ) → 2 ^ 62 < c + 1 → 2 ^ 62 ≤ c
    more c h = omega arith

pub answer_whole : (terms : Conditions) (w : Whole) (s : State) (i place : ℕ) (object : Option ℕ) (e : TurnEnd)
    (told : Option posix.Answer) (t : Thread) (l : DetLock) (rows : List HistoryRow)
    → i < length w.threads → Shows terms w s → AreHeld s → HaveRows s
    → (thread_at w i).phase ≡ phase.Granted place object e
    → Answers told i place (parts_at w i object) (parts t l w.table rows)
    → (can_advance (setup_under terms) s i ≡ is_some told)
    × Shows terms (with_lock w object l (set w.threads i t) rows) (advance (setup_under terms) i s)
    × ((thread_of (advance (setup_under terms) i s) i).replies ≡ replied told (thread_of s i).replies)
answer_whole terms w s i place object e told t l rows inside h held own is answers =
    let P : Phase → Type 0 = λ p. PhaseShows terms i s.rows (thread_at w i) (thread_of s i) p in
    let g = subst P is (h.threads i).phase in
    let a : Answering terms w s i place object e g.0 =
    record {
      inside = inside;
      shows = h;
      held = held;
      rows = own;
      phase = g.1.0;
      held_is = ap end_held is;
      granted = g.1.1;
    } in
    let old = parts_at w i object in
    let new = parts t l w.table rows in
    let Q : Bool → Type 0 = λ b. AnswersIn (b && in_time old 1) told place old new in
    let made = answered_by terms w s i place object e g.0 told new (in_time old 1) a refl
    (subst Q (lock_is_held terms w s i place object e g.0 a) answers) in
    (made.0.0, made.0.1, made.1)

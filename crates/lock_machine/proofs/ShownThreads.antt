-- A thread of a run stands for one of the lock machine: how that lasts.
use Rattle.std.proofs.Common.{◌≡◌, ℕ, ◌<◌, List, length, map, get_or, set, slice_get, Option, Some, None, Bool, true}
use Rattle.std.proofs.Common.{false, is_some, is_none, ◌==◌, sym, refl, ap, ap₂, ◌∙◌, [], ◌∷◌, subst, ⊎_elim}
use Rattle.std.proofs.lemmas.Bool.{and_left, and_parts, cases_eq, cond_both, ne_eqb}
use Rattle.std.proofs.lemmas.List.{get_or-set_same, get_or-set_other, length-map, length-set, set-get_or}
use Rattle.std.proofs.lemmas.Option.{slice_get-map}
use Rattle.std.specs.Prelude.{if◌then◌else◌, option_map}
use Rattle.posix_terms.specs.declared.outcome.Given.{Given}
use Rattle.posix_terms.specs.declared.transcript.HistoryRow.{HistoryRow}
use Rattle.det_mutex.specs.declared.lock.DetLock.{DetLock}
use Rattle.lock_model.specs.Held.{row_of}
use Rattle.lock_model.specs.Machine.{Effect, Moved, advance, can_advance, is_number, is_open, lock_after, filled_by}
use Rattle.lock_model.specs.Machine.{freed_by, move, moves, or_else, quiet, row_after, world_after, first_of}
use Rattle.lock_model.specs.State as lock
use Rattle.lock_model.specs.State.{Job, Row, State, nobody, thread_of}
use Rattle.sequential_object.specs.Worlds.{World}
use Rattle.lock_machine.specs.Conditions.{Conditions, setup_under}
use Rattle.lock_model.specs.Rows.{shown}
use Rattle.call_turns.specs.Store.{Stands, Stored}
use Rattle.lock_machine.specs.Shows.{IsGranted, IsOut, PhaseShows, Shows, ThreadShows}
use Rattle.lock_machine.specs.Whole.{Whole}
use Rattle.lock_machine.specs.Views.{no_thread}
use Rattle.lock_machine.specs.Threads.{Thread}
use Rattle.lock_machine.specs.declared.thread.Outing.{Outing}
use Rattle.lock_machine.specs.declared.thread.Phase.{Phase}
use Rattle.lock_machine.specs.declared.thread.Phase.TheVariants as phase

-- ## Other rows

-- a row of a call that thread k is in stays
abbrev pub KeepsRows : ℕ → List Row → List Row → Type 0
KeepsRows k rows more = (place : ℕ) (job : Job) → job.turn.thread ≡ k → slice_get rows place ≡ Some (row_of job)
    → slice_get more place ≡ Some (row_of job)

out_rows : (terms : Conditions) (k : ℕ) (rows more : List Row) (o : Outing) (job : Job) → KeepsRows k rows more
    → IsOut terms k rows o job → IsOut terms k more o job
out_rows terms k rows more o job keeps g =
    record {
      object = g.object;
      object_is = g.object_is;
      in_range = g.in_range;
      plan = g.plan;
      thread = g.thread;
      carried = g.carried;
      asks_is = g.asks_is;
      door = g.door;
      waits = g.waits;
      keeps = g.keeps;
      ends = g.ends;
      row = keeps o.row job g.thread g.row;
    }

phase_rows : (terms : Conditions) (k : ℕ) (rows more : List Row) (t : Thread) (u : lock.Thread) (p : Phase)
    → KeepsRows k rows more → PhaseShows terms k rows t u p → PhaseShows terms k more t u p
phase_rows terms k rows more t u phase.Working keeps h = h
phase_rows terms k rows more t u (phase.WantsTable call carried) keeps h = h
phase_rows terms k rows more t u (phase.WantsObject call carried clock object) keeps h = h
phase_rows terms k rows more t u (phase.Granted place object e) keeps (job, h) =
    let g : IsGranted terms k rows place object e job = h.1 in (
      job,
      (
        h.0,
        record {
          plan = g.plan;
          in_range = g.in_range;
          thread = g.thread;
          answers = g.answers;
          row = keeps place job g.thread g.row;
        },
      ),
    )
phase_rows terms k rows more t u (phase.ToOutside o) keeps (job, h) =
    (job, (h.0, out_rows terms k rows more o job keeps h.1))
phase_rows terms k rows more t u (phase.Outside o) keeps (job, h) =
    (job, (h.0, out_rows terms k rows more o job keeps h.1, h.2))
phase_rows terms k rows more t u (phase.Recorded o) keeps (job, h) =
    (job, (h.0, out_rows terms k rows more o job keeps h.1))
phase_rows terms k rows more t u (phase.Blocked carried) keeps h = h
phase_rows terms k rows more t u phase.Ended keeps h = h

pub thread_rows : (terms : Conditions) (k : ℕ) (rows more : List Row) (t : Thread) (u : lock.Thread)
    → KeepsRows k rows more → ThreadShows terms k rows t u → ThreadShows terms k more t u
thread_rows terms k rows more t u keeps h =
    record {
      clock = h.clock;
      in_time = h.in_time;
      asked = h.asked;
      came = h.came;
      phase = phase_rows terms k rows more t u t.phase keeps h.phase;
    }

pub thread_along : (terms : Conditions) (k j : ℕ) (rows : List Row) (t x : Thread) (u v : lock.Thread) → k ≡ j → t ≡ x
    → u ≡ v → ThreadShows terms j rows x v → ThreadShows terms k rows t u
thread_along terms k j rows t x u v e f g h =
    let P : ℕ → Type 0 = λ n. ThreadShows terms n rows t u in
    let Q : Thread → Type 0 = λ y. ThreadShows terms j rows y u in
    let R : lock.Thread → Type 0 = λ y. ThreadShows terms j rows x y in
    subst P (sym e) (subst Q (sym f) (subst R (sym g) h))

-- threads of which one is changed
pub threads_set : (terms : Conditions) (rows : List Row) (ts : List Thread) (us : List lock.Thread) (i : ℕ) (t : Thread)
    (u : lock.Thread) → i < length ts → length us ≡ length ts
    → ThreadShows terms i rows t u
    → ((k : ℕ) → (k ≡ i → ⊥) → ThreadShows terms k rows (get_or ts k no_thread) (get_or us k nobody))
    → (k : ℕ) → ThreadShows terms k rows (get_or (set ts i t) k no_thread) (get_or (set us i u) k nobody)
threads_set terms rows ts us i t u inside same here others k =
    let within : i < length us = subst (λ (n : ℕ). i < n) (sym same) inside in
    ⊎_elim
    (λ (e : k ≡ i).
    thread_along terms k i rows (get_or (set ts i t) k no_thread) t (get_or (set us i u) k nobody) u e
    (ap (λ (n : ℕ). get_or (set ts i t) n no_thread) e ∙ get_or-set_same ts i t no_thread inside)
    (ap (λ (n : ℕ). get_or (set us i u) n nobody) e ∙ get_or-set_same us i u nobody within) here)
    (λ (e : k ≡ i → ⊥).
    thread_along terms k k rows (get_or (set ts i t) k no_thread) (get_or ts k no_thread) (get_or (set us i u) k nobody)
    (get_or us k nobody) refl
    (get_or-set_other ts i k t no_thread e) (get_or-set_other us i k u nobody e) (others k e))
    (cases_eq k i)

-- ## Events that need no turn

-- thread i makes this one, or none
pub advance_by : (terms : Conditions) (s : State) (i : ℕ) (o : Option Moved)
    → moves (setup_under terms) i (thread_of s i) ≡ o → advance (setup_under terms) i s ≡ move i o s
unfolding advance
advance_by terms s i o is = ap (λ (m : Option Moved). move i m s) is

-- a row after it, by whether it is the one that is open
pub row_left : (i : ℕ) (e : Effect) (r : Row) (b : Bool) → is_open i r ≡ b
    → row_after i e r ≡ (if b then filled_by e r else r)
unfolding row_after
row_left i e r b is = ap (λ (own : Bool). if own then filled_by e r else r) is

-- a lock, by whether the thread holds it
pub lock_left : (i : ℕ) (o : Option ℕ) (l : DetLock) (b : Bool) → is_number l.holder i ≡ b
    → lock_after i o l ≡ (if b then freed_by o l else l)
unfolding lock_after
lock_left i o l b is = ap (λ (own : Bool). if own then freed_by o l else l) is

-- and the world, by whether it holds the table
pub world_by : (i : ℕ) (l : DetLock) (o : Option World) (w : World) (b : Bool) → is_number l.holder i ≡ b
    → world_after i l o w ≡ (if b then or_else o w else w)
unfolding world_after
world_by i l o w b is = ap (λ (own : Bool). if own then or_else o w else w) is

keeps_other : (i k : ℕ) (e : Effect) (rows : List Row) → (k ≡ i → ⊥) → KeepsRows k rows (map (row_after i e) rows)
keeps_other i k e rows apart place job mine there =
    slice_get-map (row_after i e) rows place ∙ ap (option_map (row_after i e)) there
    ∙ ap Some (row_left i e (row_of job) false
    (and_left (job.turn.thread == i) true (ne_eqb job.turn.thread i (λ q. apart (sym mine ∙ q)))))

pub world_keeps : (i : ℕ) (l : DetLock) (w : World) → world_after i l None w ≡ w
unfolding world_after
world_keeps i l w = cond_both (is_number l.holder i) w w (λ (v : World). v ≡ w) (λ mine. refl) (λ other. refl)

-- thread i makes its event, with the world that it leaves: this is what the others and the shared parts see of it
pub whole_changed : (terms : Conditions) (w : Whole) (s : State) (i : ℕ) (t : Thread) (m : Moved) (l : DetLock)
    (ls : List DetLock) (table : Stored) (rows : List HistoryRow)
    → i < length w.threads → Shows terms w s → moves (setup_under terms) i (thread_of s i) ≡ Some m
    → ThreadShows terms i (map (row_after i m.effect) s.rows) t m.thread
    → lock_after i m.effect.table_freed s.table ≡ l → map (lock_after i m.effect.object_freed) s.objects ≡ ls
    → Stands table (world_after i s.table m.effect.world s.world)
    → map shown (map (row_after i m.effect) s.rows) ≡ rows
    → (can_advance (setup_under terms) s i ≡ true)
    × Shows terms (record w { threads = set w.threads i t; lock = l; objects = ls; table = table; rows = rows })
    (advance (setup_under terms) i s)
whole_changed terms w s i t m l ls table rows inside h is shows lock_is objects_is stands rows_is =
    let P : State → Type 0 = Shows terms
    (record w { threads = set w.threads i t; lock = l; objects = ls; table = table; rows = rows }) in (
      ap is_some is,
      subst P (sym (advance_by terms s i (Some m) is))
          (record {
            settings = h.settings;
            count = length-set s.threads i m.thread ∙ h.count ∙ sym (length-set w.threads i t);
            threads = threads_set terms (map (row_after i m.effect) s.rows) w.threads s.threads i t m.thread inside
                h.count shows
                (λ k apart. thread_rows terms k s.rows (map (row_after i m.effect) s.rows)
                (get_or w.threads k no_thread) (thread_of s k) (keeps_other i k m.effect s.rows apart)
                (h.threads k));
            table = lock_is;
            objects = objects_is;
            object_count = ap length (sym objects_is) ∙ length-map s.objects (lock_after i m.effect.object_freed)
                ∙ ap length h.objects ∙ h.object_count;
            world = stands;
            rows = rows_is;
          }),
    )

-- and leaves the world as it is
pub whole_moved : (terms : Conditions) (w : Whole) (s : State) (i : ℕ) (t : Thread) (m : Moved) (l : DetLock)
    (ls : List DetLock) (rows : List HistoryRow)
    → i < length w.threads → Shows terms w s → moves (setup_under terms) i (thread_of s i) ≡ Some m
    → ThreadShows terms i (map (row_after i m.effect) s.rows) t m.thread
    → lock_after i m.effect.table_freed s.table ≡ l → map (lock_after i m.effect.object_freed) s.objects ≡ ls
    → m.effect.world ≡ None → map shown (map (row_after i m.effect) s.rows) ≡ rows
    → (can_advance (setup_under terms) s i ≡ true)
    × Shows terms (record w { threads = set w.threads i t; lock = l; objects = ls; rows = rows })
    (advance (setup_under terms) i s)
whole_moved terms w s i t m l ls rows inside h is shows lock_is objects_is world_is rows_is =
    whole_changed terms w s i t m l ls w.table rows inside h is shows lock_is objects_is
    (subst (Stands w.table) (sym (ap (λ (o : Option World). world_after i s.table o s.world) world_is
    ∙ world_keeps i s.table s.world)) h.world) rows_is

-- ## Events that touch nothing but their thread

first_none : {A : Type 0} (o : Option A) → is_none o ≡ true → None ≡ o
first_none None h = refl
first_none (Some x) h = cc

pub first_kept : (o : Option Given) → first_of o None ≡ o
first_kept None = refl
first_kept (Some x) = refl

filled_quiet : (r : Row) → is_none r.answer ≡ true → filled_by quiet r ≡ r
filled_quiet r h k = record {
  turn = r.turn;
  call = r.call;
  outcome = first_kept r.outcome k;
  answer = first_none r.answer h k;
}

row_quiet : (i : ℕ) (r : Row) → row_after i quiet r ≡ r
unfolding row_after
row_quiet i r = cond_both (is_open i r) (filled_by quiet r) r (λ (q : Row). q ≡ r)
    (λ own. filled_quiet r (and_parts (r.turn.thread == i) (is_none r.answer) own).1) (λ other. refl)

rows_quiet : (i : ℕ) (rows : List Row) → map (row_after i quiet) rows ≡ rows
rows_quiet i [] = refl
rows_quiet i (r ∷ rows) = ap₂ ◌∷◌ (row_quiet i r) (rows_quiet i rows)

pub lock_quiet : (i : ℕ) (l : DetLock) → lock_after i None l ≡ l
unfolding lock_after
lock_quiet i l = cond_both (is_number l.holder i) l l (λ (k : DetLock). k ≡ l) (λ mine. refl) (λ other. refl)

pub locks_quiet : (i : ℕ) (ls : List DetLock) → map (lock_after i None) ls ≡ ls
locks_quiet i [] = refl
locks_quiet i (l ∷ ls) = ap₂ ◌∷◌ (lock_quiet i l) (locks_quiet i ls)

-- a thread after its event, or one that can make none
abbrev pub Moving : Conditions → ℕ → List Row → Bool → Thread → lock.Thread → Type 0
Moving terms i rows true t u = (m : Moved)
    × ((moves (setup_under terms) i u ≡ Some m) × (m.effect ≡ quiet) × ThreadShows terms i rows t m.thread)
Moving terms i rows false t u = (moves (setup_under terms) i u ≡ None) × ThreadShows terms i rows t u

-- where it can make none, nothing changes but what stands for it
pub whole_still : (terms : Conditions) (w : Whole) (s : State) (i : ℕ) (t : Thread) → i < length w.threads
    → Shows terms w s → moves (setup_under terms) i (thread_of s i) ≡ None
    → ThreadShows terms i s.rows t (thread_of s i)
    → (can_advance (setup_under terms) s i ≡ false)
    × Shows terms (record w { threads = set w.threads i t }) (advance (setup_under terms) i s)
whole_still terms w s i t inside h is shows =
    let P : State → Type 0 = Shows terms (record w { threads = set w.threads i t }) in
    let R : List lock.Thread → Type 0 = λ us. (k : ℕ)
    → ThreadShows terms k s.rows (get_or (set w.threads i t) k no_thread) (get_or us k nobody) in (
      ap is_some is,
      subst P (sym (advance_by terms s i None is))
          (record {
            settings = h.settings;
            count = h.count ∙ sym (length-set w.threads i t);
            threads = subst R (set-get_or s.threads i nobody)
                (threads_set terms s.rows w.threads s.threads i t (thread_of s i) inside h.count shows
                (λ k apart. h.threads k));
            table = h.table;
            objects = h.objects;
            object_count = h.object_count;
            world = h.world;
            rows = h.rows;
          }),
    )

pub whole_quiet : (terms : Conditions) (w : Whole) (s : State) (i : ℕ) (moved : Bool) (t : Thread)
    → i < length w.threads → Shows terms w s → Moving terms i s.rows moved t (thread_of s i)
    → (can_advance (setup_under terms) s i ≡ moved)
    × Shows terms (record w { threads = set w.threads i t }) (advance (setup_under terms) i s)
whole_quiet terms w s i true t inside h (m, g) =
    let P : Effect → Type 0 = λ e. ThreadShows terms i (map (row_after i e) s.rows) t m.thread in
    let Q : List Row → Type 0 = λ rows. ThreadShows terms i rows t m.thread in
    whole_moved terms w s i t m w.lock w.objects w.rows inside h g.0
    (subst P (sym g.1) (subst Q (sym (rows_quiet i s.rows)) g.2))
    (ap (λ (e : Effect). lock_after i e.table_freed s.table) g.1 ∙ lock_quiet i s.table ∙ h.table)
    (ap (λ (e : Effect). map (lock_after i e.object_freed) s.objects) g.1 ∙ locks_quiet i s.objects ∙ h.objects)
    (ap (λ (e : Effect). e.world) g.1)
    (ap (λ (e : Effect). map shown (map (row_after i e) s.rows)) g.1 ∙ ap (map shown) (rows_quiet i s.rows) ∙ h.rows)
whole_quiet terms w s i false t inside h g = whole_still terms w s i t inside h g.0 g.1

-- Each event keeps what is found of the rows.
use Rattle.std.proofs.Common.{◌≡◌, ℕ, ◌+◌, ◌<◌, ◌≤◌, ◌⊎◌, List, [], ◌∷◌, ◌++◌, length, map, replicate, Option, Some}
use Rattle.std.proofs.Common.{None, Bool, true, false, is_some, is_none, ◌==◌, sym, refl, ap, ap₂, ◌∙◌, subst, inl, inr}
use Rattle.std.proofs.Common.{⊎_elim, arith}
use Rattle.std.proofs.lemmas.Bool.{false≢true, eq-eqb, and_parts, cond_both, cases_eq, cases_Bool, cases_lt}
use Rattle.std.proofs.lemmas.List.{get_or-set_other, get_or-set_same, get_or_past, get_or-replicate, length-replicate}
use Rattle.std.proofs.lemmas.Option.{same_Some, none-some}
use Rattle.det_mutex.specs.Attempt.{takes}
use Rattle.det_mutex.specs.declared.lock.DetLock.{DetLock}
use Rattle.lock_model.specs.CallTable.{CallTable, Plan, Way, keeps_table, goes_outside}
use Rattle.sequential_object.specs.declared.turn_end.TurnEnd.{TurnEnd}
use Rattle.sequential_object.specs.declared.turn_end.TurnEnd.TheVariants as turn_end
use Rattle.lock_model.specs.CallTable.Plan.{No_object, Object}
use Rattle.lock_model.specs.CallTable.Way.{Inside, Door, Keeps_table}
use Rattle.lock_model.specs.Legal.{IsRight, changed, handed_on, carried_after}
use Rattle.lock_model.specs.Machine.{Setup, Moved, Event, quiet, quietly, after_step, fits_job, with_outcome}
use Rattle.lock_model.specs.Machine.{late_change, answered, answer, moves, is_number, lock_after, or_else, world_after}
use Rattle.lock_model.specs.Machine.{is_open, first_of, filled_by, row_after, move, failed, new_row, granted_phase}
use Rattle.lock_model.specs.Machine.{granted, new_job, planned, reached, wants, can_attempt, attempt, is_allowed}
use Rattle.lock_model.specs.Machine.{happens}
use Rattle.lock_model.specs.Machine.Event.{Advances, Attempts}
use Rattle.posix_terms.specs.declared.step.Step.{Step}
use Rattle.posix_terms.specs.declared.step.Step.TheVariants as step
use Rattle.lock_model.specs.Runs.{run}
use Rattle.lock_model.specs.State.{Job, Phase, Thread, Row, State, nobody, thread_of, start}
use Rattle.lock_model.specs.State.Phase.{Working, WantsTable, WantsObject, Granted, ToOutside, Outside, Recorded}
use Rattle.lock_model.specs.State.Phase.{Blocked, Ended}
use Rattle.sequential_object.specs.Worlds.{World}
use Rattle.posix_terms.specs.Calls.{Call}
use Rattle.posix_terms.specs.Outcomes.{dated, undated}
use Rattle.posix_terms.specs.declared.outcome.Given.{Given}
use Rattle.lock_model.proofs.Dating.{dated_fits}
use Rattle.sequential_object.specs.Step.{Carried}
use Rattle.posix_terms.specs.declared.transcript.Turn.{Turn}
use Rattle.lock_model.proofs.Commute.{row_open, row_closed, thread_move, world_mine, one_holder, advance_move}
use Rattle.lock_model.proofs.Turn.{moves_live, live_within, thread_moved}
use Rattle.lock_model.proofs.Attempt.{holder_after, taken_not}
use Rattle.lock_model.proofs.Diamond.{not_allowed}
use Rattle.lock_model.proofs.Growth.{at_moves, at_attempt, wanting_within}
use Rattle.lock_model.proofs.Walk.{Holding, Pending, next_world, opened, Ready, AtEnd, Walk, first_none, none_is}
use Rattle.lock_model.proofs.Walk.{world_none, handed_other, handed_mine, opened_other, opened_mine, walk_push, Beside}
use Rattle.lock_model.proofs.Walk.{PartOther, LastBeside, AtOpen, walk_tail, walk_found, ready_other, walk_thread}

-- ## Quiet events: the thread alone changes

row_quiet : (i : ℕ) (r : Row) → row_after i quiet r ≡ r
row_quiet i r =
    ⊎_elim
    (λ (h : is_open i r ≡ true).
    let none = none_is r.answer (and_parts (r.turn.thread == i) (is_none r.answer) h).1 in
    row_open i quiet r h ∙ (λ k. record r { outcome = first_none r.outcome k; answer = sym none k }))
    (λ (h : is_open i r ≡ false). row_closed i quiet r h)
    (cases_Bool (is_open i r))

rows_quiet : (i : ℕ) (rs : List Row) → map (row_after i quiet) rs ≡ rs
rows_quiet i [] = refl
rows_quiet i (r ∷ rs) = ap₂ ◌∷◌ (row_quiet i r) (rows_quiet i rs)

pub lock_quiet : (i : ℕ) (l : DetLock) → lock_after i None l ≡ l
unfolding lock_after
lock_quiet i l = cond_both (is_number l.holder i) l l (λ (k : DetLock). k ≡ l) (λ yes. refl) (λ off. refl)

-- what a state's rows are found to be, from the first world on
abbrev pub Right : CallTable → World → State → Type 0
Right calls w s = Walk calls s w (λ i. calls.nothing_carried) (λ i. false) s.rows

-- the thread before and after a quiet event: it holds the same job, and stands as ready
pub record Stands (calls : CallTable) (i : ℕ) (p q : Phase) : Type 0 where
  pub hold : (job : Job) → Holding calls p job → Holding calls q job
  pub ready : (v : World) (l : DetLock) (b : Carried) (o : Bool) → Ready calls v l i p b o → Ready calls v l i q b o

right_quiet : (setup : Setup) (w : World) (s : State) (i : ℕ) (u : Thread)
    → moves setup i (thread_of s i) ≡ Some (quietly u)
    → Stands setup.calls i (thread_of s i).phase u.phase → Right setup.calls w s
    → Right setup.calls w (move i (Some (quietly u)) s)
right_quiet setup w s i u e stands h =
    let z = move i (Some (quietly u)) s in
    let there : thread_of z i ≡ u = thread_moved setup s i (quietly u) e in
    let table : z.table ≡ s.table = lock_quiet i s.table in
    subst (Walk setup.calls z w (λ k. setup.calls.nothing_carried) (λ k. false)) (sym (rows_quiet i s.rows))
    (walk_thread setup.calls s z i w (λ k. setup.calls.nothing_carried) (λ k. false) s.rows
    (λ k apart. thread_move i k (Some (quietly u)) s apart)
    (world_none i s.table s.world)
    (λ k g. subst (λ (l : DetLock). is_number l.holder k ≡ true) (sym table) g)
    (λ job g. subst (λ (t : Thread). Holding setup.calls t.phase job) (sym there) (stands.hold job g))
    (λ v b o k g.
    subst (λ (l : DetLock). Ready setup.calls v l i (thread_of z i).phase b o) (sym table)
    (subst (λ (t : Thread). Ready setup.calls v s.table i t.phase b o) (sym there) (stands.ready v s.table b o g)))
    h)

stands_step : (calls : CallTable) (i : ℕ) (t : Thread) (x : Step) → Stands calls i Working (after_step calls t x).phase
stands_step calls i t (step.Work n) = record { hold = λ job h. h; ready = λ v l b o h. h }
stands_step calls i t (step.Call c) = record { hold = λ job h. h; ready = λ v l b o h. h }
stands_step calls i t step.End = record { hold = λ job h. h; ready = λ v l b o h. tt }

stands_begin : (calls : CallTable) (i : ℕ) (job : Job) → Stands calls i (ToOutside job) (Outside job)
stands_begin calls i job = record { hold = λ j h. h; ready = λ v l b o h. h }

stands_again : (calls : CallTable) (i : ℕ) (c : Call) (b : Carried) → Stands calls i (Blocked c b) (WantsTable c b)
stands_again calls i c b = record { hold = λ j h. h; ready = λ v l d o h. h }

-- ## Events with an effect

-- pending rows of the others
part_move : (calls : CallTable) (s : State) (i : ℕ) (m : Moved) → PartOther calls s (move i (Some m) s) i m.effect
part_move calls s i m v b r us apart p =
    let there = thread_move i r.turn.thread (Some m) s (λ e. apart (sym e)) in
    record {
      job = p.job;
      holding = subst (λ (t : Thread). Holding calls t.phase p.job) (sym there) p.holding;
      call = p.call;
      turn = p.turn;
      found = p.found;
      carried = p.carried;
      plan = p.plan;
      outcome = p.outcome;
      keeps = λ q. let g = p.keeps q in
          (ap (map (row_after i m.effect)) g.0, holder_after r.turn.thread i m.effect.table_freed s.table apart ∙ g.1);
    }

abbrev pub busy_phase : Phase → Bool
busy_phase (Granted job) = true
busy_phase (ToOutside job) = true
busy_phase (Outside job) = true
busy_phase (Recorded job) = true
busy_phase p = false

ready_busy : (calls : CallTable) (v : World) (l : DetLock) (i : ℕ) (b : Carried) (o : Bool) (p : Phase)
    → busy_phase p ≡ true → Ready calls v l i p b o → o ≡ true
ready_busy calls v l i b o (Granted j) g r = r
ready_busy calls v l i b o (ToOutside j) g r = r
ready_busy calls v l i b o (Outside j) g r = r
ready_busy calls v l i b o (Recorded j) g r = r
ready_busy calls v l i b o Working g r = absurd (false≢true g)
ready_busy calls v l i b o (WantsTable d e) g r = absurd (false≢true g)
ready_busy calls v l i b o (WantsObject d e k n way) g r = absurd (false≢true g)
ready_busy calls v l i b o (Blocked d e) g r = absurd (false≢true g)
ready_busy calls v l i b o Ended g r = absurd (false≢true g)

-- a thread in a call has an open row
pub busy_found : (calls : CallTable) (s : State) (i : ℕ) → busy_phase (thread_of s i).phase ≡ true
    → (v : World) (c : ℕ → Carried) (o : ℕ → Bool) → o i ≡ false → AtEnd calls s v c o → ⊥
busy_found calls s i h v c o free a =
    false≢true (sym free ∙ ready_busy calls v s.table i (c i) (o i) (thread_of s i).phase h (a.ready i))

-- after all rows, where thread i made an event that leaves it in this state
last_move : (calls : CallTable) (s : State) (i : ℕ) (m : Moved) (d : Carried) (q : Bool) → i < length s.threads
    → world_after i s.table m.effect.world s.world ≡ s.world
    → ((v : World) (l : DetLock) → Ready calls v l i m.thread.phase d q) → LastBeside calls s (move i (Some m) s) i d q
last_move calls s i m d q l world ready v c a o p beside still given free e =
    let z = move i (Some m) s in
    record {
      world = world ∙ e.world;
      ready = λ k.
          ⊎_elim
          (λ (same : i ≡ k).
          subst (λ (n : ℕ). Ready calls v z.table n (thread_of z n).phase (a n) (p n)) same
          (subst (λ (t : Thread). Ready calls v z.table i t.phase (a i) (p i))
          (sym (get_or-set_same s.threads i m.thread nobody l))
          (subst (λ (x : Carried). Ready calls v z.table i m.thread.phase x (p i)) (sym given)
          (subst (λ (x : Bool). Ready calls v z.table i m.thread.phase d x) (sym free) (ready v z.table)))))
          (λ (apart : i ≡ k → ⊥).
          ready_other calls s z v v k (c k) (a k) (o k) (p k) (thread_move i k (Some m) s apart)
          (beside.carried k apart) (beside.busy k apart)
          (λ g. (refl, holder_after k i m.effect.table_freed s.table (λ w. apart (sym w)) ∙ g)) (e.ready k))
          (cases_eq i k);
    }

-- going on after the open row of thread i, which is now this one
beside_row : (calls : CallTable) (c : ℕ → Carried) (o : ℕ → Bool) (r n : Row) (i : ℕ) → r.turn.thread ≡ i
    → n.turn ≡ r.turn → Beside i (handed_on calls c r) (handed_on calls c n) (opened o r) (opened o n)
beside_row calls c o r n i mine turn =
    let also = ap (λ (t : Turn). t.thread) turn in
    record {
      carried = λ k apart. handed_other calls c n k (λ e. apart (sym (also ∙ mine) ∙ e))
          ∙ sym (handed_other calls c r k (λ e. apart (sym mine ∙ e)));
      busy = λ k apart. opened_other o n k (λ e. apart (sym (also ∙ mine) ∙ e))
          ∙ sym (opened_other o r k (λ e. apart (sym mine ∙ e)));
    }

opened_at : (o : ℕ → Bool) (r : Row) (i : ℕ) (a : Option TurnEnd) → r.turn.thread ≡ i → r.answer ≡ a
    → opened o r i ≡ is_none a
opened_at o r i a mine e = ap (opened o r) (sym mine) ∙ (opened_mine o r ∙ ap is_none e)

handed_at : (calls : CallTable) (c : ℕ → Carried) (r : Row) (i : ℕ) (a : Option TurnEnd) → r.turn.thread ≡ i
    → r.answer ≡ a → handed_on calls c r i ≡ carried_after calls (c i) a
handed_at calls c r i a mine e =
    ap (handed_on calls c r) (sym mine)
    ∙ (handed_mine calls c r ∙ ap₂ (λ (b : Carried) (x : Option TurnEnd). carried_after calls b x) (ap c mine) e)

-- ## `record`

open_record : (setup : Setup) (s : State) (i : ℕ) (job : Job) (o : Given)
    → moves setup i (thread_of s i) ≡ Some (with_outcome (thread_of s i) job o) → (thread_of s i).phase ≡ Outside job
    → fits_job setup.calls job o ≡ true
    → AtOpen setup.calls s (move i (Some (with_outcome (thread_of s i) job o)) s) i
    (with_outcome (thread_of s i) job o).effect
open_record setup s i job o e phase fits v c busy r us mine none free p h =
    let calls = setup.calls in
    let m = with_outcome (thread_of s i) job o in
    let z = move i (Some m) s in
    let n = filled_by m.effect r in
    let held : Holding calls (Outside job) p.job = subst (λ (q : Phase). Holding calls q p.job) phase
    (subst (λ (k : ℕ). Holding calls (thread_of s k).phase p.job) mine p.holding) in
    let same : p.job ≡ job = sym held.0 in
    let l = live_within s i (thread_of s i).clock (moves_live setup i (thread_of s i) m e) in
    let there : thread_of z i ≡ m.thread = thread_moved setup s i m e in
    let came = dated job.turn o in
    let new = record p.job { outcome = Some came } in (
      free,
      record {
        job = new;
        holding =
            subst (λ (k : ℕ). Holding calls (thread_of z k).phase new) (sym mine)
            (subst (λ (t : Thread). Holding calls t.phase new) (sym there) (
              ap (λ (j : Job). record j { outcome = Some came }) held.0,
              held.1,
              (
                came,
                refl,
                ap (λ (j : Job). fits_job calls j came) same
                    ∙ dated_fits calls job o fits,
                ap (λ (j : Job). Some j.turn.clock) (sym same),
              ),
            ));
        call = p.call;
        turn = p.turn;
        found = p.found;
        carried = p.carried;
        plan = p.plan;
        outcome = ap (λ (x : Option Given). first_of x (Some came)) (sym held.2 ∙ p.outcome);
        keeps = λ q. let g = p.keeps q in (
          ap (map (row_after i m.effect)) g.0,
          subst (λ (t : DetLock). is_number t.holder r.turn.thread ≡ true)
              (sym (lock_quiet i s.table)) g.1,
        );
      },
      walk_tail calls s z i m.effect (next_world calls v (c r.turn.thread) r None) (handed_on calls c r)
          (handed_on calls c n) (opened busy r) (opened busy n) (c i) true us
          (part_move calls s i m)
          (last_move calls s i m (c i) true l (world_none i s.table s.world) (λ u t. refl))
          (beside_row calls c busy r n i mine refl)
          (opened_at busy r i None mine none) (handed_at calls c n i None mine refl) (opened_at busy n i None mine refl)
          h,
    )

-- ## `answer`

-- a job that can be answered: it has an outcome exactly where it goes outside, and one that fits
pub record Complete (calls : CallTable) (job : Job) : Type 0 where
  pub whole : is_some job.outcome ≡ goes_outside job.plan
  pub fits : (o : Given) → job.outcome ≡ Some o → (fits_job calls job o ≡ true) × (o.clock ≡ Some job.turn.clock)

complete_granted : (calls : CallTable) (job : Job) → goes_outside job.plan ≡ false → job.outcome ≡ None
    → Complete calls job
complete_granted calls job inside none =
    record { whole = ap is_some none ∙ sym inside; fits = λ o q. absurd (none-some o (sym none ∙ q)) }

complete_recorded : (calls : CallTable) (job : Job) (o : Given) → goes_outside job.plan ≡ true → job.outcome ≡ Some o
    → fits_job calls job o ≡ true → o.clock ≡ Some job.turn.clock → Complete calls job
complete_recorded calls job o outside some fits clock =
    record {
      whole = ap is_some some ∙ sym outside;
      fits = λ u q. subst (λ (x : Given). (fits_job calls job x ≡ true)
          × (x.clock ≡ Some job.turn.clock)) (same_Some o u (sym some ∙ q)) (fits, clock);
    }

right_row : (calls : CallTable) (v : World) (b : Carried) (s : State) (r : Row) (us : List Row)
    (p : Pending calls s v b r us) → Complete calls p.job
    → IsRight calls v b (record r {
      outcome = first_of r.outcome None;
      answer = Some (calls.answer p.job.found p.job.call p.job.outcome p.job.carried);
    })
right_row calls v b s r us p full =
    let out : first_of r.outcome None ≡ p.job.outcome = first_none r.outcome ∙ sym p.outcome in
    record {
      answer = λ a q.
          sym (same_Some (calls.answer p.job.found p.job.call p.job.outcome p.job.carried) a q)
          ∙ ((λ k. calls.answer (p.found k) (p.call k) (p.job.outcome) (p.carried k))
          ∙ ap (λ (o : Option Given). calls.answer v r.call o b) (sym out));
      outcome = λ o q.
          let came : p.job.outcome ≡ Some o = sym out ∙ q in (
            sym (ap goes_outside p.plan) ∙ (sym full.whole ∙ ap is_some came),
            sym (λ k. calls.fits (calls.asks (p.found k) (p.call k) (p.carried k)) (undated o))
                ∙ (and_parts _ _ (full.fits o came).0).0,
            (full.fits o came).1 ∙ ap (λ (t : Turn). Some t.clock) p.turn,
          );
      whole = λ q. ap is_some out ∙ (full.whole ∙ ap goes_outside p.plan);
    }

changed_early : (calls : CallTable) (w : World) (c : Call) (b : Carried) (o : Option Given) (k : Bool) → k ≡ false
    → changed calls w c b o k ≡ calls.change w c b
changed_early calls w c b o true h = absurd (false≢true (sym h))
changed_early calls w c b None false h = refl
changed_early calls w c b (Some x) false h = refl

changed_late : (calls : CallTable) (w : World) (c : Call) (b : Carried) (o : Given) (k : Bool) → k ≡ true
    → changed calls w c b (Some o) k ≡ calls.kept_change w c b o
changed_late calls w c b o true h = refl
changed_late calls w c b o false h = absurd (false≢true h)

late_none : (calls : CallTable) (job : Job) (o : Option Given) (k : Bool) → k ≡ false → late_change calls job o k ≡ None
late_none calls job o true h = absurd (false≢true (sym h))
late_none calls job None false h = refl
late_none calls job (Some x) false h = refl

late_some : (calls : CallTable) (job : Job) (o : Given) (k : Bool) → k ≡ true
    → late_change calls job (Some o) k ≡ Some (calls.kept_change job.found job.call job.carried o)
late_some calls job o true h = refl
late_some calls job o false h = absurd (false≢true h)

keeps_goes : (plan : Plan) → keeps_table plan ≡ true → goes_outside plan ≡ true
keeps_goes No_object h = absurd (false≢true h)
keeps_goes (Object n Inside) h = absurd (false≢true h)
keeps_goes (Object n Door) h = absurd (false≢true h)
keeps_goes (Object n Keeps_table) h = refl

ready_answered : (calls : CallTable) (v : World) (l : DetLock) (i : ℕ) (t : Thread) (c : Call) (n : ℕ) (b : Carried)
    (a : TurnEnd) → Ready calls v l i (answered t c n a).phase (carried_after calls b (Some a)) false
ready_answered calls v l i t c n b (turn_end.Reply r) = (refl, refl)
ready_answered calls v l i t c n b (turn_end.Blocked d) = (refl, refl)

some_of : {A : Type 0} (o : Option A) → is_some o ≡ true → (x : A) × (o ≡ Some x)
some_of None h = absurd (false≢true h)
some_of (Some x) h = (x, refl)

-- the rows after the open row of a call that did not keep the table
open_early : (calls : CallTable) (s : State) (i : ℕ) (job : Job) (v : World) (c : ℕ → Carried) (busy : ℕ
    → Bool) (r : Row) (us : List Row)
    → i < length s.threads → r.turn.thread ≡ i → r.answer ≡ None → keeps_table job.plan ≡ false
    → (p : Pending calls s v (c r.turn.thread) r us) → p.job ≡ job
    → Walk calls s (next_world calls v (c r.turn.thread) r None) (handed_on calls c r) (opened busy r) us
    → (n : Row) → n ≡ filled_by (answer calls (thread_of s i) job).effect r
    → Walk calls (move i (Some (answer calls (thread_of s i) job)) s) (next_world calls v (c r.turn.thread) n n.answer)
    (handed_on calls c n) (opened busy n) (map (row_after i (answer calls (thread_of s i) job).effect) us)
open_early calls s i job v c busy r us l mine none keeps p same h n is =
    let m = answer calls (thread_of s i) job in
    let a = calls.answer job.found job.call job.outcome job.carried in
    let b = c r.turn.thread in
    let z = move i (Some m) s in
    let now = filled_by m.effect r in
    let early : keeps_table (calls.plan v r.call b) ≡ false = sym (ap keeps_table p.plan)
    ∙ (ap (λ (j : Job). keeps_table j.plan) same ∙ keeps) in
    let worlds : next_world calls v b now now.answer ≡ next_world calls v b r None =
    changed_early calls v r.call b (first_of r.outcome None) (keeps_table (calls.plan v r.call b)) early
    ∙ sym (changed_early calls v r.call b None (keeps_table (calls.plan v r.call b)) early) in
    let quiet_world : world_after i s.table m.effect.world s.world ≡ s.world =
    ap (λ (o : Option World). world_after i s.table o s.world)
    (late_none calls job job.outcome (keeps_table job.plan) keeps) ∙ world_none i s.table s.world in
    subst (λ (x : Row). Walk calls z (next_world calls v b x x.answer) (handed_on calls c x) (opened busy x)
    (map (row_after i m.effect) us)) (sym is)
    (subst (λ (w : World). Walk calls z w (handed_on calls c now) (opened busy now) (map (row_after i m.effect) us))
    (sym worlds)
    (walk_tail calls s z i m.effect (next_world calls v b r None) (handed_on calls c r) (handed_on calls c now)
    (opened busy r) (opened busy now) (carried_after calls (c i) (Some a)) false us
    (part_move calls s i m)
    (last_move calls s i m (carried_after calls (c i) (Some a)) false l quiet_world
    (λ u t. ready_answered calls u t i (thread_of s i) job.call _ (c i) a))
    (beside_row calls c busy r now i mine refl)
    (opened_at busy r i None mine none) (handed_at calls c now i (Some a) mine refl)
    (opened_at busy now i (Some a) mine refl) h))

-- after the row of a call that kept the table there is none
open_late : (calls : CallTable) (s : State) (i : ℕ) (job : Job) (v : World) (c : ℕ → Carried) (busy : ℕ
    → Bool) (r : Row)
    → i < length s.threads → r.turn.thread ≡ i → r.answer ≡ None → keeps_table job.plan ≡ true
    → (p : Pending calls s v (c r.turn.thread) r []) → p.job ≡ job → Complete calls job
    → AtEnd calls s (next_world calls v (c r.turn.thread) r None) (handed_on calls c r) (opened busy r)
    → AtEnd calls (move i (Some (answer calls (thread_of s i) job)) s)
    (next_world calls v (c r.turn.thread) (filled_by (answer calls (thread_of s i) job).effect r)
    (Some (calls.answer job.found job.call job.outcome job.carried)))
    (handed_on calls c (filled_by (answer calls (thread_of s i) job).effect r))
    (opened busy (filled_by (answer calls (thread_of s i) job).effect r))
open_late calls s i job v c busy r l mine none keeps p same full h =
    let m = answer calls (thread_of s i) job in
    let a = calls.answer job.found job.call job.outcome job.carried in
    let b = c r.turn.thread in
    let z = move i (Some m) s in
    let now = filled_by m.effect r in
    let holder : is_number s.table.holder i ≡ true = subst (λ (k : ℕ). is_number s.table.holder k ≡ true) mine
    (p.keeps (ap (λ (j : Job). keeps_table j.plan) same ∙ keeps)).1 in
    let late : keeps_table (calls.plan v r.call b) ≡ true = sym (ap keeps_table p.plan)
    ∙ (ap (λ (j : Job). keeps_table j.plan) same ∙ keeps) in
    let out = some_of job.outcome (full.whole ∙ keeps_goes job.plan keeps) in
    let came : first_of r.outcome None ≡ Some out.0 = first_none r.outcome
    ∙ (sym p.outcome ∙ (ap (λ (j : Job). j.outcome) same ∙ out.1)) in
    let beside = beside_row calls c busy r now i mine refl in
    let worlds : calls.kept_change job.found job.call job.carried out.0 ≡ calls.kept_change v r.call b out.0 =
    ap (λ (j : Job). calls.kept_change j.found j.call j.carried out.0) (sym same)
    ∙ (λ k. calls.kept_change (p.found k) (p.call k) (p.carried k) out.0) in
    record {
      world =
          world_mine i s.table m.effect.world s.world holder
          ∙ (ap (λ (o : Option World). or_else o s.world)
          (ap (λ (o : Option Given). late_change calls job o (keeps_table job.plan)) out.1
          ∙ late_some calls job out.0 (keeps_table job.plan) keeps)
          ∙ (worlds
          ∙ sym (ap (λ (o : Option Given). changed calls v r.call b o (keeps_table (calls.plan v r.call b))) came
          ∙ changed_late calls v r.call b out.0 (keeps_table (calls.plan v r.call b)) late)));
      ready = λ k.
          let w = next_world calls v b now (Some a) in
          ⊎_elim
          (λ (e : i ≡ k).
          subst (λ (q : ℕ). Ready calls w z.table q (thread_of z q).phase (handed_on calls c now q) (opened busy now q))
          e
          (subst (λ (t : Thread). Ready calls w z.table i t.phase (handed_on calls c now i) (opened busy now i))
          (sym (get_or-set_same s.threads i m.thread nobody l))
          (subst (λ (x : Carried). Ready calls w z.table i m.thread.phase x (opened busy now i))
          (sym (handed_at calls c now i (Some a) mine refl))
          (subst (λ (x : Bool). Ready calls w z.table i m.thread.phase (carried_after calls (c i) (Some a)) x)
          (sym (opened_at busy now i (Some a) mine refl))
          (ready_answered calls w z.table i (thread_of s i) job.call _ (c i) a)))))
          (λ (apart : i ≡ k → ⊥).
          ready_other calls s z (next_world calls v b r None) w k (handed_on calls c r k) (handed_on calls c now k)
          (opened busy r k) (opened busy now k) (thread_move i k (Some m) s apart)
          (beside.carried k apart) (beside.busy k apart)
          (λ g. absurd (false≢true (sym (one_holder s.table.holder i k holder apart) ∙ g))) (h.ready k))
          (cases_eq i k);
    }

abbrev AtOpenLast : CallTable → State → World → (ℕ → Carried) → (ℕ → Bool) → Row → List Row → Type 0
AtOpenLast calls s v c busy r us = Pending calls s v (c r.turn.thread) r us
    × Walk calls s (next_world calls v (c r.turn.thread) r None) (handed_on calls c r) (opened busy r) us

open_answer : (setup : Setup) (s : State) (i : ℕ) (job : Job)
    → moves setup i (thread_of s i) ≡ Some (answer setup.calls (thread_of s i) job)
    → ((j : Job) → Holding setup.calls (thread_of s i).phase j → (j ≡ job) × Complete setup.calls job)
    → AtOpen setup.calls s (move i (Some (answer setup.calls (thread_of s i) job)) s) i
    (answer setup.calls (thread_of s i) job).effect
open_answer setup s i job e holds v c busy r us mine none free p h =
    let calls = setup.calls in
    let m = answer calls (thread_of s i) job in
    let a = calls.answer job.found job.call job.outcome job.carried in
    let z = move i (Some m) s in
    let now = filled_by m.effect r in
    let b = c r.turn.thread in
    let l = live_within s i (thread_of s i).clock (moves_live setup i (thread_of s i) m e) in
    let facts = holds p.job (subst (λ (k : ℕ). Holding calls (thread_of s k).phase p.job) mine p.holding) in
    let full : Complete calls p.job = subst (Complete calls) (sym facts.0) facts.1 in (
      free,
      subst (λ (j : Job). IsRight calls v b
          (record r {
            outcome = first_of r.outcome None;
            answer = Some (calls.answer j.found j.call j.outcome j.carried);
          })) facts.0
          (right_row calls v b s r us p full),
      ⊎_elim
          (λ (keeps : keeps_table job.plan ≡ true).
          let none_after : us ≡ [] = (p.keeps (ap (λ (j : Job). keeps_table j.plan) facts.0 ∙ keeps)).0 in
          let last = subst (λ (x : List Row). AtOpenLast calls s v c busy r x) none_after (p, h) in
          subst (λ (x : List Row). Walk calls z (next_world calls v b now (Some a)) (handed_on calls c now)
          (opened busy now) (map (row_after i m.effect) x)) (sym none_after)
          (open_late calls s i job v c busy r l mine none keeps last.0
          (holds last.0.job (subst (λ (k : ℕ). Holding calls (thread_of s k).phase last.0.job) mine
          last.0.holding)).0 facts.1 last.1))
          (λ (keeps : keeps_table job.plan ≡ false). open_early calls s i job v c busy r us l mine none keeps p facts.0
          h now refl)
          (cases_Bool (keeps_table job.plan)),
    )

holds_granted : (calls : CallTable) (job j : Job) → Holding calls (Granted job) j → (j ≡ job) × Complete calls job
holds_granted calls job j h = (sym h.0, subst (Complete calls) (sym h.0) (complete_granted calls j h.1 h.2))

holds_recorded : (calls : CallTable) (job j : Job) → Holding calls (Recorded job) j → (j ≡ job) × Complete calls job
holds_recorded calls job j h =
    (sym h.0, subst (Complete calls) (sym h.0) (complete_recorded calls j h.2.0 h.1 h.2.1 h.2.2 h.2.3))

-- ## All events that need no turn

right_found : (setup : Setup) (w : World) (s : State) (i : ℕ) (m : Moved) → busy_phase (thread_of s i).phase ≡ true
    → AtOpen setup.calls s (move i (Some m) s) i m.effect
    → Right setup.calls w s → Right setup.calls w (move i (Some m) s)
right_found setup w s i m h at g =
    walk_found setup.calls s (move i (Some m) s) i m.effect w (λ k. setup.calls.nothing_carried) (λ k. false) s.rows
    (part_move setup.calls s i m) at (busy_found setup.calls s i h) refl g

right_move : (setup : Setup) (w : World) (s : State) (i : ℕ) (m : Moved) → moves setup i (thread_of s i) ≡ Some m
    → Right setup.calls w s → Right setup.calls w (move i (Some m) s)
right_move setup w s i m e g =
    at_moves setup i (thread_of s i) (λ p n. (thread_of s i).phase ≡ p → moves setup i (thread_of s i) ≡ Some n
    → Right setup.calls w (move i (Some n) s)) m
    (record {
      steps = λ x q phase h. right_quiet setup w s i (after_step setup.calls (thread_of s i) x) h
          (subst (λ (p : Phase). Stands setup.calls i p (after_step setup.calls (thread_of s i) x).phase) (sym phase)
          (stands_step setup.calls i (thread_of s i) x)) g;
      begins = λ job phase h. right_quiet setup w s i
          (record (thread_of s i) { phase = Outside job; clock = (thread_of s i).clock + setup.limits.door_cost }) h
          (subst (λ (p : Phase). Stands setup.calls i p (Outside job)) (sym phase) (stands_begin setup.calls i job)) g;
      records = λ job o q fits phase h. right_found setup w s i (with_outcome (thread_of s i) job o)
          (ap busy_phase phase) (open_record setup s i job o h phase fits) g;
      grants = λ job phase h. right_found setup w s i (answer setup.calls (thread_of s i) job) (ap busy_phase phase)
          (open_answer setup s i job h (λ j k. holds_granted setup.calls job j
          (subst (λ (p : Phase). Holding setup.calls p j) phase k))) g;
      answers = λ job phase h. right_found setup w s i (answer setup.calls (thread_of s i) job) (ap busy_phase phase)
          (open_answer setup s i job h (λ j k. holds_recorded setup.calls job j
          (subst (λ (p : Phase). Holding setup.calls p j) phase k))) g;
      agains = λ c b phase h. right_quiet setup w s i (record (thread_of s i) { phase = WantsTable c b }) h
          (subst (λ (p : Phase). Stands setup.calls i p (WantsTable c b)) (sym phase) (stands_again setup.calls i c b))
          g;
    })
    e refl e

right_advance : (setup : Setup) (w : World) (s : State) (i : ℕ) (o : Option Moved) → moves setup i (thread_of s i) ≡ o
    → Right setup.calls w s → Right setup.calls w (move i o s)
right_advance setup w s i None e g = g
right_advance setup w s i (Some m) e g = right_move setup w s i m e g

-- ## Grants

holding_granted : (calls : CallTable) (job : Job) (g : Bool) → goes_outside job.plan ≡ g → job.outcome ≡ None
    → Holding calls (granted_phase g job) job
holding_granted calls job true h n = (refl, h, n)
holding_granted calls job false h n = (refl, h, n)

ready_granted : (calls : CallTable) (v : World) (l : DetLock) (i : ℕ) (job : Job) (g : Bool) (b : Carried) (o : Bool)
    → o ≡ true → Ready calls v l i (granted_phase g job) b o
ready_granted calls v l i job true b o h = h
ready_granted calls v l i job false b o h = h

-- a call of thread i is granted
pub record Grants (calls : CallTable) (s z : State) (i : ℕ) (c : Call) (b : Carried) (clock : ℕ) (plan : Plan) : Type 0
  where
    pub phase : (thread_of z i).phase
        ≡ granted_phase (goes_outside plan) (new_job c b (record { clock = clock; thread = i }) plan s.world)
    pub others : (k : ℕ) → (i ≡ k → ⊥) → thread_of z k ≡ thread_of s k
    pub world : z.world ≡ changed calls s.world c b None (keeps_table plan)
    pub keeps : keeps_table plan ≡ true → is_number z.table.holder i ≡ true
    pub none : (k : ℕ) → (i ≡ k → ⊥) → is_number s.table.holder k ≡ false
    pub calm : (job : Job) → Holding calls (thread_of s i).phase job → ⊥
    pub ready : (v : World) (d : Carried) (o : Bool) → s.world ≡ v → Ready calls v s.table i (thread_of s i).phase d o
        → (o ≡ false) × (d ≡ b) × (plan ≡ calls.plan v c b)

walk_grant : (calls : CallTable) (w : World) (carried : ℕ → Carried) (busy : ℕ → Bool) (s z : State) (i : ℕ) (c : Call)
    (b : Carried) (clock : ℕ) (plan : Plan)
    → Grants calls s z i c b clock plan → (rs : List Row) → Walk calls s w carried busy rs
    → Walk calls z w carried busy (rs ++ new_row (record { clock = clock; thread = i }) c ∷ [])
walk_grant calls w carried busy s z i c b clock plan g rs h =
    let turn : Turn = record { clock = clock; thread = i } in
    let new = new_row turn c in
    let job = new_job c b turn plan s.world in
    walk_push calls s z w carried busy rs new
    (λ v d r us p.
    let apart : i ≡ r.turn.thread → ⊥ =
    λ e. g.calm p.job (subst (λ (k : ℕ). Holding calls (thread_of s k).phase p.job) (sym e) p.holding) in
    record {
      job = p.job;
      holding = subst (λ (t : Thread). Holding calls t.phase p.job) (sym (g.others r.turn.thread apart)) p.holding;
      call = p.call;
      turn = p.turn;
      found = p.found;
      carried = p.carried;
      plan = p.plan;
      outcome = p.outcome;
      keeps = λ q. absurd (false≢true (sym (g.none r.turn.thread apart) ∙ (p.keeps q).1));
    })
    (λ v cs o a.
    let is = g.ready v (cs i) (o i) a.world (a.ready i) in
    let plans : plan ≡ calls.plan v c (cs i) = is.2 ∙ ap (calls.plan v c) (sym is.1) in (
      is.0,
      record {
        job = job;
        holding = subst (λ (p : Phase). Holding calls p job) (sym g.phase)
            (holding_granted calls job (goes_outside plan) refl refl);
        call = refl;
        turn = refl;
        found = a.world;
        carried = sym is.1;
        plan = plans;
        outcome = refl;
        keeps = λ q. (refl, g.keeps q);
      },
      record {
        world = g.world ∙ ((λ k. changed calls (a.world k) c b None (keeps_table (plans k)))
            ∙ ap (λ (d : Carried). changed calls v c d None (keeps_table (calls.plan v c (cs i)))) (sym is.1));
        ready = λ k.
            ⊎_elim
            (λ (e : i ≡ k).
            subst (λ (n : ℕ). Ready calls (next_world calls v (cs i) new None) z.table n (thread_of z n).phase
            (handed_on calls cs new n) (opened o new n)) e
            (subst (λ (p : Phase). Ready calls (next_world calls v (cs i) new None) z.table i p
            (handed_on calls cs new i) (opened o new i)) (sym g.phase)
            (ready_granted calls (next_world calls v (cs i) new None) z.table i job (goes_outside plan)
            (handed_on calls cs new i) (opened o new i) (opened_at o new i None refl refl))))
            (λ (apart : i ≡ k → ⊥).
            ready_other calls s z v (next_world calls v (cs i) new None) k (cs k) (handed_on calls cs new k) (o k)
            (opened o new k) (g.others k apart)
            (handed_other calls cs new k apart) (opened_other o new k apart)
            (λ q. absurd (false≢true (sym (g.none k apart) ∙ q))) (a.ready k))
            (cases_eq i k);
      },
    ))
    h

-- ## Attempts

wanting_calm : (calls : CallTable) (p : Phase) (job : Job) → wants p ≡ true → Holding calls p job → ⊥
wanting_calm calls (WantsTable c b) job w h = h
wanting_calm calls (WantsObject c b clock n way) job w h = h
wanting_calm calls Working job w h = h
wanting_calm calls (Blocked c b) job w h = h
wanting_calm calls Ended job w h = h
wanting_calm calls (Granted j) job w h = false≢true w
wanting_calm calls (ToOutside j) job w h = false≢true w
wanting_calm calls (Outside j) job w h = false≢true w
wanting_calm calls (Recorded j) job w h = false≢true w

right_failed : (calls : CallTable) (w : World) (s : State) (i : ℕ) → i < length s.threads → Right calls w s
    → Right calls w (failed s i (thread_of s i))
right_failed calls w s i l h =
    let z = failed s i (thread_of s i) in
    let there : thread_of z i ≡ record (thread_of s i) { clock = (thread_of s i).clock + 1 } =
    get_or-set_same s.threads i _ nobody l in
    walk_thread calls s z i w (λ k. calls.nothing_carried) (λ k. false) s.rows
    (λ k apart. get_or-set_other s.threads i k _ nobody (λ e. apart (sym e)))
    refl (λ k q. q)
    (λ job q. subst (λ (t : Thread). Holding calls t.phase job) (sym there) q)
    (λ v b o e q. subst (λ (t : Thread). Ready calls v s.table i t.phase b o) (sym there) q)
    h

right_planned : (calls : CallTable) (w : World) (s : State) (i : ℕ) (c : Call) (b : Carried) (plan : Plan)
    → i < length s.threads → (thread_of s i).phase ≡ WantsTable c b → takes s.table (thread_of s i).clock ≡ true
    → calls.plan s.world c b ≡ plan → Right calls w s
    → Right calls w (planned calls s i (thread_of s i) c b (record { clock = (thread_of s i).clock; thread = i })
    plan s.world)
right_planned calls w s i c b No_object l phase can plan h =
    let t = thread_of s i in
    let turn : Turn = record { clock = t.clock; thread = i } in
    let z = planned calls s i t c b turn No_object s.world in
    walk_grant calls w (λ k. calls.nothing_carried) (λ k. false) s z i c b t.clock No_object
    (record {
      phase = ap (λ (u : Thread). u.phase)
          (get_or-set_same s.threads i (granted t (t.clock + 1) (new_job c b turn No_object s.world) false) nobody l);
      others = λ k apart. get_or-set_other s.threads i k _ nobody (λ e. apart (sym e));
      world = refl;
      keeps = λ q. absurd (false≢true q);
      none = λ k apart. taken_not s.table t.clock k can;
      calm = λ job q. wanting_calm calls (thread_of s i).phase job (ap wants phase) q;
      ready = λ v d o e q. let r = subst (λ (p : Phase). Ready calls v s.table i p d o) phase q in
          (r.0, r.1, sym plan ∙ ap (λ (u : World). calls.plan u c b) e);
    })
    s.rows h
right_planned calls w s i c b (Object n way) l phase can plan h =
    let t = thread_of s i in
    let turn : Turn = record { clock = t.clock; thread = i } in
    let z = planned calls s i t c b turn (Object n way) s.world in
    let there : (thread_of z i).phase ≡ WantsObject c b t.clock n way =
    ap (λ (u : Thread). u.phase) (get_or-set_same s.threads i
    (record t { phase = WantsObject c b t.clock n way; clock = t.clock + 1 }) nobody l) in
    walk_thread calls s z i w (λ k. calls.nothing_carried) (λ k. false) s.rows
    (λ k apart. get_or-set_other s.threads i k _ nobody (λ e. apart (sym e)))
    refl (λ k q. absurd (false≢true (sym (taken_not s.table t.clock k can) ∙ q)))
    (λ job q. absurd (wanting_calm calls (thread_of s i).phase job (ap wants phase) q))
    (λ v d o e q.
    let r = subst (λ (p : Phase). Ready calls v s.table i p d o) phase q in
    subst (λ (p : Phase). Ready calls v z.table i p d o) (sym there)
    (r.0, r.1, sym (ap (λ (u : World). calls.plan u c b) e) ∙ plan, eq-eqb i i refl))
    h

-- the facts that all grants of an object share
grants_object : (calls : CallTable) (s z : State) (i : ℕ) (c : Call) (b : Carried) (clock n : ℕ) (way : Way)
    → (thread_of s i).phase ≡ WantsObject c b clock n way → is_number s.table.holder i ≡ true
    → (thread_of z i).phase ≡ granted_phase (goes_outside (Object n way))
    (new_job c b (record { clock = clock; thread = i }) (Object n way) s.world)
    → ((k : ℕ) → (i ≡ k → ⊥) → thread_of z k ≡ thread_of s k)
    → z.world ≡ changed calls s.world c b None (keeps_table (Object n way))
    → (keeps_table (Object n way) ≡ true → is_number z.table.holder i ≡ true)
    → Grants calls s z i c b clock (Object n way)
grants_object calls s z i c b clock n way phase holder now others world keeps =
    record {
      phase = now;
      others = others;
      world = world;
      keeps = keeps;
      none = λ k apart. one_holder s.table.holder i k holder apart;
      calm = λ job q. wanting_calm calls (thread_of s i).phase job (ap wants phase) q;
      ready = λ v d o e q. let r = subst (λ (p : Phase). Ready calls v s.table i p d o) phase q in (r.0, r.1, sym r.2);
    }

right_reached : (calls : CallTable) (w : World) (s : State) (i : ℕ) (c : Call) (b : Carried) (clock n : ℕ) (way : Way)
    → i < length s.threads → (thread_of s i).phase ≡ WantsObject c b clock n way
    → is_number s.table.holder i ≡ true → Right calls w s
    → Right calls w (reached calls s i (thread_of s i) c b (record { clock = clock; thread = i }) n way s.world)
right_reached calls w s i c b clock n Inside l phase holder h =
    let z = reached calls s i (thread_of s i) c b (record { clock = clock; thread = i }) n Inside s.world in
    walk_grant calls w (λ k. calls.nothing_carried) (λ k. false) s z i c b clock (Object n Inside)
    (grants_object calls s z i c b clock n Inside phase holder
    (ap (λ (u : Thread). u.phase) (get_or-set_same s.threads i _ nobody l))
    (λ k apart. get_or-set_other s.threads i k _ nobody (λ e. apart (sym e))) refl (λ q. absurd (false≢true q)))
    s.rows h
right_reached calls w s i c b clock n Door l phase holder h =
    let z = reached calls s i (thread_of s i) c b (record { clock = clock; thread = i }) n Door s.world in
    walk_grant calls w (λ k. calls.nothing_carried) (λ k. false) s z i c b clock (Object n Door)
    (grants_object calls s z i c b clock n Door phase holder
    (ap (λ (u : Thread). u.phase) (get_or-set_same s.threads i _ nobody l))
    (λ k apart. get_or-set_other s.threads i k _ nobody (λ e. apart (sym e))) refl (λ q. absurd (false≢true q)))
    s.rows h
right_reached calls w s i c b clock n Keeps_table l phase holder h =
    let z = reached calls s i (thread_of s i) c b (record { clock = clock; thread = i }) n Keeps_table s.world in
    walk_grant calls w (λ k. calls.nothing_carried) (λ k. false) s z i c b clock (Object n Keeps_table)
    (grants_object calls s z i c b clock n Keeps_table phase holder
    (ap (λ (u : Thread). u.phase) (get_or-set_same s.threads i _ nobody l))
    (λ k apart. get_or-set_other s.threads i k _ nobody (λ e. apart (sym e))) refl (λ q. holder))
    s.rows h

right_attempt : (setup : Setup) (w : World) (s : State) (i : ℕ) → can_attempt setup s i ≡ true → Right setup.calls w s
    → Right setup.calls w (attempt setup i s)
right_attempt setup w s i can g =
    let l = wanting_within setup s i can in
    at_attempt setup s i (λ p z. (thread_of s i).phase ≡ p → Right setup.calls w z) can
    (record {
      fails = λ p h phase. right_failed setup.calls w s i l g;
      plans = λ c b h phase. right_planned setup.calls w s i c b (setup.calls.plan s.world c b) l phase h refl g;
      reaches = λ c b clock n way h k phase. right_reached setup.calls w s i c b clock n way l phase h g;
    })
    refl

-- ## Runs

pub right_event : (setup : Setup) (w : World) (s : State) (e : Event) → is_allowed setup e s ≡ true
    → Right setup.calls w s → Right setup.calls w (happens setup e s)
right_event setup w s (Advances i) can g = subst (Right setup.calls w) (sym (advance_move setup i s))
    (right_advance setup w s i (moves setup i (thread_of s i)) refl g)
right_event setup w s (Attempts i) can g = right_attempt setup w s i can g

-- what every allowed event keeps, every run keeps
pub run_keeps : (setup : Setup) (P : State → Type 0) (events : List Event) (s : State)
    → ((z : State) (e : Event) → is_allowed setup e z ≡ true → P z → P (happens setup e z)) → P s
    → P (run setup events s)
run_keeps setup P [] s step h = h
run_keeps setup P (e ∷ es) s step h =
    run_keeps setup P es (happens setup e s) step
    (⊎_elim (λ (can : is_allowed setup e s ≡ true). step s e can h)
    (λ (off : is_allowed setup e s ≡ false). subst P (sym (not_allowed setup e s off)) h)
    (cases_Bool (is_allowed setup e s)))

abbrev pub first_thread : Thread
first_thread = record { phase = Working; clock = 1; asked = []; replies = []; came = [] }

-- at the start a thread has done nothing, or is not there
pub start_thread : (threads objects : ℕ) (w : World) (k : ℕ) → (thread_of (start threads objects w) k ≡ first_thread)
    ⊎ (thread_of (start threads objects w) k ≡ nobody)
start_thread threads objects w k =
    ⊎_elim
    (λ (l : k < threads). inl (get_or-replicate threads k first_thread nobody l))
    (λ (l : threads ≤ k). let e = length-replicate threads first_thread in
    inr (get_or_past (replicate threads first_thread) k nobody (omega arith)))
    (cases_lt k threads)

pub right_start : (calls : CallTable) (threads objects : ℕ) (w : World) → Right calls w (start threads objects w)
right_start calls threads objects w =
    let s = start threads objects w in
    record {
      world = refl;
      ready = λ k.
          ⊎_elim
          (λ (e : thread_of s k ≡ first_thread).
          subst (λ (t : Thread). Ready calls w s.table k t.phase calls.nothing_carried false) (sym e) (refl, refl))
          (λ (e : thread_of s k ≡ nobody).
          subst (λ (t : Thread). Ready calls w s.table k t.phase calls.nothing_carried false) (sym e) tt)
          (start_thread threads objects w k);
    }

pub right_run : (setup : Setup) (threads objects : ℕ) (w : World) (events : List Event)
    → Right setup.calls w (run setup events (start threads objects w))
right_run setup threads objects w events = run_keeps setup (Right setup.calls w) events (start threads objects w)
    (λ z e can h. right_event setup w z e can h) (right_start setup.calls threads objects w)

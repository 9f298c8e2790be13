-- Each event keeps each door there, by what the lock machine says of the table and by the claims of the threads.
use Rattle.std.proofs.Common.{◌≡◌, ◌⊎◌, ℕ, zero, suc, ◌<◌, ◌++◌, ◌∷◌, List, [], length, get_or, replicate}
use Rattle.std.proofs.Common.{slice_get}
use Rattle.std.proofs.Common.{Option, Some, None, Result, Ok, Bool, true, false, is_some, inl, inr, sym, refl, ap, ap₂}
use Rattle.std.proofs.Common.{◌∙◌, subst, ⊎_elim}
use Rattle.std.proofs.lemmas.Bool.{false≢true}
use Rattle.std.proofs.lemmas.Option.{none-some, same_Some}
use Rattle.std.specs.FinMap as fin
use Rattle.std.specs.Ordering.{nat_cmp}
use Rattle.std.specs.Prelude.{slice_index_or}
use Rattle.call_turns.specs.Doors.{KeepsDoors, brings_back, is_ok}
use Rattle.call_turns.specs.Store.{Stored, number_locked}
use Rattle.descriptor_table.specs.Doors.{HaveOne}
use Rattle.lock_machine.specs.Conditions.{Conditions}
use Rattle.lock_machine.specs.DoorMoves.{AnswersAt, EndsDoors, PlansDoors, StartsDoors}
use Rattle.lock_machine.specs.Refusals.{goes_outside, has_answer, is_blocked, phase_at, wants_object, wants_table}
use Rattle.lock_machine.specs.Refusals.{works}
use Rattle.lock_machine.specs.Shows.{IsOut, PhaseShows}
use Rattle.lock_machine.specs.Starting.{first_thread, first_whole}
use Rattle.lock_machine.specs.Threads.{Thread}
use Rattle.lock_machine.specs.Views.{no_thread}
use Rattle.lock_machine.specs.Whole.{Whole, thread_at}
use Rattle.lock_machine.specs.declared.refused.LockRefused.{LockRefused}
use Rattle.lock_machine.specs.declared.thread.Outing.{Outing}
use Rattle.lock_machine.specs.declared.thread.Phase.{Phase}
use Rattle.lock_machine.specs.declared.thread.Phase.TheVariants as phase
use Rattle.lock_model.specs.CallTable.{keeps_table as plan_keeps}
use Rattle.lock_model.specs.CallTable.Plan.{Object}
use Rattle.lock_model.specs.Events.{thread_in}
use Rattle.lock_model.specs.Held.{holds_table, job_in, object_in, row_of}
use Rattle.lock_model.specs.Machine.{Event, attempt}
use Rattle.lock_model.specs.Machine.Event.{Advances, Attempts}
use Rattle.lock_model.specs.RealCalls.{way_of}
use Rattle.lock_model.specs.Rows.{shown}
use Rattle.lock_model.specs.Runs.{own}
use Rattle.lock_model.specs.State as lock
use Rattle.lock_model.specs.State.{Job, Row, State, thread_of}
use Rattle.posix_terms.specs.Calls.{Call}
use Rattle.posix_terms.specs.declared.limits.TheConstants.Limits as limit
use Rattle.posix_terms.specs.declared.object.Door.{Door}
use Rattle.posix_terms.specs.declared.outcome.Given.{Given}
use Rattle.posix_terms.specs.declared.reply.Answer.{Answer}
use Rattle.posix_terms.specs.declared.transcript.HistoryRow.{HistoryRow}
use Rattle.posix_terms.specs.declared.transcript.Settings.{Settings}
use Rattle.sequential_object.specs.Answers.{numbered}
use Rattle.sequential_object.specs.Locked.{locked_object}
use Rattle.sequential_object.specs.Numbers.{number_of}
use Rattle.sequential_object.specs.Step.{Carried, asks}
use Rattle.sequential_object.specs.Worlds.{World}
use Rattle.machine.specs.DoorLaws.{DoorLaws}
use Rattle.machine.specs.Doors.{put, taken_along, without}
use Rattle.machine.specs.DoorsThere.{AreThere, Claim, DoorsThere, Names, Needs, Stage, claim_by, claim_in, claims_in}
use Rattle.machine.specs.DoorsThere.{is_success, outcome_of}
use Rattle.machine.specs.DoorsThere.Needs.{GoesWith, IsBorn, WasOpened}
use Rattle.machine.specs.DoorsThere.Stage.{Back, Going, Out}
use Rattle.machine.specs.Runs.{Coming, IsEnd, setup_with, terms_with}
use Rattle.machine.specs.Runs.Coming.{Brings, Nothing}
use Rattle.machine.proofs.Claims.{GoesOn, HasOpened, begun, by_bool, came_back, granted, same_claims, settled}
use Rattle.machine.proofs.ClaimsShown.{advanced_claim, advanced_home, are_locked, claim_of}
use Rattle.machine.proofs.ClaimsShown.{claims_shown, home_inside, is_home, keeps_alone, locks_within, next_claim}
use Rattle.machine.proofs.ClaimsShown.{others_stay, planned_lock, plans, row_shown}
use Rattle.machine.proofs.DoorNames.{names_kept, names_one, names_within, next_free, one_kept, one_opened}
use Rattle.machine.proofs.Ending.{Leads}

-- ## The phases of events

pub working_home : (rows : List HistoryRow) (p : Phase) → works p ≡ true → is_home (claim_in rows p) ≡ true
working_home rows phase.Working is = refl
working_home rows p is = absurd (false≢true is)

pub blocked_home : (rows : List HistoryRow) (p : Phase) → is_blocked p ≡ true → is_home (claim_in rows p) ≡ true
blocked_home rows (phase.Blocked carried) is = refl
blocked_home rows p is = absurd (false≢true is)

pub answering_home : (rows : List HistoryRow) (p : Phase) → has_answer p ≡ true → is_home (claim_in rows p) ≡ true
answering_home rows (phase.Granted row object ends) is = refl
answering_home rows (phase.Recorded o) is = refl
answering_home rows p is = absurd (false≢true is)

object_wanted : (terms : Conditions) (i : ℕ) (rows : List Row) (t : Thread) (u : lock.Thread) (p : Phase)
    → PhaseShows terms i rows t u p → wants_object p ≡ true → holds_table u.phase ≡ true
object_wanted terms i rows t u (phase.WantsObject call carried clock object) h is = ap holds_table h.1.0
object_wanted terms i rows t u p h is = absurd (false≢true is)

table_unclaimed : (rows : List HistoryRow) (p : Phase) → wants_table p ≡ true → claim_in rows p ≡ None
table_unclaimed rows (phase.WantsTable call carried) is = refl
table_unclaimed rows p is = absurd (false≢true is)

object_unclaimed : (rows : List HistoryRow) (p : Phase) → wants_object p ≡ true → claim_in rows p ≡ None
object_unclaimed rows (phase.WantsObject call carried clock object) is = refl
object_unclaimed rows p is = absurd (false≢true is)

pub past_own : (gs : List Given) (x : Given) → slice_get (gs ++ x ∷ []) (length gs) ≡ Some x
past_own [] x = refl
past_own (y ∷ gs) x = past_own gs x

-- what the lock machine says of the numbers of doors, in an event of thread i
record Opens (old new : Whole) (i : ℕ) : Type 0 where
  names : (n : ℕ) (d : Door) → Names new.table n d → Names old.table n d ⊎ HasOpened (claims_in old) i n
  single : HaveOne new.table.table.descriptions

opens_none : (old new : Whole) (i : ℕ) → KeepsDoors old.table new.table → HaveOne old.table.table.descriptions
    → Opens old new i
opens_none old new i adds one = record {
  names = λ n d x. inl (names_kept old.table new.table adds n d x);
  single = one_kept old.table new.table adds one;
}

opens_stays : (old new : Whole) (i : ℕ) → new.table ≡ old.table → HaveOne old.table.table.descriptions → Opens old new i
opens_stays old new i same one = record {
  names = λ n d x. inl (subst (λ (t : Stored). Names t n d) same x);
  single = subst (λ (t : Stored). HaveOne t.table.descriptions) (sym same) one;
}

-- the same doors under the same table
same_table : (D : Type 0) (old new : Whole) (doors : List (Option D)) → new.table ≡ old.table
    → HaveOne old.table.table.descriptions → AreThere D (claims_in new) (Names old.table) doors → DoorsThere D new doors
same_table D old new doors same one h = record {
  there = subst (λ (t : Stored). AreThere D (claims_in new) (Names t) doors) (sym same) h;
  single = subst (λ (t : Stored). HaveOne t.table.descriptions) (sym same) one;
}

-- ## Each event

module _ (D : Type 0) (laws : DoorLaws) (old new : Whole) (s : State) (doors : List (Option D)) where
  -- one after which its thread has no claim
  rests : (c : Coming) (e : Event) → Leads old new c e s → claims_in new (thread_in e) ≡ None
      → ((x : Claim) → claims_in old (thread_in e) ≡ Some x → x.stage ≡ Out → ⊥)
      → Opens old new (thread_in e) → DoorsThere D old doors → DoorsThere D new doors
  rests c e m none inside opens h = record {
    there = settled (claims_in old) (claims_in new) (thread_in e) (others_stay laws old new c e s m) D (Names old.table)
        (Names new.table) doors (are_locked old s laws m.before) none inside opens.names h.there;
    single = opens.single;
  }

  advanced : (c : Coming) (i : ℕ) → Leads old new c (Advances i) s → is_home (claims_in old i) ≡ true → Opens old new i
      → DoorsThere D old doors → DoorsThere D new doors
  advanced c i m home opens h =
      rests c (Advances i) m (advanced_home laws old new c i s m home)
      (λ x has out. home_inside (claims_in old i) x home has out) opens h

  -- `ask`, `end` and `again`
  pub quiet_doors : (c : Coming) (i : ℕ) → Leads old new c (Advances i) s → is_home (claims_in old i) ≡ true
      → new.table ≡ old.table → DoorsThere D old doors → DoorsThere D new doors
  quiet_doors c i m home same h =
      advanced c i m home (opens_stays old new i same h.single) h

  -- an attempt of a thread that has no claim
  attempted : (i : ℕ) → Leads old new Nothing (Attempts i) s → claims_in old i ≡ None → claims_in new i ≡ None
      → KeepsDoors old.table new.table → DoorsThere D old doors → DoorsThere D new doors
  attempted i m before none adds h =
      rests Nothing (Attempts i) m none (λ x has out. cc)
      (opens_none old new i adds h.single) h

  -- `try_table`
  pub table_doors : (i : ℕ) → Leads old new Nothing (Attempts i) s → wants_table (phase_at old i) ≡ true
      → PlansDoors (phase_at new i) old.table new.table → DoorsThere D old doors → DoorsThere D new doors
  table_doors i m wanted plans h = by_phase (phase_at new i) refl plans
    where
      by_phase : (p : Phase) → phase_at new i ≡ p → PlansDoors p old.table new.table → DoorsThere D new doors
      by_phase (phase.ToOutside o) is never = absurd never
      by_phase (phase.Outside o) is never = absurd never
      by_phase (phase.Recorded o) is never = absurd never
      by_phase p is adds =
          attempted i m (table_unclaimed old.rows (phase_at old i) wanted) (ap (claim_in new.rows) is) adds h

  -- `try_node`
  pub object_doors : (i : ℕ) → Leads old new Nothing (Attempts i) s → wants_object (phase_at old i) ≡ true
      → StartsDoors (phase_at new i) old.table new.table → DoorsThere D old doors → DoorsThere D new doors
  object_doors i m wanted starts h = by_phase (phase_at new i) refl starts
    where
      holds : holds_table (thread_of s i).phase ≡ true
      holds = let ends = m.before in
          object_wanted (terms_with old (own s)) i s.rows (thread_at old i) (thread_of s i) (phase_at old i)
          (ends.1.threads i).phase wanted

      before : claims_in old i ≡ None
      before = object_unclaimed old.rows (phase_at old i) wanted

      by_phase : (p : Phase) → phase_at new i ≡ p → StartsDoors p old.table new.table → DoorsThere D new doors
      by_phase (phase.ToOutside o) is (adds, (object, goes)) = record {
        there = granted (claims_in old) (claims_in new) i (others_stay laws old new Nothing (Attempts i) s m) D
            (Names old.table) (Names new.table) doors (claim_by Going o)
            (are_locked new (attempt (setup_with old Nothing s) i s) laws m.after)
            (record {
              before = before;
              now = ap (claim_in new.rows) is;
              goes = refl;
              table = λ k e has keeps. keeps_alone old s laws m.before i k e holds has keeps;
              finds = λ n takes. let d = goes.finds n takes in (d.0, (d.1.0, λ kept. (d.1.1 kept).1));
              apart = λ n d frees takes named. goes.apart d frees (subst (λ (m : ℕ). Names new.table m d)
                  (same_Some n object (sym takes ∙ goes.own frees)) named);
              kinds = (goes.along, λ n kept takes. let d = goes.finds n takes in (d.1.1 kept).0);
            })
            (names_kept old.table new.table adds) h.there;
        single = one_kept old.table new.table adds h.single;
      }
      by_phase (phase.Outside o) is never = absurd never
      by_phase (phase.Recorded o) is never = absurd never
      by_phase p is adds = attempted i m before (ap (claim_in new.rows) is) adds h

  -- `answer`: the number that a call locked to open a door is that of its claim, and is free
  opens_locked : (i n : ℕ) (o : Outing) (q : HistoryRow) → IsEnd old s → phase_at old i ≡ phase.Recorded o
      → o.keeps_table ≡ true → slice_get old.rows o.row ≡ Some q → number_locked old.table q.call o.carried ≡ Some n
      → (o.object ≡ Some n) × (slice_index_or old.table.table.objects n None ≡ None)
  opens_locked i n o q ends is keeps at number = (
    out.object_is ∙ sym (ap object_in out.plan) ∙ planned_lock old s laws ends i job here
        ∙ ap (λ (w : World). numbered w (locked_object w.object job.call job.carried)) found ∙ locked,
    subst (λ (m : ℕ). slice_index_or old.table.table.objects m None ≡ None)
        (same_Some (number_of s.world s.world.object.next_object) n (sym (ap (numbered s.world) next) ∙ locked))
        (next_free old.table s.world ends.1.world),
  )
    where
      shows : PhaseShows (terms_with old (own s)) i s.rows (thread_at old i) (thread_of s i) (phase.Recorded o)
      shows = subst (PhaseShows (terms_with old (own s)) i s.rows (thread_at old i) (thread_of s i)) is
          (ends.1.threads i).phase

      job : Job
      job = shows.0

      out : IsOut (terms_with old (own s)) i s.rows o job
      out = shows.1.1

      here : job_in (thread_of s i).phase ≡ Some job
      here = ap job_in shows.1.0

      found : job.found ≡ s.world
      found = let x = plans old s laws ends in
          x.kept i job here (ap plan_keeps (out.plan ∙ ap (λ (b : Bool). Object out.object (way_of true b)) keeps))

      same : job.call ≡ q.call
      same = ap (λ (r : HistoryRow). r.call) (same_Some (shown (row_of job)) q
          (sym (row_shown (terms_with old (own s)) i s.rows o job out)
          ∙ ap (λ (rows : List HistoryRow). slice_get rows o.row) ends.1.rows ∙ at))

      locked : numbered s.world (locked_object s.world.object job.call job.carried) ≡ Some n
      locked = ap₂ (λ (c : Call) (b : Carried). numbered s.world (locked_object s.world.object c b)) same out.carried
          ∙ sym (laws.numbers old.table s.world q.call o.carried ends.1.world) ∙ number

      next : locked_object s.world.object job.call job.carried ≡ Some s.world.object.next_object
      next = laws.next s.world.object job.call job.carried (sym out.keeps ∙ keeps)
          (ap is_some (ap (λ (w : World). asks w.object job.call job.carried) (sym found) ∙ out.asks_is))

  answer_opens : (i : ℕ) (r : Result Answer LockRefused) (told : Answer) → IsEnd old s → r ≡ Ok told
      → AnswersAt (phase_at old i) r old new → HaveOne old.table.table.descriptions → Opens old new i
  answer_opens i r told ends is answers one =
      by_phase (phase_at old i) refl (subst (λ (y : Result Answer LockRefused). AnswersAt (phase_at old i) y old new) is
      answers)
    where
      by_phase : (p : Phase) → phase_at old i ≡ p → AnswersAt p (Ok told) old new → Opens old new i
      by_phase (phase.Recorded o) here (q, outcome, (at, (came, ends_so))) = by_keeps o.keeps_table refl ends_so
        where
          came_is : is_success (outcome_of (slice_get old.rows o.row)) ≡ is_ok outcome
          came_is = ap (λ (r : Option HistoryRow). is_success (outcome_of r)) at ∙ ap is_success came

          by_keeps : (b : Bool) → o.keeps_table ≡ b → EndsDoors b q.call o.carried outcome old.table new.table
              → Opens old new i
          by_keeps false frees same = opens_stays old new i same one
          by_keeps true keeps (object, (number, (adds, fails))) = by_bool (is_ok outcome)
              (λ ok.
              let locked = opens_locked i object o q ends here keeps at number in
              record {
                names = λ n d x. ⊎_elim (λ (was : Names old.table n d). inl was)
                    (λ (same : n ≡ object). inr (record {
                      claim = claim_by (Back (is_success (outcome_of (slice_get old.rows o.row)))) o;
                      has = ap (claim_in old.rows) here;
                      back = ap Back (came_is ∙ ok);
                      keeps = keeps;
                      locks = locked.0 ∙ ap Some (sym same);
                    }))
                    (names_one old.table new.table object adds n d x);
                single = one_opened old.table new.table s.world object ends.1.world locked.1 adds one;
              })
              (λ bad. opens_stays old new i (fails bad) one)
      by_phase p here same = opens_stays old new i same one

  pub answer_doors : (i : ℕ) (r : Result Answer LockRefused) (told : Answer) → Leads old new Nothing (Advances i) s
      → has_answer (phase_at old i) ≡ true → r ≡ Ok told → AnswersAt (phase_at old i) r old new → DoorsThere D old doors
      → DoorsThere D new doors
  answer_doors i r told m right is answers h =
      advanced Nothing i m (answering_home old.rows (phase_at old i) right)
      (answer_opens i r told m.before is answers h.single) h

  goes_on : (c : Coming) (i : ℕ) (x : Claim) (stage : Stage) → Leads old new c (Advances i) s
      → claims_in old i ≡ Some x
      → (let setup = setup_with old c s in
      let t : lock.Thread = thread_of s i in
      next_claim (slice_get (setup.supply.outcomes i) (length t.came)) (Some x) ≡ Some (record x { stage = stage }))
      → GoesOn (claims_in old) (claims_in new) i x stage
  goes_on c i x stage m has next =
      let setup = setup_with old c s in
      let t : lock.Thread = thread_of s i in
      record {
        others = others_stay laws old new c (Advances i) s m;
        has = has;
        now = advanced_claim laws old new c i s m
            ∙ ap (next_claim (slice_get (setup.supply.outcomes i) (length t.came))) has ∙ next;
      }

  -- `begin_outside`
  pub begun_doors : (i : ℕ) → Leads old new Nothing (Advances i) s → goes_outside (phase_at old i) ≡ true
      → new.table ≡ old.table → DoorsThere D old doors → DoorsThere D new (without doors (taken_along (phase_at old i)))
  begun_doors i m goes same h = by_phase (phase_at old i) refl goes
    where
      by_phase : (p : Phase) → phase_at old i ≡ p → goes_outside p ≡ true
          → DoorsThere D new (without doors (taken_along p))
      by_phase (phase.ToOutside o) is right =
          same_table D old new (without doors o.errand.door) same h.single
          (begun D (claims_in old) (claims_in new) (Names old.table) doors i (claim_by Going o)
          (goes_on Nothing i (claim_by Going o) Out m (ap (claim_in old.rows) is) refl) refl h.there)
      by_phase p is right = absurd (false≢true right)

  -- `record`
  pub recorded_doors : (i : ℕ) (o : Outing) (g : Given) (back opened : Option D)
      → Leads old new (Brings g) (Advances i) s → phase_at old i ≡ phase.Outside o → new.table ≡ old.table
      → length doors ≡ limit.OBJECTS → (brings_back o.errand.kind ≡ true → is_some back ≡ true)
      → (o.keeps_table ≡ true → is_ok g.outcome ≡ true → is_some opened ≡ true) → DoorsThere D old doors
      → DoorsThere D new (put (put doors o.errand.door back) o.object opened)
  recorded_doors i o g back opened m is same size comes opens h =
      let c = claim_by Out o in
      let has : claims_in old i ≡ Some c = ap (claim_in old.rows) is in
      let ends = m.before in
      let given = past_own (let t : lock.Thread = thread_of s i in t.came) g in
      same_table D old new (put (put doors o.errand.door back) o.object opened) same h.single
      (came_back D (claims_in old) (claims_in new) (Names old.table) doors i c (is_ok g.outcome) back opened
      (goes_on (Brings g) i c (Back (is_ok g.outcome)) m has
      (ap (λ (came : Option Given). next_claim came (Some c)) given))
      refl
      (λ n locks. subst (λ (k : ℕ). n < k) (sym size) (locks_within old s laws m.before i n c has locks))
      (λ n d named. subst (λ (k : ℕ). n < k) (sym size) (names_within old.table s.world ends.1.world n d named))
      comes opens h.there)

-- ## Attempts that fail, skipped

pub skipped_doors : (D : Type 0) (old new : Whole) (s last : State) (doors : List (Option D)) → IsEnd old s
    → IsEnd new last → ((i : ℕ) → (thread_of last i).phase ≡ (thread_of s i).phase) → new.table ≡ old.table
    → DoorsThere D old doors → DoorsThere D new doors
skipped_doors D old new s last doors before after phases same h =
    same_table D old new doors same h.single
    (same_claims D (claims_in old) (claims_in new) (Names old.table) (Names old.table) doors
    (λ i. claims_shown new last i after ∙ ap claim_of (phases i) ∙ sym (claims_shown old s i before))
    (λ n d x. x) h.there)

-- ## The start

pub first_doors : (D : Type 0) (settings : Settings) (threads : ℕ)
    → DoorsThere D (first_whole settings threads) (replicate limit.OBJECTS None)
first_doors D settings threads =
    record {
      there = record {
        needed = λ n x. absurd (needs_none n x);
        apart = λ i n c d has frees takes is. absurd (no_claim i c has);
        own = λ i k n c e has also takes his. absurd (no_claim i c has);
        kinds = λ i c has. absurd (no_claim i c has);
      };
      single = λ q r e f at_q at_r same out also. absurd (none-some e (sym (fin.get-empty nat_cmp q) ∙ at_q));
    }
  where
    unclaimed : (m k : ℕ)
        → (let t : Thread = get_or (replicate m first_thread) k no_thread in claim_in [] t.phase) ≡ None
    unclaimed zero k = refl
    unclaimed (suc m) zero = refl
    unclaimed (suc m) (suc k) = unclaimed m k

    no_claim : (i : ℕ) (c : Claim) → claims_in (first_whole settings threads) i ≡ Some c → ⊥
    no_claim i c has = none-some c (sym (unclaimed threads i) ∙ has)

    needs_none : (n : ℕ)
        → Needs (claims_in (first_whole settings threads)) (let w = first_whole settings threads in Names w.table) n → ⊥
    needs_none n (IsBorn d is home) = none-some is.description (sym (fin.get-empty nat_cmp is.key) ∙ is.there)
    needs_none n (GoesWith i c has goes takes) = no_claim i c has
    needs_none n (WasOpened i c has back keeps locks) = no_claim i c has

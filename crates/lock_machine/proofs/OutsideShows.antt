-- A call that goes outside does what the lock machine's does.
use Rattle.std.proofs.Common.{◌≡◌, ℕ, zero, suc, ◌+◌, ◌<◌, ◌≤◌, ◌^◌, List, [], ◌∷◌, length, map, get_or, set, slice_get}
use Rattle.std.proofs.Common.{Option, Some, None, Bool, true, false, ◌==◌, ◌&&◌, ◌||◌, not, sym, refl, ap, ap₂, ◌∙◌}
use Rattle.std.proofs.Common.{subst, arith}
use Rattle.std.proofs.lemmas.Bool.{cond-true, cond-false, false≢true, eq-eqb, leb-true, leb-false, le-leb, ne_eqb}
use Rattle.std.proofs.lemmas.Bool.{and_parts}
use Rattle.std.proofs.lemmas.Bool.Decides.{nat_tests}
use Rattle.std.proofs.lemmas.List.{get_or-set_same, map-set, length-append, set-get_or}
use Rattle.std.proofs.lemmas.Option.{same_Some, none-some, slice_get-map}
use Rattle.std.specs.Prelude.{is_some, nat_le, nat_lt, option_map}
use Rattle.det_mutex.specs.Attempt.{freed, new_lock}
use Rattle.det_mutex.specs.declared.lock.DetLock.{DetLock}
use Rattle.lock_model.specs.CallTable.{Plan, has_object, keeps_table}
use Rattle.lock_model.specs.CallTable.Plan.{Object}
use Rattle.lock_model.specs.Held.{AreHeld, HavePlans, HaveRows, holds_table, job_in, object_held, object_in, row_of}
use Rattle.lock_model.specs.Machine as machine
use Rattle.lock_model.specs.Machine.{Effect, Moved, advance, answered, begin_outside, can_advance, filled_by, first_of}
use Rattle.lock_model.specs.Machine.{fits_job, is_number, late_change, lock_after, moves, moves_in, one_if, quietly}
use Rattle.lock_model.specs.Machine.{record_outcome, row_after, with_outcome, within, world_after}
use Rattle.sequential_object.specs.Numbers.{world_with}
use Rattle.lock_model.specs.RealCalls.{real_calls, real_limits, way_of}
use Rattle.sequential_object.specs.Answers.{answer_in, answers_query, outcome_in}
use Rattle.lock_model.specs.Rows.{shown}
use Rattle.lock_model.specs.State as lock
use Rattle.lock_model.specs.State.{Job, Row, State, nobody, thread_of}
use Rattle.lock_model.specs.State.Phase.{Outside, Recorded, ToOutside}
use Rattle.sequential_object.specs.Worlds.{World}
use Rattle.call_turns.specs.Patience.{as_answer, ended, outside_ending}
use Rattle.call_turns.specs.Store.{Stands, Stored}
use Rattle.sequential_object.specs.declared.turn_end.TurnEnd.{TurnEnd}
use Rattle.sequential_object.specs.declared.turn_end.TurnEnd.TheVariants as end
use Rattle.descriptor_table.specs.Agreement.{query_of}
use Rattle.posix_terms.specs.Outcomes.{dated, fits, is_at, is_kind, suits, undated}
use Rattle.sequential_object.specs.Locked as posix_locked
use Rattle.sequential_object.specs.Object as posix_state
use Rattle.sequential_object.specs.Step.{Carried, Stepped, asks, step}
use Rattle.posix_terms.specs.declared.transcript.Settings.{Settings}
use Rattle.posix_terms.specs.Calls.{Call}
use Rattle.posix_terms.specs.declared.limits.TheConstants.Limits as limit
use Rattle.posix_terms.specs.declared.outcome.Given.{Given}
use Rattle.posix_terms.specs.declared.outcome.Outcome.{Outcome}
use Rattle.posix_terms.specs.declared.reply.Answer as posix_answer
use Rattle.posix_terms.specs.Queries.{Query}
use Rattle.posix_terms.specs.declared.transcript.HistoryRow.{HistoryRow}
use Rattle.lock_machine.specs.Held.{told_as}
use Rattle.lock_machine.specs.Outings.{AnswersOutside, Begins, BeginsIf, ConcludesHeld, ConcludesIf, ConcludesRow}
use Rattle.lock_machine.specs.Outings.{ConcludesWith, EndsTurn, OutsideParts, RecordedParts, Records, RecordsIf}
use Rattle.lock_machine.specs.Outings.{RecordsRow, answer_cost, answers_errand, can_count, recorded_parts}
use Rattle.lock_machine.specs.Outings.{outside_parts, row_concluded, row_recorded, table_freed, went_on}
use Rattle.lock_machine.specs.Conditions.{Conditions, setup_under}
use Rattle.lock_machine.specs.Shows.{as_it_comes, dated_by, row_outside, Advanced, IsOut, PhaseShows, Shows}
use Rattle.lock_machine.specs.Shows.{ThreadShows, replied}
use Rattle.lock_machine.specs.Whole.{Whole, thread_at}
use Rattle.lock_machine.specs.Diverging.{is_diverging, diverging_in}
use Rattle.lock_machine.specs.Threads.{Thread}
use Rattle.lock_machine.specs.declared.outside.Progress.{Progress}
use Rattle.lock_machine.specs.declared.outside.Progress.TheVariants as progress
use Rattle.lock_machine.specs.declared.thread.Outing.{Outing}
use Rattle.lock_machine.specs.declared.thread.Phase.{Phase}
use Rattle.lock_machine.specs.declared.thread.Phase.TheVariants as phase
use Rattle.lock_machine.proofs.AnswerShows.{answer_by, answered_clock, fill_one, late_none, locks_freed, open_row}
use Rattle.lock_machine.proofs.AnswerShows.{replies_answered, replies_moved, replies_still, rows_answered}
use Rattle.lock_machine.proofs.AskShows.{within_no, within_yes}
use Rattle.lock_machine.proofs.Requests.{within_a_record}
use Rattle.lock_machine.specs.Requests.{AskLittle, Little}
use Rattle.lock_machine.proofs.ShownThreads.{Moving, advance_by, lock_left, lock_quiet, locks_quiet, whole_changed}
use Rattle.lock_machine.proofs.ShownThreads.{whole_moved, whole_still, world_by, world_keeps}

-- ## `begin_outside`

moves_begin : (terms : Conditions) (i : ℕ) (u : lock.Thread) (job : Job) → u.phase ≡ ToOutside job
    → moves (setup_under terms) i u ≡ within (2 ^ 62) (begin_outside (real_limits terms.settings) u job)
unfolding moves
moves_begin terms i u job e = ap (λ (p : lock.Phase). within (2 ^ 62) (moves_in (setup_under terms) i u p)) e

abbrev begun : Conditions → lock.Thread → Job → Moved
begun terms u job = quietly (record u { phase = Outside job; clock = u.clock + terms.settings.door_cost })

begin_yes : (terms : Conditions) (u : lock.Thread) (job : Job) → nat_lt (length u.came) limit.OUTCOMES ≡ true
    → begin_outside (real_limits terms.settings) u job ≡ Some (begun terms u job)
begin_yes terms u job few = cond-true _ (Some (begun terms u job)) None few

begin_no : (terms : Conditions) (u : lock.Thread) (job : Job) → nat_lt (length u.came) limit.OUTCOMES ≡ false
    → begin_outside (real_limits terms.settings) u job ≡ None
begin_no terms u job many = cond-false _ (Some (begun terms u job)) None many

below : (a b : ℕ) → nat_lt a b ≡ true → a < b
below a b h = grind (arith, nat_tests)

pub begin_moves : (terms : Conditions) (i : ℕ) (rows : List Row) (moved : Bool) (t v : Thread) (u : lock.Thread)
    (o : Outing) → t.phase ≡ phase.ToOutside o → ThreadShows terms i rows t u
    → Begins terms.settings.door_cost o moved t v → Moving terms i rows moved v u
begin_moves terms i rows moved t v u o is h begins =
    let P : Phase → Type 0 = λ p. PhaseShows terms i rows t u p in
    let (job, now) = (subst P is h.phase) in
    by_tests job now.0 now.1 (nat_lt t.came limit.OUTCOMES) (nat_le (t.clock + terms.settings.door_cost) (2 ^ 62)) refl
    refl begins
  where
    few_shown : (b : Bool) → nat_lt t.came limit.OUTCOMES ≡ b → nat_lt (length u.came) limit.OUTCOMES ≡ b
    few_shown b e = ap (λ (n : ℕ). nat_lt n limit.OUTCOMES) h.came ∙ e

    still : moves (setup_under terms) i u ≡ None → moved ≡ false → v ≡ t → Moving terms i rows moved v u
    still none moved_is v_is =
        let Q : Bool → Type 0 = λ b. Moving terms i rows b v u in
        let R : Thread → Type 0 = λ y. ThreadShows terms i rows y u in
        subst Q (sym moved_is) (none, subst R (sym v_is) h)

    by_tests : (job : Job) → u.phase ≡ ToOutside job → IsOut terms i rows o job → (a b : Bool)
        → nat_lt t.came limit.OUTCOMES ≡ a → nat_le (t.clock + terms.settings.door_cost) (2 ^ 62) ≡ b
        → BeginsIf (a && b) terms.settings.door_cost o moved t v → Moving terms i rows moved v u
    by_tests job at out true true few room (moved_is, v_is) =
        let m = begun terms u job in
        let in_time : t.clock + terms.settings.door_cost ≤ 2 ^ 62 =
        leb-true (t.clock + terms.settings.door_cost) (2 ^ 62) room in
        let fits : u.clock + terms.settings.door_cost ≤ 2 ^ 62 =
        subst (λ (c : ℕ). c + terms.settings.door_cost ≤ 2 ^ 62) (sym h.clock) in_time in
        let Q : Bool → Type 0 = λ b. Moving terms i rows b v u in
        let R : Thread → Type 0 = λ y. ThreadShows terms i rows y m.thread in
        subst Q (sym moved_is) (
          m,
          (
            moves_begin terms i u job at ∙ ap (within (2 ^ 62)) (begin_yes terms u job (few_shown true few))
                ∙ within_yes (2 ^ 62) m fits,
            refl,
            subst R (sym v_is) (record {
              clock = ap (λ (c : ℕ). c + terms.settings.door_cost) h.clock;
              in_time = in_time;
              asked = h.asked;
              came = h.came;
              phase = (job, (refl, out, below t.came limit.OUTCOMES few));
            }),
          ),
        )
    by_tests job at out true false few room (moved_is, v_is) =
        let m = begun terms u job in
        let past : 2 ^ 62 < t.clock + terms.settings.door_cost = leb-false (t.clock + terms.settings.door_cost) (2 ^ 62)
        room in
        let full : 2 ^ 62 < u.clock + terms.settings.door_cost =
        subst (λ (c : ℕ). 2 ^ 62 < c + terms.settings.door_cost) (sym h.clock) past in
        still (moves_begin terms i u job at ∙ ap (within (2 ^ 62)) (begin_yes terms u job (few_shown true few))
        ∙ within_no (2 ^ 62) m full) moved_is v_is
    by_tests job at out false b few room (moved_is, v_is) =
        still (moves_begin terms i u job at ∙ ap (within (2 ^ 62)) (begin_no terms u job (few_shown false few)))
        moved_is v_is

-- ## `record`

errand_fits : AskLittle → (terms : Conditions) (s : State) (i : ℕ) (o : Outing) (job : Job) (g : Given)
    → IsOut terms i s.rows o job → answers_errand o.errand job.turn g ≡ fits_job (real_calls terms.settings) job g
errand_fits law terms s i o job g out =
    let little : Little (query_of job.call o.errand) =
    subst Little out.asks_is (law job.found.object job.call job.carried) in
    ap (λ (b : Bool). suits o.errand.kind o.errand.asked g && (is_at job.turn g.clock && b))
    (le-leb o.errand.asked 65535 (within_a_record o.errand.kind o.errand.asked little))
    ∙ last_true (suits o.errand.kind o.errand.asked g) (is_at job.turn g.clock)
    ∙ ap (λ (r : Option Query). answers_query r (undated g) && is_at job.turn g.clock) (sym out.asks_is)
  where
    last_true : (a b : Bool) → (a && (b && true)) ≡ (a && b)
    last_true true true = refl
    last_true true false = refl
    last_true false b = refl

moves_record : (terms : Conditions) (i : ℕ) (u : lock.Thread) (job : Job) → u.phase ≡ Outside job
    → moves (setup_under terms) i u
    ≡ within (2 ^ 62) (record_outcome (real_calls terms.settings) u job
    (slice_get (terms.supply.outcomes i) (length u.came)))
unfolding moves
moves_record terms i u job e = ap (λ (p : lock.Phase). within (2 ^ 62) (moves_in (setup_under terms) i u p)) e

divergence_is : (terms : Conditions) (s : State) (i : ℕ) (job : Job) → (thread_of s i).phase ≡ Outside job
    → is_diverging (setup_under terms) s i
    ≡ diverging_in (setup_under terms) (Outside job) (slice_get (terms.supply.outcomes i) (length (thread_of s i).came))
divergence_is terms s i job e =
    ap (λ (p : lock.Phase). diverging_in (setup_under terms) p
    (slice_get (terms.supply.outcomes i) (length (thread_of s i).came))) e

shown_recorded : (job : Job) (e : Effect) (g : Given) → job.outcome ≡ None → e.outcome ≡ Some g → e.answer ≡ None
    → shown (filled_by e (row_of job)) ≡ record (shown (row_of job)) { outcome = Some g.outcome }
shown_recorded job e g none out ans k =
    record {
      call = job.call;
      turn = job.turn;
      outcome = ap outcome_in (ap₂ first_of none out) k;
      answer = ap (λ (a : Option TurnEnd). (shown (record (row_of job) { answer = a })).answer) ans k;
    }

rows_recorded : (i : ℕ) (s : State) (w : List HistoryRow) (place : ℕ) (job : Job) (e : Effect) (g : Given) → HaveRows s
    → map shown s.rows ≡ w → job.turn.thread ≡ i → slice_get s.rows place ≡ Some (row_of job)
    → job.outcome ≡ None → e.outcome ≡ Some g → e.answer ≡ None
    → map shown (map (row_after i e) s.rows) ≡ set w place (record (shown (row_of job)) { outcome = Some g.outcome })
rows_recorded i s w place job e g rows is mine at none out ans =
    let open_is = open_row i job mine in
    ap (map shown) (fill_one i e s.rows place (row_of job) at open_is
    (λ j q there o. rows.one i j place q (row_of job) there at o open_is))
    ∙ map-set shown s.rows place (filled_by e (row_of job))
    ∙ ap₂ (λ (rs : List HistoryRow) (q : HistoryRow). set rs place q) is (shown_recorded job e g none out ans)

-- a thread that is outside
record Waiting (terms : Conditions) (w : Whole) (s : State) (i : ℕ) (o : Outing) (job : Job) : Type 0 where
  inside : i < length w.threads
  shows : Shows terms w s
  rows : HaveRows s
  phase : (thread_of s i).phase ≡ Outside job
  out : IsOut terms i s.rows o job
  few : (thread_at w i).came < limit.OUTCOMES
  none : job.outcome ≡ None

abbrev pub recorded_at : Whole → ℕ → RecordedParts
recorded_at w i = recorded_parts (thread_at w i) w.rows

abbrev pub recorded_whole : Whole → ℕ → RecordedParts → Whole
recorded_whole w i p = record w { threads = set w.threads i p.thread; rows = p.rows }

abbrev Recording : Conditions → Whole → State → ℕ → Progress → Given → RecordedParts → Type 0
Recording terms w s i made g p = Advanced made i g (recorded_whole w i p) terms s

-- an outcome that does not answer
recorded_no : (terms : Conditions) (w : Whole) (s : State) (i : ℕ) (o : Outing) (job : Job) (g : Given)
    (new : RecordedParts) → Waiting terms w s i o job
    → slice_get (terms.supply.outcomes i) (length (thread_of s i).came) ≡ Some g
    → fits_job (real_calls terms.settings) job g ≡ false → new ≡ recorded_at w i
    → Recording terms w s i progress.Diverges (dated job.turn g) new
recorded_no terms w s i o job g new a given_is misfit new_is =
    let u = thread_of s i in
    let calls = real_calls terms.settings in
    let none : record_outcome calls u job (Some g) ≡ None = cond-false (fits_job calls job g) _ None misfit in
    let is : moves (setup_under terms) i u ≡ None = moves_record terms i u job a.phase
    ∙ ap (within (2 ^ 62)) (ap (record_outcome calls u job) given_is ∙ none) in
    let P : RecordedParts → Type 0 = λ p. Recording terms w s i progress.Diverges (dated job.turn g) p in
    let held = whole_still terms w s i (thread_at w i) a.inside a.shows is (a.shows.threads i) in
    subst P (sym new_is) (record {
      can = held.0;
      diverges = divergence_is terms s i job a.phase ∙ ap (diverging_in (setup_under terms) (Outside job)) given_is
          ∙ ap not misfit;
      shows = held.1;
      came = ap (λ (z : State). (thread_of z i).came) (advance_by terms s i None is);
    })

recorded_yes : (terms : Conditions) (w : Whole) (s : State) (i : ℕ) (o : Outing) (job : Job) (g : Given)
    → Waiting terms w s i o job → slice_get (terms.supply.outcomes i) (length (thread_of s i).came) ≡ Some g
    → fits_job (real_calls terms.settings) job g ≡ true
    → Recording terms w s i progress.Moves (dated job.turn g) (row_recorded o g (shown (row_of job)) (recorded_at w i))
recorded_yes terms w s i o job g a given_is good =
    let u = thread_of s i in
    let t = thread_at w i in
    let h = a.shows.threads i in
    let calls = real_calls terms.settings in
    let m : Moved = with_outcome u job g in
    let new = row_recorded o g (shown (row_of job)) (recorded_at w i) in
    let fits_in : u.clock ≤ 2 ^ 62 = subst (λ (c : ℕ). c ≤ 2 ^ 62) (sym h.clock) h.in_time in
    let recorded : record_outcome calls u job (Some g) ≡ Some m = cond-true (fits_job calls job g) (Some m) None good in
    let is : moves (setup_under terms) i u ≡ Some m = moves_record terms i u job a.phase
    ∙ ap (within (2 ^ 62)) (ap (record_outcome calls u job) given_is ∙ recorded)
    ∙ within_yes (2 ^ 62) m fits_in in
    let within_s : i < length s.threads = subst (λ (n : ℕ). i < n) (sym a.shows.count) a.inside in
    let mine : thread_of (advance (setup_under terms) i s) i ≡ m.thread =
    ap (λ (z : State). thread_of z i) (advance_by terms s i (Some m) is)
    ∙ get_or-set_same s.threads i m.thread nobody within_s in
    let moved = whole_moved terms w s i new.thread m w.lock w.objects new.rows a.inside a.shows is
    (record {
      clock = h.clock;
      in_time = h.in_time;
      asked = h.asked;
      came = length-append u.came (dated job.turn g ∷ [])
          ∙ ap (λ (n : ℕ). n + 1) h.came;
      phase = (record job { outcome = Some (dated job.turn g) }, (refl, out_recorded m));
    })
    (lock_quiet i s.table ∙ a.shows.table) (locks_quiet i s.objects ∙ a.shows.objects) refl
    (rows_recorded i s w.rows o.row job m.effect (dated job.turn g) a.rows a.shows.rows a.out.thread a.out.row a.none
    refl refl) in
    record {
      can = moved.0;
      diverges = divergence_is terms s i job a.phase ∙ ap (diverging_in (setup_under terms) (Outside job)) given_is
          ∙ ap not good;
      shows = moved.1;
      came = ap (λ (x : lock.Thread). x.came) mine;
    }
  where
    slice_get_set : (rs : List Row) (k : ℕ) (x y : Row) → slice_get rs k ≡ Some y → slice_get (set rs k x) k ≡ Some x
    slice_get_set [] k x y e = absurd (none-some y e)
    slice_get_set (r ∷ rs) zero x y e = refl
    slice_get_set (r ∷ rs) (suc k) x y e = slice_get_set rs k x y e

    out_recorded : (m : Moved) → IsOut terms i (map (row_after i (with_outcome (thread_of s i) job g).effect) s.rows) o
        (record job { outcome = Some (dated job.turn g) })
    out_recorded m =
        let e = (with_outcome (thread_of s i) job g).effect in
        let open_is = open_row i job a.out.thread in
        let filled : map (row_after i e) s.rows ≡ set s.rows o.row (filled_by e (row_of job)) =
        fill_one i e s.rows o.row (row_of job) a.out.row open_is
        (λ j q there x. a.rows.one i j o.row q (row_of job) there a.out.row x open_is) in
        let same : filled_by e (row_of job) ≡ row_of (record job { outcome = Some (dated job.turn g) }) =
        λ k. record {
          turn = job.turn;
          call = job.call;
          outcome = ap (λ (x : Option Given). first_of x (Some (dated job.turn g))) a.none k;
          answer = None;
        } in
        record {
          object = a.out.object;
          object_is = a.out.object_is;
          in_range = a.out.in_range;
          plan = a.out.plan;
          thread = a.out.thread;
          carried = a.out.carried;
          asks_is = a.out.asks_is;
          door = a.out.door;
          waits = a.out.waits;
          keeps = a.out.keeps;
          ends = a.out.ends;
          row = ap (λ (rs : List Row). slice_get rs o.row) filled
              ∙ slice_get_set s.rows o.row (filled_by e (row_of job)) (row_of job) a.out.row
              ∙ ap (λ (r : Row). Some r) same;
        }

room_for : (n : ℕ) → n < limit.OUTCOMES → nat_lt (n + 1) (2 ^ 32) ≡ true
room_for n few = grind (arith, nat_tests)

recorded_by : AskLittle → (terms : Conditions) (w : Whole) (s : State) (i : ℕ) (o : Outing) (job : Job)
    (made : Progress) (new : RecordedParts) (g : Given) → Waiting terms w s i o job
    → slice_get (terms.supply.outcomes i) (length (thread_of s i).came) ≡ Some g
    → (b room : Bool) → answers_errand o.errand job.turn g ≡ b → room ≡ true
    → RecordsIf b room made o g (shown (row_of job)) (recorded_at w i) new
    → Recording terms w s i made (dated job.turn g) new
recorded_by law terms w s i o job made new g a at false room e few (made_is, new_is) =
    let P : Progress → Type 0 = λ p. Recording terms w s i p (dated job.turn g) new in
    subst P (sym made_is) (recorded_no terms w s i o job g new a at (sym (errand_fits law terms s i o job g a.out) ∙ e)
    new_is)
recorded_by law terms w s i o job made new g a at true false e few h = absurd (false≢true few)
recorded_by law terms w s i o job made new g a at true true e few (made_is, new_is) =
    let P : Progress → Type 0 = λ p. Recording terms w s i p (dated job.turn g) new in
    let Q : RecordedParts → Type 0 = λ p. Recording terms w s i progress.Moves (dated job.turn g) p in
    subst P (sym made_is) (subst Q (sym new_is)
    (recorded_yes terms w s i o job g a at (sym (errand_fits law terms s i o job g a.out) ∙ e)))

pub record_whole : AskLittle → (terms : Conditions) (w : Whole) (s : State) (i : ℕ) (o : Outing) (g : Given)
    (made : Progress) (new : RecordedParts) → i < length w.threads → Shows terms w s → HaveRows s
    → HavePlans (real_calls terms.settings) s → (thread_at w i).phase ≡ phase.Outside o
    → slice_get (terms.supply.outcomes i) (length (thread_of s i).came) ≡ Some g
    → Records made o g (recorded_at w i) new → Recording terms w s i made (as_it_comes w i g) new
record_whole law terms w s i o given made new inside h own plans is at records =
    let P : Phase → Type 0 = λ p. PhaseShows terms i s.rows (thread_at w i) (thread_of s i) p in
    let g = subst P is (h.threads i).phase in
    let job : Job = g.0 in
    let a : Waiting terms w s i o job = record {
      inside = inside;
      shows = h;
      rows = own;
      phase = g.1.0;
      out = g.1.1;
      few = g.1.2;
      none = plans.waits i g.0 g.1.0;
    } in
    let there : slice_get w.rows o.row ≡ Some (shown (row_of job)) = ap (λ (rs : List HistoryRow). slice_get rs o.row)
    (sym h.rows) ∙ slice_get-map shown s.rows o.row ∙ ap (option_map shown) a.out.row in
    let R : Option HistoryRow → Type 0 = λ q. RecordsRow q made o given (recorded_at w i) new in
    let comes : as_it_comes w i given ≡ dated job.turn given = ap (λ (p : Phase). dated_by (row_outside p w.rows) given)
    is ∙ ap (λ (q : Option HistoryRow). dated_by q given) there in
    subst (λ (x : Given). Recording terms w s i made x new) (sym comes)
    (recorded_by law terms w s i o job made new given a at (answers_errand o.errand job.turn given)
    (can_count (thread_at w i)) refl (room_for (thread_at w i).came a.few) (subst R there records))

-- ## `answer`

-- the answer of a job that goes outside with this object, and keeps the table or not
abbrev pub concluding : lock.Thread → Call → Bool → TurnEnd → Option World → Moved
concluding u c keeps a w =
    record {
      thread = answered u c (u.clock + answer_cost keeps) a;
      effect = record {
        outcome = None;
        answer = Some a;
        object_freed = Some u.clock;
        table_freed = Some (u.clock + 1);
        world = w;
      };
    }

plan_kept : (n : ℕ) (keeps : Bool) → keeps_table (Object n (way_of true keeps)) ≡ keeps
plan_kept n true = refl
plan_kept n false = refl

costs : (c : ℕ) (keeps : Bool) → c + 1 + one_if keeps ≡ c + answer_cost keeps
costs c true = omega arith
costs c false = omega arith

concludes_by : (u : lock.Thread) (c : Call) (n : ℕ) (keeps : Bool) (a : TurnEnd) (w : Option World)
    → answer_by u c (Object n (way_of true keeps)) a w ≡ concluding u c keeps a w
concludes_by u c n keeps a w k =
    record {
      thread = answered u c ((ap (λ (b : Bool). u.clock + 1 + one_if b) (plan_kept n keeps) ∙ costs u.clock keeps) k) a;
      effect = record {
        outcome = None;
        answer = Some a;
        object_freed = Some u.clock;
        table_freed = Some (u.clock + 1);
        world = w;
      };
    }

answer_concludes : (terms : Conditions) (u : lock.Thread) (job : Job) (n : ℕ) (keeps : Bool) (a : TurnEnd)
    → job.plan ≡ Object n (way_of true keeps)
    → (real_calls terms.settings).answer job.found job.call job.outcome job.carried ≡ a
    → machine.answer (real_calls terms.settings) u job
    ≡ concluding u job.call keeps a (late_change (real_calls terms.settings) job job.outcome keeps)
answer_concludes terms u job n keeps a plan gives =
    let calls = real_calls terms.settings in
    ap (λ (p : Plan). answer_by u job.call p (calls.answer job.found job.call job.outcome job.carried)
    (late_change calls job job.outcome (keeps_table p))) plan
    ∙ ap₂ (λ (b : TurnEnd) (k : Bool). answer_by u job.call (Object n (way_of true keeps)) b
    (late_change calls job job.outcome k)) gives (plan_kept n keeps)
    ∙ concludes_by u job.call n keeps a (late_change calls job job.outcome keeps)

moves_recorded : (terms : Conditions) (i : ℕ) (u : lock.Thread) (job : Job) (n : ℕ) (keeps : Bool) (a : TurnEnd)
    → u.phase ≡ Recorded job → job.plan ≡ Object n (way_of true keeps)
    → (real_calls terms.settings).answer job.found job.call job.outcome job.carried ≡ a
    → moves (setup_under terms) i u
    ≡ within (2 ^ 62) (Some (concluding u job.call keeps a
    (late_change (real_calls terms.settings) job job.outcome keeps)))
unfolding moves
moves_recorded terms i u job n keeps a e plan gives =
    ap (λ (p : lock.Phase). within (2 ^ 62) (moves_in (setup_under terms) i u p)) e
    ∙ ap (λ (m : Moved). within (2 ^ 62) (Some m)) (answer_concludes terms u job n keeps a plan gives)

-- a thread whose outcome came
pub record Concluding (terms : Conditions) (w : Whole) (s : State) (i : ℕ) (o : Outing) (job : Job) (g : Given) : Type 0
  where
    pub inside : i < length w.threads
    pub shows : Shows terms w s
    pub held : AreHeld s
    pub rows : HaveRows s
    pub phase : (thread_of s i).phase ≡ Recorded job
    pub out : IsOut terms i s.rows o job
    pub found : o.keeps_table ≡ true → job.found ≡ s.world
    pub came : job.outcome ≡ Some g
    pub good : fits o.errand.kind o.errand.asked g.outcome ≡ true

abbrev pub outside_at : Whole → ℕ → ℕ → OutsideParts
outside_at w i n = outside_parts (thread_at w i) (get_or w.objects n new_lock) w.lock w.table w.rows

abbrev pub concluded_whole : Whole → ℕ → ℕ → OutsideParts → Whole
concluded_whole w i n p = record w {
  threads = set w.threads i p.thread;
  lock = p.lock;
  objects = set w.objects n p.object;
  table = p.table;
  rows = p.rows;
}

module _ (terms : Conditions) (w : Whole) (s : State) (i : ℕ) (o : Outing) (job : Job) (g : Given)
    (c : Concluding terms w s i o job g) where
  abbrev n : ℕ
  n = c.out.object

  abbrev u : lock.Thread
  u = thread_of s i

  abbrev t : Thread
  t = thread_at w i

  abbrev Concluded : Bool → OutsideParts → Type 0
  Concluded moved p = (can_advance (setup_under terms) s i ≡ moved)
      × Shows terms (concluded_whole w i n p) (advance (setup_under terms) i s)

  -- whether thread i holds the table, and an object
  keeps_held : is_number s.table.holder i ≡ o.keeps_table
  keeps_held = c.held.table i ∙ ap holds_table c.phase
      ∙ ap (λ (p : Plan). not (has_object p) || keeps_table p) c.out.plan ∙ plan_kept n o.keeps_table

  object_held_is : (k : ℕ) → k < length s.objects → is_number (get_or s.objects k new_lock).holder i ≡ (n == k)
  object_held_is k inside = c.held.objects i k inside ∙ ap (λ (p : lock.Phase). is_number (object_held p) k) c.phase
      ∙ ap (λ (p : Plan). is_number (object_in p) k) c.out.plan

  within_objects : n < length s.objects
  within_objects = subst (λ (k : ℕ). n < k) (sym (ap length c.shows.objects ∙ c.shows.object_count)) c.out.in_range

  -- what the step says of this outcome
  abbrev stepped : Stepped
  stepped = step terms.settings job.found.object job.call (Some g.outcome) job.carried

  gives_is : (x : TurnEnd) → answer_in stepped ≡ x
      → (real_calls terms.settings).answer job.found job.call job.outcome job.carried ≡ x
  gives_is x is = ap (λ (y : Option Given). answer_in
      (step terms.settings job.found.object job.call (outcome_in y) job.carried)) c.came ∙ is

  -- how the turn ended, and what the table stands for then
  record Ended (x : TurnEnd) (table : Stored) : Type 0 where
    answer_is : answer_in stepped ≡ x
    world_is : Stands table (world_after i s.table
        (late_change (real_calls terms.settings) job job.outcome o.keeps_table) s.world)

  ended_by : (keeps : Bool) (x : TurnEnd) (table : Stored) → o.keeps_table ≡ keeps
      → EndsTurn keeps terms.settings.patience o job.call g.outcome x w.table table → Ended x table
  ended_by false x table keeps (ends, same) =
      let patience_is : (settings : Settings) (z : posix_state.State) → settings.patience ≡ terms.settings.patience
      → as_answer (ended settings z o.carried (outside_ending o.errand (Some g.outcome))) ≡ x = ends c.good in
      let at : as_answer (ended terms.settings job.found.object job.carried (outside_ending o.errand (Some g.outcome)))
      ≡ x =
      subst (λ (k : Carried). as_answer
      (ended terms.settings job.found.object k (outside_ending o.errand (Some g.outcome))) ≡ x) (sym c.out.carried)
      (patience_is terms.settings job.found.object refl) in
      let none : late_change (real_calls terms.settings) job job.outcome o.keeps_table ≡ None =
      ap (late_change (real_calls terms.settings) job job.outcome) keeps
      ∙ late_none (real_calls terms.settings) job job.outcome in
      record {
        answer_is = ap as_answer (c.out.ends keeps g.outcome) ∙ at;
        world_is = subst (λ (y : Stored). Stands y
            (world_after i s.table (late_change (real_calls terms.settings) job job.outcome o.keeps_table) s.world))
            (sym same)
            (subst (Stands w.table) (sym (ap (λ (v : Option World). world_after i s.table v s.world) none
            ∙ world_keeps i s.table s.world)) c.shows.world);
      }
  ended_by true x table keeps opens =
      let found = c.found keeps in
      let stands : Stands w.table job.found = subst (Stands w.table) (sym found) c.shows.world in
      let keeps_call : posix_locked.keeps_table job.call ≡ true = sym c.out.keeps ∙ keeps in
      let asked : asks job.found.object job.call o.carried
      ≡ Some (record { kind = o.errand.kind; asked = o.errand.asked; call = job.call }) =
      subst (λ (k : Carried). asks job.found.object job.call k ≡ query_of job.call o.errand) c.out.carried
      c.out.asks_is in
      let made = opens terms.settings job.found
      (record { kind = o.errand.kind; asked = o.errand.asked; call = job.call }) refl stands keeps_call asked
      c.good in
      let after : late_change (real_calls terms.settings) job job.outcome o.keeps_table
      ≡ Some (world_with job.found stepped.after) = ap₂ (late_change (real_calls terms.settings) job) c.came
      keeps in
      let P : Carried → Type 0 = λ k. let y = step terms.settings job.found.object job.call (Some g.outcome) k in
      (answer_in y ≡ x) × Stands table (world_with job.found y.after) in
      let both : P job.carried = subst P (sym c.out.carried) made in
      record {
        answer_is = both.0;
        world_is = subst (Stands table)
            (sym (ap (λ (v : Option World). world_after i s.table v s.world) after
            ∙ world_by i s.table (Some (world_with job.found stepped.after)) s.world true (keeps_held ∙ keeps))) both.1;
      }

  cost_le : (k cost : ℕ) → k + cost ≤ 2 ^ 62 → k + cost ≤ 2 ^ 62
  cost_le k cost h = h

  -- the thread works, or makes its call again
  thread_concluded : (x : TurnEnd) (rows : List Row) → t.clock + answer_cost o.keeps_table ≤ 2 ^ 62
      → ThreadShows terms i rows (went_on x (record t { clock = t.clock + answer_cost o.keeps_table }))
      (answered u job.call (u.clock + answer_cost o.keeps_table) x)
  thread_concluded (end.Reply reply) rows room =
      let h = c.shows.threads i in record {
        clock = ap (λ (k : ℕ). k + answer_cost o.keeps_table) h.clock;
        in_time = room;
        asked = h.asked;
        came = h.came;
        phase = refl;
      }
  thread_concluded (end.Blocked carried) rows room =
      let h = c.shows.threads i in record {
        clock = ap (λ (k : ℕ). k + answer_cost o.keeps_table) h.clock;
        in_time = room;
        asked = h.asked;
        came = h.came;
        phase = (job.call, refl);
      }

  table_after : (keeps : Bool) → o.keeps_table ≡ keeps
      → lock_after i (Some (u.clock + 1)) s.table ≡ table_freed keeps (t.clock + 1) w.lock
  table_after true keeps = lock_left i (Some (u.clock + 1)) s.table true (keeps_held ∙ keeps)
      ∙ ap (λ (k : ℕ). freed (k + 1)) (c.shows.threads i).clock
  table_after false keeps = lock_left i (Some (u.clock + 1)) s.table false (keeps_held ∙ keeps) ∙ c.shows.table

  -- it is told, where the clock has room
  abbrev Told : Option posix_answer.Answer → OutsideParts → Type 0
  Told told p = Concluded (is_some told) p
      × ((thread_of (advance (setup_under terms) i s) i).replies ≡ replied told u.replies)

  concluded_yes : (x : TurnEnd) (table : Stored) → Ended x table → t.clock + answer_cost o.keeps_table ≤ 2 ^ 62
      → Told (Some (told_as x)) (row_concluded o (shown (row_of job)) x table (outside_at w i n))
  concluded_yes x table e room =
      let h = c.shows.threads i in
      let m = concluding u job.call o.keeps_table x
      (late_change (real_calls terms.settings) job job.outcome o.keeps_table) in
      let new = row_concluded o (shown (row_of job)) x table (outside_at w i n) in
      let fits_in : u.clock + answer_cost o.keeps_table ≤ 2 ^ 62 =
      subst (λ (k : ℕ). k + answer_cost o.keeps_table ≤ 2 ^ 62) (sym h.clock) room in
      let is : moves (setup_under terms) i u ≡ Some m = moves_recorded terms i u job n o.keeps_table x c.phase
      c.out.plan (gives_is x e.answer_is)
      ∙ within_yes (2 ^ 62) m (subst (λ (k : ℕ). k ≤ 2 ^ 62)
      (sym (answered_clock u job.call (u.clock + answer_cost o.keeps_table) x)) fits_in) in
      let inside : i < length s.threads = subst (λ (k : ℕ). i < k) (sym c.shows.count) c.inside in (
        whole_changed terms w s i new.thread m new.lock (set w.objects n new.object) table new.rows c.inside c.shows is
            (thread_concluded x (map (row_after i m.effect) s.rows) room)
            (table_after o.keeps_table refl)
            (locks_freed i n u.clock s.objects within_objects (object_held_is n within_objects ∙ eq-eqb n n refl)
            (λ k inside apart. object_held_is k inside ∙ ne_eqb n k (λ q. apart (sym q)))
            ∙ ap₂ (λ (ls : List DetLock) (k : ℕ). set ls n (freed k)) c.shows.objects h.clock)
            e.world_is
            (rows_answered i s w.rows o.row job m.effect x c.rows c.shows.rows c.out.thread c.out.row refl refl),
        replies_moved terms s i m inside is ∙ replies_answered u job.call (u.clock + answer_cost o.keeps_table) x,
      )

  concluded_no : (x : TurnEnd) → answer_in stepped ≡ x → 2 ^ 62 < t.clock + answer_cost o.keeps_table
      → Told None (outside_at w i n)
  concluded_no x gives full =
      let h = c.shows.threads i in
      let m = concluding u job.call o.keeps_table x
      (late_change (real_calls terms.settings) job job.outcome o.keeps_table) in
      let past : 2 ^ 62 < u.clock + answer_cost o.keeps_table =
      subst (λ (k : ℕ). 2 ^ 62 < k + answer_cost o.keeps_table) (sym h.clock) full in
      let is : moves (setup_under terms) i u ≡ None = moves_recorded terms i u job n o.keeps_table x c.phase c.out.plan
      (gives_is x gives) ∙ within_no (2 ^ 62) m
      (subst (λ (k : ℕ). 2 ^ 62 < k) (sym (answered_clock u job.call (u.clock + answer_cost o.keeps_table) x))
      past) in
      let still = whole_still terms w s i t c.inside c.shows is h in
      let P : List DetLock → Type 0 = λ ls. Shows terms (record w { threads = set w.threads i t; objects = ls })
      (advance (setup_under terms) i s) in
      ((still.0, subst P (sym (set-get_or w.objects n new_lock)) still.1), replies_still terms s i is)

  concluded_by : (told : Option posix_answer.Answer) (new : OutsideParts) (b : Bool)
      → nat_le (t.clock + answer_cost o.keeps_table) (2 ^ 62) ≡ b
      → ConcludesIf b terms.settings.patience told o (shown (row_of job)) g.outcome (outside_at w i n) new
      → Told told new
  concluded_by told new true room (x, (told_is, ends, new_is)) =
      let e = ended_by o.keeps_table x new.table refl ends in
      let Q : Option posix_answer.Answer → Type 0 = λ a. Told a new in
      let R : OutsideParts → Type 0 = λ p. Told (Some (told_as x)) p in
      subst Q (sym told_is) (subst R (sym new_is)
      (concluded_yes x new.table e (leb-true (t.clock + answer_cost o.keeps_table) (2 ^ 62) room)))
  concluded_by told new false room (told_is, new_is) =
      let full = leb-false (t.clock + answer_cost o.keeps_table) (2 ^ 62) room in
      let Q : Option posix_answer.Answer → Type 0 = λ a. Told a new in
      let R : OutsideParts → Type 0 = λ p. Told None p in
      subst Q (sym told_is) (subst R (sym new_is) (concluded_no (answer_in stepped) refl full))

  locks_are_held : (is_number (get_or w.objects n new_lock).holder i
      && (not o.keeps_table || is_number w.lock.holder i)) ≡ true
  locks_are_held =
      ap₂ (λ (a b : Bool). a && (not o.keeps_table || b))
      (ap (λ (ls : List DetLock). is_number (get_or ls n new_lock).holder i) (sym c.shows.objects)
      ∙ object_held_is n within_objects ∙ eq-eqb n n refl)
      (ap (λ (l : DetLock). is_number l.holder i) (sym c.shows.table) ∙ keeps_held)
      ∙ always o.keeps_table
    where
      always : (b : Bool) → (true && (not b || b)) ≡ true
      always true = refl
      always false = refl

  pub concluded_whole_is : (told : Option posix_answer.Answer) (new : OutsideParts)
      → AnswersOutside terms.settings.patience told i o (outside_at w i n) new → Told told new
  concluded_whole_is told new answers =
      let old = outside_at w i n in
      let P : Bool → Type 0 = λ b. ConcludesHeld b terms.settings.patience told o old new in
      let there : slice_get w.rows o.row ≡ Some (shown (row_of job)) = ap (λ (rs : List HistoryRow). slice_get rs o.row)
      (sym c.shows.rows) ∙ slice_get-map shown s.rows o.row ∙ ap (option_map shown) c.out.row in
      let Q : Option HistoryRow → Type 0 = λ q. ConcludesRow q terms.settings.patience told o old new in
      let R : Option Outcome → Type 0 = λ x. ConcludesWith x (shown (row_of job)) terms.settings.patience told o old
      new in
      concluded_by told new (nat_le (t.clock + answer_cost o.keeps_table) (2 ^ 62)) refl
      (subst R (ap outcome_in c.came) (subst Q there (subst P locks_are_held answers)))

-- a call that goes outside has its answer, by what came for it
pub conclude_whole : (terms : Conditions) (w : Whole) (s : State) (i n : ℕ) (o : Outing)
    (told : Option posix_answer.Answer) (new : OutsideParts) → i < length w.threads → Shows terms w s → AreHeld s
    → HaveRows s → HavePlans (real_calls terms.settings) s
    → (thread_at w i).phase ≡ phase.Recorded o → o.object ≡ Some n
    → AnswersOutside w.settings.patience told i o (outside_at w i n) new
    → (can_advance (setup_under terms) s i ≡ is_some told)
    × Shows terms (concluded_whole w i n new) (advance (setup_under terms) i s)
    × ((thread_of (advance (setup_under terms) i s) i).replies ≡ replied told (thread_of s i).replies)
conclude_whole terms w s i n o told new inside h held own plans is object_is answers =
    let P : Phase → Type 0 = λ p. PhaseShows terms i s.rows (thread_at w i) (thread_of s i) p in
    let (job, (at, out)) = (subst P is (h.threads i).phase) in
    let (g, came, good) = (plans.came i job at) in
    let same : out.object ≡ n = same_Some out.object n (sym out.object_is ∙ object_is) in
    let fits_errand : suits o.errand.kind o.errand.asked g ≡ true =
    ap (λ (r : Option Query). answers_query r (undated g)) (sym out.asks_is) ∙ (and_parts _ _ good).0 in
    let c : Concluding terms w s i o job g =
    record {
      inside = inside;
      shows = h;
      held = held;
      rows = own;
      phase = at;
      out = out;
      found = λ keeps. plans.kept i job (ap job_in at) (ap keeps_table out.plan ∙ plan_kept out.object o.keeps_table
          ∙ keeps);
      came = came;
      good = (and_parts (is_kind g.kind o.errand.kind) (fits o.errand.kind o.errand.asked g.outcome) fits_errand).1;
    } in
    let Q : ℕ → Type 0 = λ k. AnswersOutside w.settings.patience told i o (outside_at w i k) new in
    let R : ℕ → Type 0 = λ k. AnswersOutside k told i o (outside_at w i out.object) new in
    let T : ℕ → Type 0 = λ k. (can_advance (setup_under terms) s i ≡ is_some told)
    × Shows terms (concluded_whole w i k new) (advance (setup_under terms) i s)
    × ((thread_of (advance (setup_under terms) i s) i).replies ≡ replied told (thread_of s i).replies) in
    let made = concluded_whole_is terms w s i o job g c told new
    (subst R (sym (ap (λ (x : Settings). x.patience) h.settings)) (subst Q (sym same) answers)) in
    subst T same (made.0.0, made.0.1, made.1)

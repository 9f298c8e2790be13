-- Attempts that fail, skipped: what the machine shows then.
use Rattle.std.proofs.Common.{◌≡◌, ℕ, ◌*◌, ◌<◌, ◌≤◌, ◌^◌, List, length, map, get_or, max, true, false, sym, refl, ap}
use Rattle.std.proofs.Common.{◌∙◌, subst, ⊎_elim, arith}
use Rattle.std.proofs.lemmas.Bool.{cases_Bool, cases_lt, cond-true, cond-false}
use Rattle.std.proofs.lemmas.List.{get_or-map, get_or_past, length-map, same_lists}
use Rattle.det_mutex.specs.Attempt.{new_lock}
use Rattle.det_mutex.specs.declared.lock.DetLock.{DetLock}
use Rattle.logical_clocks.specs.ThreadClocks.{clock_at, no_thread as no_clock, thread_at as clock_of}
use Rattle.logical_clocks.specs.declared.clocks.ThreadClock.{ThreadClock}
use Rattle.lock_model.specs.Machine.{wants}
use Rattle.lock_model.specs.Skipping as model
use Rattle.lock_model.specs.Skipping.{SkipLaw, Skipped, StaysShut, first_from, turn_at}
use Rattle.lock_model.specs.State as lock
use Rattle.lock_model.specs.State.{Row, State, nobody, object_of, thread_of}
use Rattle.lock_model.specs.Rows.{shown}
use Rattle.call_turns.specs.Store.{Stands, Stored}
use Rattle.posix_terms.specs.declared.limits.TheConstants.Limits as limit
use Rattle.posix_terms.specs.declared.transcript.Turn.{Turn}
use Rattle.lock_machine.specs.Births.{BornWithin}
use Rattle.lock_machine.specs.Conditions.{Conditions, setup_under}
use Rattle.lock_machine.specs.Lives.{Agree}
use Rattle.lock_machine.specs.Refusals.{wants_lock}
use Rattle.lock_machine.specs.Shows.{PhaseShows, Shows, ThreadShows}
use Rattle.lock_machine.specs.Skipping.{ArePassed, FailsUntil, SkipsFailures, passed}
use Rattle.lock_machine.specs.Threads.{Thread, joined, timed}
use Rattle.lock_machine.specs.Views.{item_at, no_thread}
use Rattle.lock_machine.specs.Whole.{Whole, thread_at}
use Rattle.lock_machine.specs.declared.thread.Phase.{Phase}
use Rattle.lock_machine.specs.declared.thread.Phase.TheVariants as phase
use Rattle.lock_machine.specs.declared.thread.Thread as declared
use Rattle.lock_machine.proofs.EventShows.{run_at}
use Rattle.lock_machine.proofs.Joining.{agree_length, get-joined, length-joined}

-- ## The clocks

passed_live : (turn : Turn) (j : ℕ) (p : Phase) (c : ThreadClock) → (passed turn j p c).live ≡ c.live
passed_live turn j p c =
    ⊎_elim
    (λ (w : wants_lock p ≡ true). ap (λ (d : ThreadClock). d.live)
    (cond-true (wants_lock p) (record c { clock = max c.clock (first_from turn j) }) c w))
    (λ (w : wants_lock p ≡ false). ap (λ (d : ThreadClock). d.live)
    (cond-false (wants_lock p) (record c { clock = max c.clock (first_from turn j) }) c w))
    (cases_Bool (wants_lock p))

passed_room : (turn : Turn) (j most : ℕ) (p : Phase) (c : ThreadClock) → c.clock ≤ most → first_from turn j ≤ most
    → (passed turn j p c).clock ≤ most
passed_room turn j most p c clock first =
    ⊎_elim
    (λ (w : wants_lock p ≡ true). subst (λ (d : ThreadClock). d.clock ≤ most)
    (sym (cond-true (wants_lock p) (record c { clock = max c.clock (first_from turn j) }) c w))
    (both c.clock (first_from turn j) clock first))
    (λ (w : wants_lock p ≡ false). subst (λ (d : ThreadClock). d.clock ≤ most)
    (sym (cond-false (wants_lock p) (record c { clock = max c.clock (first_from turn j) }) c w)) clock)
    (cases_Bool (wants_lock p))
  where
    both : (a b : ℕ) → a ≤ most → b ≤ most → max a b ≤ most
    both a b l r = omega arith

-- as many threads are live
pub agree_passed : (turn : Turn) (ts : List declared.Thread) (cs ds : List ThreadClock) → Agree ts cs
    → ArePassed turn ts cs ds → Agree ts ds
agree_passed turn ts cs ds agree h =
    let live = λ (c : ThreadClock). c.live in
    let long : length ds ≡ length ts = h.count ∙ agree_length ts cs agree in
    same_lists (map live ds) (map live cs) (length-map ds live ∙ h.count ∙ sym (length-map cs live)) (λ k d inside.
    let within : k < length ds = subst (λ (n : ℕ). k < n) (length-map ds live) inside in
    let item : Phase = (let t : declared.Thread = item_at ts k in t.phase) in
    get_or-map live ds k no_clock d within
    ∙ ap live (h.each k (subst (λ (n : ℕ). k < n) long within))
    ∙ passed_live turn k item (clock_of cs k)
    ∙ sym (get_or-map live cs k no_clock d (subst (λ (n : ℕ). k < n) h.count within)))
    ∙ agree

pub born_passed : (before after : ℕ) (t : Stored) → before ≤ after → BornWithin (2 * before) t
    → BornWithin (2 * after) t
born_passed before after t forward born =
    record {
      descriptions = later before after t.table.descriptions.made forward born.descriptions;
      objects = later before after t.table.made_objects forward born.objects;
    }
  where
    later : (a b n : ℕ) → a ≤ b → n ≤ 2 * a → n ≤ 2 * b
    later a b n forward born = omega arith

-- ## What fails

-- the thread of the lock machine fails, as that of the run does
fails_shown : (terms : Conditions) (w : Whole) (s : State) (turn : Turn) (j : ℕ) (t : Thread) (u : lock.Thread)
    (p : Phase) → s.table ≡ w.lock → s.objects ≡ w.objects → u.clock ≡ t.clock → PhaseShows terms j s.rows t u p
    → FailsUntil w.lock w.objects turn j t.clock p → model.FailsUntil s turn j u.clock u.phase
fails_shown terms w s turn j t u p table objects clock shows fails =
    subst (λ (c : ℕ). model.FailsUntil s turn j c u.phase) (sym clock) (by_phase p shows fails)
  where
    at : {q : lock.Phase} → u.phase ≡ q → model.FailsUntil s turn j t.clock q
        → model.FailsUntil s turn j t.clock u.phase
    at {q} e h = subst (model.FailsUntil s turn j t.clock) (sym e) h

    by_phase : (p : Phase) → PhaseShows terms j s.rows t u p → FailsUntil w.lock w.objects turn j t.clock p
        → model.FailsUntil s turn j t.clock u.phase
    by_phase phase.Working h f = at h f
    by_phase (phase.WantsTable call carried) h f =
        at h (subst (λ (l : DetLock). StaysShut l turn j t.clock) (sym table) f)
    by_phase (phase.WantsObject call carried clock object) h f =
        at h.1.0 (subst (λ (ls : List DetLock). StaysShut (get_or ls object new_lock) turn j t.clock) (sym objects) f)
    by_phase (phase.Granted place object e) h f = at h.1.0 f
    by_phase (phase.ToOutside outing) h f = at h.1.0 f
    by_phase (phase.Outside outing) h f = at h.1.0 f
    by_phase (phase.Recorded outing) h f = at h.1.0 f
    by_phase (phase.Blocked carried) h f = at h.1 f
    by_phase phase.Ended h f = at h f

-- ## Threads that pass

wants_shown : (terms : Conditions) (j : ℕ) (rows : List Row) (t : Thread) (u : lock.Thread) (p : Phase)
    → PhaseShows terms j rows t u p → wants u.phase ≡ wants_lock p
wants_shown terms j rows t u phase.Working h = ap wants h
wants_shown terms j rows t u (phase.WantsTable call carried) h = ap wants h
wants_shown terms j rows t u (phase.WantsObject call carried clock object) h = ap wants h.1.0
wants_shown terms j rows t u (phase.Granted place object e) h = ap wants h.1.0
wants_shown terms j rows t u (phase.ToOutside outing) h = ap wants h.1.0
wants_shown terms j rows t u (phase.Outside outing) h = ap wants h.1.0
wants_shown terms j rows t u (phase.Recorded outing) h = ap wants h.1.0
wants_shown terms j rows t u (phase.Blocked carried) h = ap wants h.1
wants_shown terms j rows t u phase.Ended h = ap wants h

-- a later clock leaves a thread in its phase
phase_later : (terms : Conditions) (j : ℕ) (rows : List Row) (t : Thread) (u : lock.Thread) (p : Phase) (m : ℕ)
    → PhaseShows terms j rows t u p → PhaseShows terms j rows (record t { clock = m }) (record u { clock = m }) p
phase_later terms j rows t u phase.Working m h = h
phase_later terms j rows t u (phase.WantsTable call carried) m h = h
phase_later terms j rows t u (phase.WantsObject call carried clock object) m h = h
phase_later terms j rows t u (phase.Granted place object e) m h = h
phase_later terms j rows t u (phase.ToOutside outing) m h = h
phase_later terms j rows t u (phase.Outside outing) m h = h
phase_later terms j rows t u (phase.Recorded outing) m h = h
phase_later terms j rows t u (phase.Blocked carried) m h = h
phase_later terms j rows t u phase.Ended m h = h

thread_later : (terms : Conditions) (j : ℕ) (rows : List Row) (t : Thread) (u : lock.Thread) (m : ℕ) → m ≤ 2 ^ 62
    → ThreadShows terms j rows t u → ThreadShows terms j rows (record t { clock = m }) (record u { clock = m })
thread_later terms j rows t u m room h =
    record {
      clock = refl;
      in_time = room;
      asked = h.asked;
      came = h.came;
      phase = phase_later terms j rows t u t.phase m h.phase;
    }

-- both pass in the same way
passed_same : (turn : Turn) (j : ℕ) (u : lock.Thread) (p : Phase) (c : ThreadClock) → wants u.phase ≡ wants_lock p
    → u.clock ≡ c.clock → model.passed turn j u ≡ record u { clock = (passed turn j p c).clock }
passed_same turn j u p c same clock =
    ⊎_elim
    (λ (w : wants_lock p ≡ true).
    cond-true (wants u.phase) (record u { clock = max u.clock (first_from turn j) }) u (same ∙ w)
    ∙ (λ k. record u { clock = max (clock k) (first_from turn j) })
    ∙ sym (ap (λ (d : ThreadClock). let v : lock.Thread = record u { clock = d.clock } in v)
    (cond-true (wants_lock p) (record c { clock = max c.clock (first_from turn j) }) c w)))
    (λ (w : wants_lock p ≡ false).
    cond-false (wants u.phase) (record u { clock = max u.clock (first_from turn j) }) u (same ∙ w)
    ∙ (λ k. record u { clock = clock k })
    ∙ sym (ap (λ (d : ThreadClock). let v : lock.Thread = record u { clock = d.clock } in v)
    (cond-false (wants_lock p) (record c { clock = max c.clock (first_from turn j) }) c w)))
    (cases_Bool (wants_lock p))

-- the threads of a run with later clocks
thread_passed : (terms : Conditions) (w : Whole) (s last : State) (turn : Turn) (ts : List declared.Thread)
    (cs ds : List ThreadClock) (j : ℕ) → ((j : ℕ) → first_from turn j ≤ limit.CLOCK) → ArePassed turn ts cs ds
    → Shows terms (run_at w ts cs) s → thread_of last j ≡ model.passed turn j (thread_of s j)
    → ThreadShows terms j s.rows (thread_at (run_at w ts ds) j) (thread_of last j)
thread_passed terms w s last turn ts cs ds j first h shows moved =
    ⊎_elim
    (λ (inside : j < length ts).
    let t = thread_at (run_at w ts cs) j in
    let u = thread_of s j in
    let p : Phase = (let x : declared.Thread = item_at ts j in x.phase) in
    let seen : t ≡ timed (item_at ts j) (clock_at cs j) = get-joined ts cs j inside in
    let then : thread_at (run_at w ts ds) j ≡ timed (item_at ts j) (clock_at ds j) = get-joined ts ds j inside in
    let old : ThreadShows terms j s.rows (timed (item_at ts j) (clock_at cs j)) u =
    subst (λ (x : Thread). ThreadShows terms j s.rows x u) seen (shows.threads j) in
    let clock : clock_at ds j ≡ (passed turn j p (clock_of cs j)).clock =
    ap (λ (d : ThreadClock). d.clock) (h.each j inside) in
    let room : clock_at ds j ≤ 2 ^ 62 =
    subst (λ (n : ℕ). n ≤ 2 ^ 62) (sym clock)
    (passed_room turn j limit.CLOCK p (clock_of cs j) old.in_time (first j)) in
    let new : ThreadShows terms j s.rows (timed (item_at ts j) (clock_at ds j)) (record u { clock = clock_at ds j }) =
    thread_later terms j s.rows (timed (item_at ts j) (clock_at cs j)) u (clock_at ds j) room old in
    let is : thread_of last j ≡ record u { clock = clock_at ds j } = moved
    ∙ passed_same turn j u p (clock_of cs j)
    (wants_shown terms j s.rows (timed (item_at ts j) (clock_at cs j)) u p old.phase) old.clock
    ∙ (λ k. record u { clock = sym clock k }) in
    subst (λ (v : lock.Thread). ThreadShows terms j s.rows (thread_at (run_at w ts ds) j) v) (sym is)
    (subst (λ (x : Thread). ThreadShows terms j s.rows x (record u { clock = clock_at ds j })) (sym then) new))
    (λ (past : length ts ≤ j).
    let here : thread_at (run_at w ts cs) j ≡ no_thread =
    get_or_past (joined ts cs) j no_thread (subst (λ (n : ℕ). n ≤ j) (sym (length-joined ts cs)) past) in
    let then : thread_at (run_at w ts ds) j ≡ no_thread =
    get_or_past (joined ts ds) j no_thread (subst (λ (n : ℕ). n ≤ j) (sym (length-joined ts ds)) past) in
    let gone : thread_of s j ≡ nobody =
    get_or_past s.threads j nobody (subst (λ (n : ℕ). n ≤ j) (sym (shows.count ∙ length-joined ts cs)) past) in
    let is : thread_of last j ≡ thread_of s j = moved ∙ ap (model.passed turn j) gone ∙ sym gone in
    subst (λ (v : lock.Thread). ThreadShows terms j s.rows (thread_at (run_at w ts ds) j) v) (sym is)
    (subst (λ (x : Thread). ThreadShows terms j s.rows x (thread_of s j)) (here ∙ sym then) (shows.threads j)))
    (cases_lt j (length ts))

-- ## The whole

pub skip_done : SkipLaw → (w : Whole) (turn : Turn) (ts : List declared.Thread) (cs ds : List ThreadClock) → Agree ts cs
    → ((j : ℕ) → first_from turn j ≤ limit.CLOCK)
    → ((j : ℕ) → j < length ts → FailsUntil w.lock w.objects turn j (clock_at cs j)
    (let t : declared.Thread = item_at ts j in t.phase)) → ArePassed turn ts cs ds
    → SkipsFailures (run_at w ts cs) (run_at w ts ds)
skip_done law w turn ts cs ds agree room fails h terms s (arises, shows) =
    let setup = setup_under terms in
    let skipped : Skipped setup turn s = law setup turn s room all in
    let last = skipped.last in
    let rows : last.rows ≡ s.rows = ap (λ (z : State). z.rows) skipped.others in
    record {
      turn = turn;
      skipped = skipped;
      shows = record {
        settings = shows.settings;
        count = skipped.length ∙ shows.count ∙ length-joined ts cs ∙ sym (length-joined ts ds);
        threads = λ j. subst (λ (rs : List Row). ThreadShows terms j rs (thread_at (run_at w ts ds) j)
            (thread_of last j)) (sym rows)
            (thread_passed terms w s last turn ts cs ds j room h shows (skipped.threads j));
        table = ap (λ (z : State). z.table) skipped.others ∙ shows.table;
        objects = ap (λ (z : State). z.objects) skipped.others ∙ shows.objects;
        object_count = shows.object_count;
        world = subst (Stands w.table) (sym (ap (λ (z : State). z.world) skipped.others)) shows.world;
        rows = ap (map shown) rows ∙ shows.rows;
      };
    }
  where
    all : model.AllFailUntil turn s
    all j =
        ⊎_elim
        (λ (inside : j < length ts).
        let t = timed (item_at ts j) (clock_at cs j) in
        let u = thread_of s j in
        let old : ThreadShows terms j s.rows t u = subst (λ (x : Thread). ThreadShows terms j s.rows x u)
        (get-joined ts cs j inside) (shows.threads j) in
        fails_shown terms (run_at w ts cs) s turn j t u t.phase shows.table shows.objects old.clock old.phase
        (fails j inside))
        (λ (past : length ts ≤ j).
        let gone : thread_of s j ≡ nobody =
        get_or_past s.threads j nobody (subst (λ (n : ℕ). n ≤ j) (sym (shows.count ∙ length-joined ts cs)) past)
        in
        let P : lock.Thread → Type 0 = λ u. model.FailsUntil s turn j u.clock u.phase in
        subst P (sym gone) tt)
        (cases_lt j (length ts))

-- where nothing is skipped
pub none_done : (w : Whole) → SkipsFailures w w
none_done w terms s (arises, shows) =
    record {
      turn = turn_at 0 0;
      skipped = record {
        last = s;
        count = 0;
        fails = refl;
        threads = λ j. as_it_is j (thread_of s j);
        length = refl;
        others = refl;
      };
      shows = shows;
    }
  where
    none : (a j : ℕ) → max a (first_from (turn_at 0 0) j) ≡ a
    none a j = grind arith

    as_it_is : (j : ℕ) (u : lock.Thread) → u ≡ model.passed (turn_at 0 0) j u
    as_it_is j u =
        ⊎_elim
        (λ (x : wants u.phase ≡ true).
        sym (cond-true (wants u.phase) (record u { clock = max u.clock (first_from (turn_at 0 0) j) }) u x
        ∙ (λ k. record u { clock = none u.clock j k })))
        (λ (x : wants u.phase ≡ false).
        sym (cond-false (wants u.phase) (record u { clock = max u.clock (first_from (turn_at 0 0) j) }) u x))
        (cases_Bool (wants u.phase))

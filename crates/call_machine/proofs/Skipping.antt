-- Attempts that fail are events of the plain schedule.
use Rattle.std.proofs.Common.{◌≡◌, ℕ, zero, suc, ◌+◌, ◌<◌, ◌≤◌, List, [], ◌∷◌, length, get_or, max, Some, None, Bool}
use Rattle.std.proofs.Common.{true, false, ◌&&◌, ◌||◌, is_some, nat_le, ⊎_elim, sym, refl, ap, ap₂, ◌∙◌, subst, arith}
use Rattle.std.proofs.lemmas.Bool.{and_parts, cases_Bool, cases_eq, cases_lt, cond-true, cond-false, false≢true}
use Rattle.std.proofs.lemmas.List.{get_or_past, get_or-set_same}
use Rattle.lock_model.specs.Events.{EventLaws}
use Rattle.lock_model.specs.Laws.{ArisesByEvent, HolderHasTurn}
use Rattle.lock_model.specs.Machine.{Setup, attempt, can_attempt, failed, moves, moves_in, tried, wants, within}
use Rattle.lock_model.specs.Machine.Event.{Attempts}
use Rattle.lock_model.specs.Runs.{Arises}
use Rattle.lock_model.specs.Schedule.{attempt_by, next_event}
use Rattle.lock_model.specs.Skipping.{Fails, FailsTo, first_from, passed}
use Rattle.lock_model.specs.State as lock
use Rattle.lock_model.specs.State.{Phase, State, live_clocks, nobody, thread_of}
use Rattle.lock_model.specs.State.Phase.{WantsObject, WantsTable}
use Rattle.logical_clocks.specs.TurnOrder.{has_turn, turn_holder}
use Rattle.posix_terms.specs.declared.transcript.Turn.{Turn}
use Rattle.lock_machine.specs.Skipping.{Passes, SkipsFailures}
use Rattle.lock_machine.specs.Whole.{Whole, thread_at}
use Rattle.lock_machine.specs.Threads.{Thread}
use Rattle.lock_machine.specs.Shows.{ClocksShown}
use Rattle.lock_machine.specs.Views.{clocks_of, no_thread}
use Rattle.call_machine.specs.Driven.{AttemptsNext, IsLogged, Rests, stops_at}
use Rattle.call_machine.specs.Logs.{Written, came_between}
use Rattle.call_machine.specs.Plain.{GoesTo}
use Rattle.call_machine.specs.Playing.{Attempted, IsInCall, IsPlayed, Played, Plays, PlaysIn, no_player, player_at}
use Rattle.call_machine.specs.Setup.{Inputs, conditions_of, first_state, setup_of}
use Rattle.call_machine.specs.Weights.{Falls, total, weight}
use Rattle.call_machine.specs.declared.players.Player.{Player}
use Rattle.thread_scripts.specs.Meaning.{lines_left}
use Rattle.call_machine.proofs.Falling.{later_weighs, weight_at, weight_shown}
use Rattle.call_machine.proofs.Quiet.{attempt_came, is_outside, logs_none, none_between, quiet_diverges}
use Rattle.call_machine.proofs.Scheduling.{AllStill, attempted_on, goes_on_by, logged_on, nobody_left, refused_there}
use Rattle.call_machine.proofs.Scheduling.{still_next, still_straight, still_there}

-- ## A thread that wants a lock

wants_no_move : (setup : Setup) (i : ℕ) (t : lock.Thread) (p : Phase) → wants p ≡ true → moves_in setup i t p ≡ None
wants_no_move setup i t (WantsTable call carried) h = refl
wants_no_move setup i t (WantsObject call carried clock n way) h = refl
wants_no_move setup i t p h = absurd (false≢true h)

wants_inside : (p : Phase) → wants p ≡ true → is_outside p ≡ false
wants_inside (WantsTable call carried) h = refl
wants_inside (WantsObject call carried clock n way) h = refl
wants_inside p h = absurd (false≢true h)

-- it can do nothing without the turn
wanting_still : (input : Inputs) (s : State) (i : ℕ) → wants (thread_of s i).phase ≡ true → stops_at input s i ≡ false
unfolding moves
wanting_still input s i h =
    ap₂ (λ (a b : Bool). a || b)
    (ap (λ o. is_some (within (setup_of input).limits.clock_limit o))
    (wants_no_move (setup_of input) i (thread_of s i) (thread_of s i).phase h))
    (quiet_diverges (setup_of input) s i (wants_inside (thread_of s i).phase h))

-- ## One attempt after another

-- so many events of the plain run led to this state, and this was logged
record Reached (input : Inputs) (log : Written) (s : State) : Type 0 where
  count : ℕ
  goes : GoesTo (setup_of input) (first_state input) count s
  arises : Arises (setup_of input) (first_state input) s
  log_is : IsLogged input count log
  still : AllStill input s

-- what an attempt needs
record Can (setup : Setup) (s : State) (i : ℕ) : Type 0 where
  wanting : wants (thread_of s i).phase ≡ true
  turn : has_turn (live_clocks s) i ≡ true

can_parts : (setup : Setup) (s : State) (i : ℕ) → can_attempt setup s i ≡ true → Can setup s i
unfolding can_attempt
can_parts setup s i can =
    let a = and_parts (wants (thread_of s i).phase) (has_turn (live_clocks s) i
    && nat_le (thread_of (tried setup s i) i).clock setup.limits.clock_limit) can in
    record {
      wanting = a.0;
      turn =
          (and_parts (has_turn (live_clocks s) i)
          (nat_le (thread_of (tried setup s i) i).clock setup.limits.clock_limit)
          a.1).0;
    }

failed_wants : (s : State) (i : ℕ) → wants (thread_of s i).phase ≡ true
    → wants (thread_of (failed s i (thread_of s i)) i).phase ≡ true
failed_wants s i h =
    let t = thread_of s i in
    ⊎_elim
    (λ (inside : i < length s.threads). ap (λ (u : lock.Thread). wants u.phase)
    (get_or-set_same s.threads i (record t { clock = t.clock + 1 }) nobody inside) ∙ h)
    (λ (past : length s.threads ≤ i).
    absurd (false≢true (sym (ap (λ (u : lock.Thread). wants u.phase) (get_or_past s.threads i nobody past)) ∙ h)))
    (cases_lt i (length s.threads))

fails_once : EventLaws → ArisesByEvent → HolderHasTurn → (input : Inputs) (log : Written) (s : State) (i : ℕ)
    → Reached input log s → Fails (setup_of input) s i → Reached input log (attempt (setup_of input) i s)
fails_once laws by_event holder input log s i h f =
    let setup = setup_of input in
    let can = can_parts setup s i f.can in
    let next : next_event setup s ≡ Some (Attempts i) = still_next input s h.still
    ∙ ap (attempt_by setup s) ((holder (live_clocks s) i).1 can.turn)
    ∙ cond-true (can_attempt setup s i) (Some (Attempts i)) None f.can in
    let none : came_between input.settings.version i s (attempt setup i s)
    ≡ [] = none_between input.settings.version i s (attempt setup i s) (attempt_came laws setup s i) in
    record {
      count = suc h.count;
      goes = goes_on_by input h.count s (Attempts i) h.goes (still_straight input s h.still) next;
      arises = by_event setup (first_state input) s (Attempts i) h.arises;
      log_is = logged_on input h.count s (Attempts i) log log h.goes.reached next h.log_is
          (logs_none (came_between input.settings.version i s (attempt setup i s)) log log none refl);
      still = λ k l.
          ⊎_elim
          (λ (e : i ≡ k). subst (λ (j : ℕ). stops_at input (attempt setup i s) j ≡ false) e (own can))
          (λ (apart : i ≡ k → ⊥). still_there laws input s (Attempts i) k apart
          (h.still k (subst (λ (n : ℕ). k < n) (laws.count setup s (Attempts i)) l)))
          (cases_eq i k);
    }
  where
    own : Can (setup_of input) s i → stops_at input (attempt (setup_of input) i s) i ≡ false
    own can = wanting_still input (attempt (setup_of input) i s) i
        (ap (λ (z : State). wants (thread_of z i).phase) f.fails ∙ failed_wants s i can.wanting)

fails_on : EventLaws → ArisesByEvent → HolderHasTurn → (input : Inputs) (log : Written) (n : ℕ) (s last : State)
    → Reached input log s → FailsTo (setup_of input) n s last → Reached input log last
fails_on laws by_event holder input log zero s last h same = subst (Reached input log) same h
fails_on laws by_event holder input log (suc n) s last h (i, f, rest) =
    fails_on laws by_event holder input log n (attempt (setup_of input) i s) last
    (fails_once laws by_event holder input log s i h f) rest

-- ## Scripts and threads

in_call_later : (input : Inputs) (k : ℕ) (p : Player) (u : lock.Thread) (m : ℕ) → IsInCall input k p u
    → IsInCall input k p (record u { clock = m })
in_call_later input k p u m h = record { even = h.even; reached = h.reached; free = h.free }

wanting_plays : (input : Inputs) (k : ℕ) (p : Player) (u : lock.Thread) (m : ℕ) (q : Phase) → wants q ≡ true
    → PlaysIn q input k p u → PlaysIn q input k p (record u { clock = m })
wanting_plays input k p u m (WantsTable call carried) h plays = in_call_later input k p u m plays
wanting_plays input k p u m (WantsObject call carried clock n way) h plays = in_call_later input k p u m plays
wanting_plays input k p u m q h plays = absurd (false≢true h)

passed_plays : (input : Inputs) (turn : Turn) (k : ℕ) (p : Player) (u : lock.Thread) → Plays input k p u
    → Plays input k p (passed turn k u)
passed_plays input turn k p u plays =
    ⊎_elim
    (λ (w : wants u.phase ≡ true). subst (Plays input k p)
    (sym (cond-true (wants u.phase) (record u { clock = max u.clock (first_from turn k) }) u w))
    (wanting_plays input k p u (max u.clock (first_from turn k)) u.phase w plays))
    (λ (w : wants u.phase ≡ false). subst (Plays input k p)
    (sym (cond-false (wants u.phase) (record u { clock = max u.clock (first_from turn k) }) u w)) plays)
    (cases_Bool (wants u.phase))

passed_weighs : (turn : Turn) (k : ℕ) (u : lock.Thread) (stuck : Bool) (lines : ℕ)
    → weight_at (passed turn k u) stuck lines ≤ weight_at u stuck lines
passed_weighs turn k u stuck lines =
    ⊎_elim
    (λ (w : wants u.phase ≡ true). subst (λ (v : lock.Thread). weight_at v stuck lines ≤ weight_at u stuck lines)
    (sym (cond-true (wants u.phase) (record u { clock = max u.clock (first_from turn k) }) u w))
    (later_weighs u (max u.clock (first_from turn k)) stuck lines (more u.clock (first_from turn k))))
    (λ (w : wants u.phase ≡ false). subst (λ (v : lock.Thread). weight_at v stuck lines ≤ weight_at u stuck lines)
    (sym (cond-false (wants u.phase) (record u { clock = max u.clock (first_from turn k) }) u w))
    (same (weight_at u stuck lines)))
    (cases_Bool (wants u.phase))
  where
    more : (a b : ℕ) → a ≤ max a b
    more a b = omega arith

    same : (a : ℕ) → a ≤ a
    same a = omega arith

total_less : (ts us : List Thread) (ps : List Player) → length us ≡ length ts → length ps ≡ length ts
    → ((k : ℕ) → weight (get_or us k no_thread) (get_or ps k no_player)
    ≤ weight (get_or ts k no_thread) (get_or ps k no_player)) → total us ps ≤ total ts ps
total_less [] [] ps same seats less = omega arith
total_less [] (u ∷ us) ps same seats less = cc
total_less (t ∷ ts) [] ps same seats less = cc
total_less (t ∷ ts) (u ∷ us) [] same seats less = cc
total_less (t ∷ ts) (u ∷ us) (p ∷ ps) same seats less =
    let a : length us ≡ length ts = cc in
    let b : length ps ≡ length ts = cc in
    both (weight u p) (weight t p) (total us ps) (total ts ps) (less 0) (total_less ts us ps a b (λ k. less (suc k)))
  where
    both : (a b x y : ℕ) → a ≤ b → x ≤ y → a + x ≤ b + y
    both a b x y l m = omega arith

-- ## The whole

-- the run of a driver whose machine has skipped attempts
abbrev pub with_whole : Played → Whole → Played
with_whole p w = record p { whole = w }

played_on : (input : Inputs) (p : Played) (w : Whole) (s : State) → IsPlayed input p s
    → length w.threads ≡ length p.whole.threads → (h : Passes (conditions_of input) s w)
    → IsPlayed input (with_whole p w) h.skipped.last
played_on input p w s plays count h =
    record {
      shows = h.shows;
      outcomes = plays.outcomes;
      count = plays.count ∙ sym count;
      plays = λ k. subst (Plays input k (player_at p k)) (sym (h.skipped.threads k))
          (passed_plays input h.turn k (player_at p k) (thread_of s k) (plays.plays k));
    }

weighs_less : (input : Inputs) (p : Played) (w : Whole) (s : State) → IsPlayed input p s
    → length w.threads ≡ length p.whole.threads → Passes (conditions_of input) s w
    → Falls false p.whole.threads p.players w.threads p.players
weighs_less input p w s plays count h = total_less p.whole.threads w.threads p.players count plays.count each
  where
    each : (k : ℕ) → weight (thread_at w k) (player_at p k) ≤ weight (thread_at p.whole k) (player_at p k)
    each k =
        let x = player_at p k in
        let u = thread_of s k in
        let then : weight (thread_at w k) x ≡ weight_at (thread_of h.skipped.last k) x.stuck (lines_left x.actor) =
        weight_shown (conditions_of input) k h.skipped.last.rows (thread_at w k) (thread_of h.skipped.last k) x
        (h.shows.threads k) in
        let now : weight (thread_at p.whole k) x ≡ weight_at u x.stuck (lines_left x.actor) =
        weight_shown (conditions_of input) k s.rows (thread_at p.whole k) u x (plays.shows.threads k) in
        let moved : weight_at (thread_of h.skipped.last k) x.stuck (lines_left x.actor)
        ≡ weight_at (passed h.turn k u) x.stuck (lines_left x.actor) =
        ap (λ (v : lock.Thread). weight_at v x.stuck (lines_left x.actor)) (h.skipped.threads k) in
        by_parts (weight (thread_at w k) x) (weight_at (passed h.turn k u) x.stuck (lines_left x.actor))
        (weight_at u x.stuck (lines_left x.actor)) (weight (thread_at p.whole k) x) (then ∙ moved) now
        (passed_weighs h.turn k u x.stuck (lines_left x.actor))
      where
        by_parts : (a b c d : ℕ) → a ≡ b → d ≡ c → b ≤ c → a ≤ d
        by_parts a b c d e f l = omega arith

pub skipped_on : EventLaws → ArisesByEvent → HolderHasTurn → (input : Inputs) (p : Played) (w : Whole)
    → Rests input (length p.players) p → length w.threads ≡ length p.whole.threads → SkipsFailures p.whole w
    → Rests input (length p.players) (with_whole p w) × Falls false p.whole.threads p.players w.threads p.players
skipped_on laws by_event holder input p w h count skips =
    let s = h.comes.state in
    let passes : Passes (conditions_of input) s w = skips (conditions_of input) s (h.comes.arises, h.comes.plays.shows)
    in
    let last = passes.skipped.last in
    let seats : length p.players ≡ length s.threads = h.comes.plays.count ∙ sym h.comes.plays.shows.count in
    let first : Reached input p.log s = record {
      count = h.comes.count;
      goes = h.comes.goes;
      arises = h.comes.arises;
      log_is = h.comes.log;
      still = λ k l. h.still k (subst (λ (n : ℕ). k < n) (sym seats) l);
    } in
    let there = fails_on laws by_event holder input p.log passes.skipped.count s last first passes.skipped.fails in (
      record {
        comes = record {
          state = last;
          count = there.count;
          goes = there.goes;
          arises = there.arises;
          plays = played_on input p w s h.comes.plays count passes;
          log = there.log_is;
        };
        still = λ k l. there.still k (subst (λ (n : ℕ). k < n) (seats ∙ sym passes.skipped.length) l);
      },
      weighs_less input p w s h.comes.plays count passes,
    )

-- ## The next attempt

pub over_next : EventLaws → ArisesByEvent → HolderHasTurn → ClocksShown → (p : Played) (w : Whole)
    → length w.threads ≡ length p.whole.threads → SkipsFailures p.whole w → turn_holder (clocks_of w.threads) ≡ None
    → AttemptsNext None p (with_whole p w)
over_next laws by_event holder clocks p w count skips none input h =
    nobody_left clocks input (with_whole p w) (skipped_on laws by_event holder input p w h count skips).0 none

pub refused_next : EventLaws → ArisesByEvent → HolderHasTurn → ClocksShown → (i : ℕ) (p new : Played) (w : Whole)
    → length w.threads ≡ length p.whole.threads → SkipsFailures p.whole w → turn_holder (clocks_of w.threads) ≡ Some i
    → Attempted false i (with_whole p w) new → AttemptsNext None p new
refused_next laws by_event holder clocks i p new w count skips has made input h =
    refused_there laws clocks input i (with_whole p w) new (skipped_on laws by_event holder input p w h count skips).0
    has made

pub attempted_next : EventLaws → ArisesByEvent → HolderHasTurn → ClocksShown → (i : ℕ) (p new : Played) (w : Whole)
    → length p.players ≡ length p.whole.threads → i < length w.threads → length w.threads ≡ length p.whole.threads
    → SkipsFailures p.whole w → turn_holder (clocks_of w.threads) ≡ Some i → Attempted true i (with_whole p w) new
    → AttemptsNext (Some i) p new
attempted_next laws by_event holder clocks i p new w seats inside count skips has made input h =
    let skipped = skipped_on laws by_event holder input p w h count skips in
    let next = attempted_on laws by_event clocks input i (with_whole p w) new skipped.0 has made in (
      subst (λ (n : ℕ). i < n) (count ∙ sym seats) inside,
      next.0,
      lower (total new.whole.threads new.players) (total w.threads p.players) (total p.whole.threads p.players) next.1
          skipped.1,
    )
  where
    lower : (a b c : ℕ) → a < b → b ≤ c → a < c
    lower a b c h g = omega arith

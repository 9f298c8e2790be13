-- The events of the plain schedule.
use Rattle.std.proofs.Common.{◌≡◌, ◌⊎◌, ℕ, zero, suc, ◌+◌, ◌<◌, ◌≤◌, List, [], ◌++◌, length, Option, Some, None, Bool}
use Rattle.std.proofs.Common.{true, false, ◌||◌, is_some, max, slice_get, inl, inr, ⊎_elim, sym, refl, ap, ap₂, ◌∙◌}
use Rattle.std.proofs.Common.{subst, arith}
use Rattle.std.proofs.lemmas.Bool.{cases_eq, cond-true, cond-false, true≢false}
use Rattle.std.proofs.lemmas.List.{append_assoc, append-nil, length-append}
use Rattle.std.proofs.lemmas.Grind.{flat_map-append}
use Rattle.std.proofs.lemmas.Option.{none-some}
use Rattle.input_log.specs.Format.{record_text, records_text}
use Rattle.input_log.specs.declared.log.Record.{Record}
use Rattle.posix_terms.specs.declared.limits.TheConstants.Limits as limit
use Rattle.lock_model.specs.Events.{EventLaws, thread_in}
use Rattle.lock_model.specs.Laws.{ArisesAtStart, ArisesByEvent}
use Rattle.lock_model.specs.Machine.{Event, Setup, advance, attempt, can_advance, can_attempt, happens, moves}
use Rattle.sequential_object.specs.Numbers.{first_world}
use Rattle.lock_model.specs.Machine.Event.{Advances, Attempts}
use Rattle.lock_model.specs.Schedule.{IsOver, advance_by, after_event, attempt_by, next_event, plain, plain_run}
use Rattle.lock_model.specs.State as lock
use Rattle.lock_model.specs.State.{State, live_clocks, thread_of}
use Rattle.logical_clocks.specs.TurnOrder.{LeastIsFound, first_below, first_or, turn_holder}
use Rattle.call_machine.specs.Driven.{Begins, ComesTo, Ends, GoesOn, IsLogged, Rests, RestsBut, first_log, stops_at}
use Rattle.call_machine.specs.Logs.{LogsMore, Written, came_between}
use Rattle.call_machine.specs.Logs.{plain_records, recorded_by, recorded_next}
use Rattle.call_machine.specs.Plain.{GoesTo}
use Rattle.call_machine.specs.Playing.{Attempted, IsPlayed, Made, Makes, Played}
use Rattle.call_machine.specs.Setup.{Inputs, conditions_of, first_state, outcomes_of, setup_of}
use Rattle.call_machine.specs.Diverging.{diverging, if_diverging}
use Rattle.lock_machine.specs.Shows.{ClocksShown}
use Rattle.lock_machine.specs.Diverging.{diverging_in, is_diverging}
use Rattle.lock_machine.specs.declared.outside.Progress.{Progress}
use Rattle.lock_machine.specs.Views.{clocks_of}
use Rattle.call_machine.specs.Weights.{Falls, total}
use Rattle.lock_machine.specs.declared.outside.Progress.TheVariants as progress
use Rattle.call_machine.proofs.Quiet.{attempt_came, logs_none, none_between}

-- ## Diverges and advances together

neither : (a b : Bool) → (a || b) ≡ false → (a ≡ false) × (b ≡ false)
neither true b h = absurd (true≢false h)
neither false b h = (refl, h)

none_below : (n : ℕ) (p : ℕ → Bool) → ((k : ℕ) → k < n → p k ≡ false) → first_below n p ≡ None
unfolding first_below
none_below zero p h = refl
none_below (suc n) p h = ap (λ (o : Option ℕ). first_or o (p n) n) (none_below n p (λ k l. h k (omega arith)))
    ∙ ap (λ (b : Bool). first_or None b n) (h n (omega arith))

-- a thread of the run is one of the state
seat_of : (input : Inputs) (p : Played) (s : State) → IsPlayed input p s → length p.players ≡ length s.threads
seat_of input p s h = h.count ∙ sym h.shows.count

-- ## The run

-- one event of the plain run more
pub run_next : (setup : Setup) (n : ℕ) (first : State)
    → plain_run setup (suc n) first ≡ (let s = plain_run setup n first in after_event setup s (next_event setup s))
unfolding plain_run plain
run_next setup zero first = refl
run_next setup (suc n) first = run_next setup n (plain setup first)

pub at_the_start : ArisesAtStart → (input : Inputs) (p : Played) → Begins input p → ComesTo input p
unfolding plain_run plain_records
at_the_start starts input p h =
    record {
      state = first_state input;
      count = 0;
      goes = record { reached = refl; straight = λ k less. absurd (no_less k less) };
      arises = starts (setup_of input) (length input.scripts) limit.OBJECTS first_world;
      plays = h.plays;
      log = logs_none [] (first_log input) p.log refl h.log;
    }
  where
    no_less : (k : ℕ) → k < 0 → ⊥
    no_less k less = omega arith

-- so the run goes on
pub goes_on_by : (input : Inputs) (count : ℕ) (s : State) (e : Event)
    → GoesTo (setup_of input) (first_state input) count s → diverging (setup_of input) s ≡ None
    → next_event (setup_of input) s ≡ Some e
    → GoesTo (setup_of input) (first_state input) (suc count) (happens (setup_of input) e s)
goes_on_by input count s e goes straight next =
    record {
      reached = run_next (setup_of input) count (first_state input)
          ∙ ap (λ (z : State). after_event (setup_of input) z (next_event (setup_of input) z)) goes.reached
          ∙ ap (after_event (setup_of input) s) next;
      straight = λ k less. by_place k less (cases_eq k count);
    }
  where
    fewer : (k n : ℕ) → k < suc n → (k ≡ n → ⊥) → k < n
    fewer k n less apart = omega (arith, apart)

    by_place : (k : ℕ) → k < suc count → (k ≡ count) ⊎ (k ≡ count → ⊥)
        → diverging (setup_of input) (plain_run (setup_of input) k (first_state input)) ≡ None
    by_place k less (inl same) = ap
        (λ (n : ℕ). diverging (setup_of input) (plain_run (setup_of input) n (first_state input))) same
        ∙ ap (diverging (setup_of input)) goes.reached ∙ straight
    by_place k less (inr apart) = goes.straight k (fewer k count less apart)

pub logged_on : (input : Inputs) (count : ℕ) (s : State) (e : Event) (old new : Written)
    → plain_run (setup_of input) count (first_state input) ≡ s → next_event (setup_of input) s ≡ Some e
    → IsLogged input count old → LogsMore (recorded_by input.settings.version (setup_of input) s e) old new
    → IsLogged input (suc count) new
unfolding plain_records
logged_on input count s e old new reached next before more =
    let setup = setup_of input in
    let version = input.settings.version in
    let so_far = plain_records version setup count (first_state input) in
    let last : (let z = plain_run setup count (first_state input) in recorded_next version setup z (next_event setup z))
    ≡ recorded_by version setup s e =
    ap (λ (z : State). recorded_next version setup z (next_event setup z)) reached
    ∙ ap (recorded_next version setup s) next in
    let added = recorded_by version setup s e in (
      more.0 ∙ ap (λ (bs : List ℕ). bs ++ records_text added) before.0
          ∙ append_assoc (first_log input).text (records_text so_far) (records_text added)
          ∙ ap (λ (bs : List ℕ). (first_log input).text ++ bs) (sym (flat_map-append record_text so_far added))
          ∙ ap (λ (rs : List Record). (first_log input).text ++ records_text (so_far ++ rs)) (sym last),
      more.1 ∙ ap (λ (n : ℕ). n + length added) before.1 ∙ sums (length so_far) (length added)
          ∙ ap (λ (n : ℕ). 0 + n) (sym (length-append so_far added))
          ∙ ap (λ (rs : List Record). 0 + length (so_far ++ rs)) (sym last),
    )
  where
    sums : (a b : ℕ) → 0 + a + b ≡ 0 + (a + b)
    sums a b = omega arith

-- with one event more
abbrev next_comes : ArisesByEvent → (input : Inputs) (old new : Played) (h : ComesTo input old) (e : Event)
    → diverging (setup_of input) h.state ≡ None → next_event (setup_of input) h.state ≡ Some e
    → IsPlayed input new (happens (setup_of input) e h.state)
    → LogsMore (recorded_by input.settings.version (setup_of input) h.state e) old.log new.log → ComesTo input new
next_comes by_event input old new h e straight next plays log =
    let setup = setup_of input in
    record {
      state = happens setup e h.state;
      count = suc h.count;
      goes = goes_on_by input h.count h.state e h.goes straight next;
      arises = by_event setup (first_state input) h.state e h.arises;
      plays = plays;
      log = logged_on input h.count h.state e old.log new.log h.goes.reached next h.log log;
    }

-- the run stays where it is
abbrev stays_there : (input : Inputs) (old new : Played) (h : ComesTo input old) → IsPlayed input new h.state
    → new.log ≡ old.log → ComesTo input new
stays_there input old new h plays log =
    let P : Written → Type 0 = IsLogged input h.count in
    record {
      state = h.state;
      count = h.count;
      goes = h.goes;
      arises = h.arises;
      plays = plays;
      log = subst P (sym log) h.log;
    }

-- and ends there
ends_there : (input : Inputs) (diverged : Option ℕ) (p : Played) (h : ComesTo input p)
    → diverging (setup_of input) h.state ≡ diverged → (diverged ≡ None → IsOver (setup_of input) h.state)
    → Ends input diverged p
ends_there input diverged p h diverges over =
    record {
      last = h.state;
      count = h.count;
      goes = h.goes;
      diverges = diverges;
      over = over;
      arises = h.arises;
      plays = h.plays;
      log = h.log;
    }

-- ## One thread goes on

-- an event of thread i leaves the others as they are
pub still_there : EventLaws → (input : Inputs) (s : State) (e : Event) (k : ℕ) → (thread_in e ≡ k → ⊥)
    → stops_at input s k ≡ false → stops_at input (happens (setup_of input) e s) k ≡ false
still_there laws input s e k apart still =
    let t : lock.Thread = thread_of s k in
    let P : lock.Thread → Type 0 =
    λ u. (is_some (moves (setup_of input) k u)
    || diverging_in (setup_of input) u.phase (slice_get (outcomes_of input k) (length u.came))) ≡ false in
    subst P (sym (laws.others (setup_of input) s e k apart)) still

-- the first thread that stops is thread i
first_stops : LeastIsFound → (input : Inputs) (s : State) (n i : ℕ) → i ≤ n → i < length s.threads
    → ((k : ℕ) → k < n → (k ≡ i → ⊥) → stops_at input s k ≡ false) → stops_at input s i ≡ true
    → first_below (length s.threads) (stops_at input s) ≡ Some i
first_stops found input s n i below inside still stops = found (length s.threads) i (stops_at input s) inside
    (none_below i (stops_at input s) (λ k l. still k (omega arith) (λ e. omega (arith, e)))) stops

first_advances : LeastIsFound → (input : Inputs) (s : State) (n i : ℕ) → i ≤ n → i < length s.threads
    → ((k : ℕ) → k < n → (k ≡ i → ⊥) → stops_at input s k ≡ false) → can_advance (setup_of input) s i ≡ true
    → first_below (length s.threads) (can_advance (setup_of input) s) ≡ Some i
first_advances found input s n i below inside still can =
    found (length s.threads) i (can_advance (setup_of input) s) inside
    (none_below i (can_advance (setup_of input) s)
    (λ k l. (neither (can_advance (setup_of input) s k) (is_diverging (setup_of input) s k)
    (still k (omega arith) (λ e. omega (arith, e)))).0)) can

pub advanced_on : EventLaws → ArisesByEvent → LeastIsFound → (input : Inputs) (n i : ℕ) (old new : Played)
    → i < length old.players → i ≤ n → RestsBut input n i old → Makes progress.Moves i old new
    → RestsBut input n i new × Falls true old.whole.threads old.players new.whole.threads new.players
unfolding next_event diverging
advanced_on laws by_event found input n i old new inside below h moved =
    let setup = setup_of input in
    let s = h.comes.state in
    let made = moved input s (h.comes.arises, h.comes.plays) in
    let within : i < length s.threads = subst (λ (m : ℕ). i < m) (seat_of input old s h.comes.plays) inside in
    let stops : stops_at input s i ≡ true = ap₂ (λ (a b : Bool). a || b) made.can made.diverges in
    let straight : diverging setup s ≡ None =
    ap (if_diverging setup s) (first_stops found input s n i below within h.still stops)
    ∙ cond-false (is_diverging setup s i) (Some i) None made.diverges in
    let next : next_event setup s ≡ Some (Advances i) =
    ap (advance_by setup s) (first_advances found input s n i below within h.still made.can) in (
      record {
        comes = next_comes by_event input old new h.comes (Advances i) straight next made.plays made.log;
        still = λ k l apart. still_there laws input s (Advances i) k (λ e. apart (sym e)) (h.still k l apart);
      },
      made.falls,
    )

-- the log of an event that was not made is as it was
unlogged : EventLaws → (input : Inputs) (s : State) (i : ℕ) (now new : Played)
    → can_advance (setup_of input) s i ≡ false
    → LogsMore (came_between input.settings.version i s (advance (setup_of input) i s)) now.log new.log
    → new.log ≡ now.log
unlogged laws input s i now new stays log =
    let same : advance (setup_of input) i s ≡ s = laws.not_allowed (setup_of input) (Advances i) s stays in
    let none : came_between input.settings.version i s (advance (setup_of input) i s)
    ≡ [] = none_between input.settings.version i s (advance (setup_of input) i s)
    (ap (λ (z : State). (thread_of z i).came) same) in
    let P : List Record → Type 0 = λ rs. LogsMore rs now.log new.log in
    let h : LogsMore [] now.log new.log = subst P none log in
    λ k. record { text = (h.0 ∙ append-nil now.log.text) k; records = (h.1 ∙ no_more now.log.records) k }
  where
    no_more : (n : ℕ) → n + 0 ≡ n
    no_more n = omega arith

abbrev rested : EventLaws → (input : Inputs) (i : ℕ) (old new : Played) (h : ComesTo input old) (made : Progress)
    → can_advance (setup_of input) h.state i ≡ false → Made made i old new input h.state → ComesTo input new
rested laws input i old new h made stays m =
    let P : State → Type 0 = IsPlayed input new in
    stays_there input old new h (subst P (laws.not_allowed (setup_of input) (Advances i) h.state stays) m.plays)
    (unlogged laws input h.state i old new stays m.log)

pub stayed : EventLaws → (input : Inputs) (n i : ℕ) (old new : Played) → i ≤ n → RestsBut input n i old
    → Makes progress.Stays i old new → Rests input (max n (i + 1)) new
    × Falls false old.whole.threads old.players new.whole.threads new.players
stayed laws input n i old new below h stays =
    let s = h.comes.state in
    let made = stays input s (h.comes.arises, h.comes.plays) in
    let own : stops_at input s i ≡ false = ap₂ (λ (a b : Bool). a || b) made.can made.diverges in (
      record {
        comes = rested laws input i old new h.comes progress.Stays made.can made;
        still = λ k l. ⊎_elim (λ (e : k ≡ i). ap (stops_at input s) e ∙ own)
            (λ (apart : k ≡ i → ⊥). h.still k (omega (arith, apart)) apart) (cases_eq k i);
      },
      made.falls,
    )

pub diverged : EventLaws → LeastIsFound → (input : Inputs) (n i : ℕ) (old new : Played) → i < length old.players → i ≤ n
    → RestsBut input n i old → Makes progress.Diverges i old new → Ends input (Some i) new
unfolding diverging
diverged laws found input n i old new inside below h diverges =
    let setup = setup_of input in
    let s = h.comes.state in
    let made = diverges input s (h.comes.arises, h.comes.plays) in
    let within : i < length s.threads = subst (λ (m : ℕ). i < m) (seat_of input old s h.comes.plays) inside in
    let stops : stops_at input s i ≡ true = ap₂ (λ (a b : Bool). a || b) made.can made.diverges in
    ends_there input (Some i) new (rested laws input i old new h.comes progress.Diverges made.can made)
    (ap (if_diverging setup s) (first_stops found input s n i below within h.still stops)
    ∙ cond-true (is_diverging setup s i) (Some i) None made.diverges)
    (λ none. absurd (none-some i (sym none)))

-- ## Where no thread goes on

abbrev pub AllStill : Inputs → State → Type 0
AllStill input s = (k : ℕ) → k < length s.threads → stops_at input s k ≡ false

pub still_straight : (input : Inputs) (s : State) → AllStill input s → diverging (setup_of input) s ≡ None
unfolding diverging
still_straight input s still =
    ap (if_diverging (setup_of input) s) (none_below (length s.threads) (stops_at input s) still)

pub still_next : (input : Inputs) (s : State) → AllStill input s
    → next_event (setup_of input) s ≡ attempt_by (setup_of input) s (turn_holder (live_clocks s))
unfolding next_event
still_next input s still =
    ap (advance_by (setup_of input) s)
    (none_below (length s.threads) (can_advance (setup_of input) s)
    (λ k l. (neither (can_advance (setup_of input) s k) (is_diverging (setup_of input) s k) (still k l)).0))

all_still : (input : Inputs) (p : Played) (h : Rests input (length p.players) p) → AllStill input h.comes.state
all_still input p h k l = h.still k (subst (λ (n : ℕ). k < n) (sym (seat_of input p h.comes.state h.comes.plays)) l)

holder_is : ClocksShown → (input : Inputs) (p : Played) (s : State) (o : Option ℕ) → IsPlayed input p s
    → turn_holder (clocks_of p.whole.threads) ≡ o → attempt_by (setup_of input) s (turn_holder (live_clocks s))
    ≡ attempt_by (setup_of input) s o
holder_is clocks input p s o h e =
    ap (attempt_by (setup_of input) s) (ap turn_holder (clocks (conditions_of input) p.whole s h.shows) ∙ e)

pub nobody_left : ClocksShown → (input : Inputs) (p : Played) → Rests input (length p.players) p
    → turn_holder (clocks_of p.whole.threads) ≡ None → Ends input None p
nobody_left clocks input p h none =
    let s = h.comes.state in
    ends_there input None p h.comes (still_straight input s (all_still input p h))
    (λ _. still_next input s (all_still input p h) ∙ holder_is clocks input p s None h.comes.plays none)

pub attempted_on : EventLaws → ArisesByEvent → ClocksShown → (input : Inputs) (i : ℕ) (old new : Played)
    → Rests input (length old.players) old → turn_holder (clocks_of old.whole.threads) ≡ Some i
    → Attempted true i old new
    → RestsBut input (length old.players) i new × Falls true old.whole.threads old.players new.whole.threads new.players
attempted_on laws by_event clocks input i old new h holder made =
    let setup = setup_of input in
    let s = h.comes.state in
    let tried = made input s (h.comes.arises, h.comes.plays) in
    let next : next_event setup s ≡ Some (Attempts i) = still_next input s (all_still input old h)
    ∙ holder_is clocks input old s (Some i) h.comes.plays holder
    ∙ cond-true (can_attempt setup s i) (Some (Attempts i)) None tried.can in
    let none : came_between input.settings.version i s (attempt setup i s)
    ≡ [] = none_between input.settings.version i s (attempt setup i s) (attempt_came laws setup s i) in (
      record {
        comes = next_comes by_event input old new h.comes (Attempts i) (still_straight input s (all_still input old h))
            next tried.plays (logs_none (came_between input.settings.version i s (attempt setup i s)) old.log new.log
            none tried.log);
        still = λ k l apart. still_there laws input s (Attempts i) k (λ e. apart (sym e)) (h.still k l);
      },
      tried.falls,
    )

pub refused_there : EventLaws → ClocksShown → (input : Inputs) (i : ℕ) (old new : Played)
    → Rests input (length old.players) old → turn_holder (clocks_of old.whole.threads) ≡ Some i
    → Attempted false i old new → Ends input None new
refused_there laws clocks input i old new h holder made =
    let setup = setup_of input in
    let s = h.comes.state in
    let tried = made input s (h.comes.arises, h.comes.plays) in
    let P : State → Type 0 = IsPlayed input new in
    let there = stays_there input old new h.comes
    (subst P (laws.not_allowed setup (Attempts i) s tried.can) tried.plays) tried.log in
    ends_there input None new there (still_straight input s (all_still input old h))
    (λ _. still_next input s (all_still input old h) ∙ holder_is clocks input old s (Some i) h.comes.plays holder
    ∙ cond-false (can_attempt setup s i) (Some (Attempts i)) None tried.can)

-- ## At the start

pub rests_first : ArisesAtStart → (input : Inputs) (p : Played) → Begins input p → Rests input 0 p
rests_first starts input p h = record { comes = at_the_start starts input p h; still = λ k l. absurd (omega arith) }

pub rests_but : (input : Inputs) (n i : ℕ) (p : Played) → Rests input n p → RestsBut input n i p
rests_but input n i p h = record { comes = h.comes; still = λ k l apart. h.still k l }

pub rests_for : (input : Inputs) (n m : ℕ) (p : Played) → n ≡ m → Rests input n p → Rests input m p
rests_for input n m p e h = subst (λ (k : ℕ). Rests input k p) e h

-- ## Thread i goes on

-- it has gone on so far
pub record KeepsOn (i : ℕ) (old now : Played) : Type 0 where
  pub count : length now.players ≡ length old.players
  pub rests : (input : Inputs) (n : ℕ) → i ≤ n → RestsBut input n i old → RestsBut input n i now
      × Falls false old.whole.threads old.players now.whole.threads now.players

pub keeps_first : (i : ℕ) (p : Played) → KeepsOn i p p
keeps_first i p = record { count = refl; rests = λ input n below h. (h, omega arith) }

pub keeps_more : EventLaws → ArisesByEvent → LeastIsFound → (i : ℕ) (old now new : Played) → i < length old.players
    → length new.players ≡ length now.players → KeepsOn i old now → Makes progress.Moves i now new → KeepsOn i old new
keeps_more laws by_event found i old now new inside same h moved =
    record {
      count = same ∙ h.count;
      rests = λ input n below rests.
          let so_far = h.rests input n below rests in
          let next = advanced_on laws by_event found input n i now new (subst (λ (k : ℕ). i < k) (sym h.count) inside)
          below so_far.0 moved in (
            next.0,
            lower (total new.whole.threads new.players) (total now.whole.threads now.players)
                (total old.whole.threads old.players) next.1 so_far.1,
          );
    }
  where
    lower : (a b c : ℕ) → a < b → b ≤ c → a ≤ c
    lower a b c h g = omega arith

-- which lowers what the scripts can still do
pub keeps_lower : EventLaws → ArisesByEvent → LeastIsFound → (input : Inputs) (n i : ℕ) (old now new : Played)
    → i < length old.players → i ≤ n → RestsBut input n i old → KeepsOn i old now → Makes progress.Moves i now new
    → total new.whole.threads new.players < total now.whole.threads now.players
keeps_lower laws by_event found input n i old now new inside below rests h moved =
    (advanced_on laws by_event found input n i now new (subst (λ (k : ℕ). i < k) (sym h.count) inside) below
    (h.rests input n below rests).0 moved).1

pub went_on : EventLaws → (i : ℕ) (old now new : Played) → KeepsOn i old now → Makes progress.Stays i now new
    → GoesOn false i old new
went_on laws i old now new h stays input n below rests =
    let so_far = h.rests input n below rests in
    let next = stayed laws input n i now new below so_far.0 stays in (
      next.0,
      no_higher (total new.whole.threads new.players) (total now.whole.threads now.players)
          (total old.whole.threads old.players) next.1 so_far.1,
    )
  where
    no_higher : (a b c : ℕ) → a ≤ b → b ≤ c → a ≤ c
    no_higher a b c h g = omega arith

pub went_apart : EventLaws → LeastIsFound → (i : ℕ) (old now new : Played) → i < length old.players → KeepsOn i old now
    → Makes progress.Diverges i now new → GoesOn true i old new
went_apart laws found i old now new inside h diverges input n below rests =
    diverged laws found input n i now new (subst (λ (k : ℕ). i < k) (sym h.count) inside) below
    (h.rests input n below rests).0 diverges

-- ## The run goes on

-- the next thread of the first ones has gone on
pub rests_more : (input : Inputs) (i : ℕ) (old new : Played) → Rests input i old → GoesOn false i old new
    → Rests input (i + 1) new
rests_more input i old new h goes = rests_for input (max i (i + 1)) (i + 1) new (next i)
    (goes input i (omega arith) (rests_but input i i old h)).0
  where
    next : (i : ℕ) → max i (i + 1) ≡ i + 1
    next i = omega arith

pub ends_first : (input : Inputs) (i : ℕ) (old new : Played) → Rests input i old → GoesOn true i old new
    → Ends input (Some i) new
ends_first input i old new h goes = goes input i (omega arith) (rests_but input i i old h)

-- a thread made its attempt, and has gone on
pub rests_again : (input : Inputs) (i n : ℕ) (mid new : Played) → i < n → n ≡ length new.players
    → RestsBut input n i mid → GoesOn false i mid new → Rests input (length new.players) new
rests_again input i n mid new inside all h goes = rests_for input (max n (i + 1)) (length new.players) new
    (same i n inside ∙ all) (goes input n (omega arith) h).0
  where
    same : (i n : ℕ) → i < n → max n (i + 1) ≡ n
    same i n inside = omega arith

pub ends_again : (input : Inputs) (i n : ℕ) (mid new : Played) → i < n → RestsBut input n i mid → GoesOn true i mid new
    → Ends input (Some i) new
ends_again input i n mid new inside h goes = goes input n (omega arith) h

pub goes_lower : (input : Inputs) (i n : ℕ) (old mid new : Played) → i < n → RestsBut input n i mid
    → GoesOn false i mid new → total mid.whole.threads mid.players < total old.whole.threads old.players
    → total new.whole.threads new.players < total old.whole.threads old.players
goes_lower input i n old mid new inside h goes less =
    lower (total new.whole.threads new.players) (total mid.whole.threads mid.players)
    (total old.whole.threads old.players) (goes input n (omega arith) h).1 less
  where
    lower : (a b c : ℕ) → a ≤ b → b < c → a < c
    lower a b c h g = omega arith

pub record HaveGoneOn (n : ℕ) (first now : Played) : Type 0 where
  pub count : length now.players ≡ length first.players
  pub rests : (input : Inputs) → Begins input first → Rests input n now

pub none_gone : ArisesAtStart → (p : Played) → HaveGoneOn 0 p p
none_gone starts p = record { count = refl; rests = λ input h. rests_first starts input p h }

pub one_gone : (i : ℕ) (first now new : Played) → HaveGoneOn i first now → length new.players ≡ length now.players
    → GoesOn false i now new → HaveGoneOn (i + 1) first new
one_gone i first now new h same goes =
    record { count = same ∙ h.count; rests = λ input begins. rests_more input i now new (h.rests input begins) goes }

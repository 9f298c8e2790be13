-- What a run shows at its start, and tells at its end.
use Rattle.std.proofs.Common.{◌≡◌, ℕ, suc, ◌+◌, ◌<◌, ◌≤◌, List, [], ◌∷◌, ◌++◌, Option, Some, None, Bool, length, map}
use Rattle.std.proofs.Common.{get_or, sym, refl, ap, ap₂, ◌∙◌, subst, arith, ⊎_elim}
use Rattle.std.proofs.lemmas.Bool.{cases_lt}
use Rattle.std.proofs.lemmas.List.{append_assoc, get_or-map, get_or-replicate, get_or_past, length-map}
use Rattle.std.proofs.lemmas.List.{length-replicate}
use Rattle.lock_model.specs.State as lock
use Rattle.lock_model.specs.State.{Row, State, nobody, thread_of}
use Rattle.lock_model.specs.State.Phase.{Ended, Granted, WantsTable, Working}
use Rattle.posix_terms.specs.declared.transcript.HistoryRow.{HistoryRow}
use Rattle.call_machine.specs.History.{transcripts_of}
use Rattle.input_log.specs.Format.{closing, header_text, records_text, text_of}
use Rattle.logical_clocks.specs.TurnOrder.{turn_holder}
use Rattle.call_machine.specs.Driven.{Begins, IsLogged}
use Rattle.call_machine.specs.Logs.{Written, plain_records}
use Rattle.call_machine.specs.Diverging.{diverging}
use Rattle.machine.specs.declared.stop.Stop.{Stop}
use Rattle.machine.specs.declared.stop.Stop.TheVariants as stop
use Rattle.call_machine.specs.Plain.{all_true, has_ended, header_of, log_of, plain_of, stop_by, stop_of, stuck_in}
use Rattle.call_machine.specs.Playing.{Plays, no_player}
use Rattle.lock_machine.specs.Conditions.{Conditions}
use Rattle.call_machine.specs.Setup.{Inputs, conditions_of, first_state, script_of, setup_of}
use Rattle.lock_machine.specs.Shows.{ClocksShown, PhaseShows, Shows}
use Rattle.lock_machine.specs.Whole.{Whole, thread_at}
use Rattle.call_machine.specs.Starting.{first_played, first_player, is_ended, stop_for, stop_told, stuck_for, told}
use Rattle.lock_machine.specs.Starting.{ShowsAtStart, first_thread}
use Rattle.lock_machine.specs.Views.{clocks_of, no_thread}
use Rattle.call_machine.specs.declared.players.Player.{Player}
use Rattle.lock_machine.specs.declared.thread.Phase.{Phase}
use Rattle.lock_machine.specs.declared.thread.Phase.TheVariants as phase
use Rattle.lock_machine.specs.Threads.{Thread}

-- ## At the start

-- a script before its first line plays a thread before its first step
first_plays : (input : Inputs) (k : ℕ)
    → Plays input k (get_or (map first_player input.scripts) k no_player) (thread_of (first_state input) k)
first_plays input k =
    let n = length input.scripts in
    let P : Player → Type 0 = λ p. Plays input k p (thread_of (first_state input) k) in
    ⊎_elim
    (λ (l : k < n).
    let Q : lock.Thread → Type 0 = Plays input k (first_player (script_of input k)) in
    subst P (sym (get_or-map first_player input.scripts k [] no_player l))
    (subst Q (sym (get_or-replicate n k _ nobody l)) (record { even = refl; reached = refl })))
    (λ (l : n ≤ k).
    let Q : lock.Thread → Type 0 = Plays input k (get_or (map first_player input.scripts) k no_player) in
    subst Q (sym (get_or_past (first_state input).threads k nobody
    (subst (λ (m : ℕ). m ≤ k) (sym (length-replicate n _)) l))) tt)
    (cases_lt k n)

pub first_begins : ShowsAtStart → (input : Inputs)
    → Begins input (first_played (header_of input) input.scripts input.outcomes)
first_begins shows input =
    record {
      plays = record {
        shows = shows (conditions_of input);
        outcomes = refl;
        count = length-map input.scripts first_player ∙ sym (length-replicate (length input.scripts) first_thread);
        plays = first_plays input;
      };
      log = refl;
    }

-- ## At the end

ended_phase : (terms : Conditions) (i : ℕ) (rows : List Row) (t : Thread) (u : lock.Thread) (p : Phase)
    → PhaseShows terms i rows t u p → has_ended u.phase ≡ is_ended p
ended_phase terms i rows t u phase.Working h = ap has_ended h
ended_phase terms i rows t u (phase.WantsTable call carried) h = ap has_ended h
ended_phase terms i rows t u (phase.WantsObject call carried clock object) h = ap has_ended h.1.0
ended_phase terms i rows t u (phase.Granted place object ends) h = ap has_ended h.1.0
ended_phase terms i rows t u (phase.ToOutside o) h = ap has_ended h.1.0
ended_phase terms i rows t u (phase.Outside o) h = ap has_ended h.1.0
ended_phase terms i rows t u (phase.Recorded o) h = ap has_ended h.1.0
ended_phase terms i rows t u (phase.Blocked carried) h = ap has_ended h.1
ended_phase terms i rows t u phase.Ended h = ap has_ended h

maps_agree : {A B C : Type 0} (f : A → C) (g : B → C) (xs : List A) (ys : List B) (d : A) (e : B)
    → length xs ≡ length ys → ((k : ℕ) → f (get_or xs k d) ≡ g (get_or ys k e)) → map f xs ≡ map g ys
maps_agree f g [] [] d e same h = refl
maps_agree f g [] (y ∷ ys) d e same h = cc
maps_agree f g (x ∷ xs) [] d e same h = cc
maps_agree f g (x ∷ xs) (y ∷ ys) d e same h = let rest : length xs ≡ length ys = cc in
    ap₂ ◌∷◌ (h 0) (maps_agree f g xs ys d e rest (λ k. h (suc k)))

-- the same threads have ended in both
ended_shown : (terms : Conditions) (w : Whole) (last : State) → Shows terms w last
    → map (λ (t : Thread). is_ended t.phase) w.threads ≡ map (λ (u : lock.Thread). has_ended u.phase) last.threads
ended_shown terms w last h =
    sym (maps_agree (λ (u : lock.Thread). has_ended u.phase) (λ (t : Thread). is_ended t.phase) last.threads w.threads
    nobody no_thread h.count
    (λ i. ended_phase terms i last.rows (thread_at w i) (thread_of last i) (thread_at w i).phase (h.threads i).phase))

-- what a thread is stuck for that has the turn
stuck_phase : (terms : Conditions) (i : ℕ) (rows : List Row) (t : Thread) (u : lock.Thread) (p : Phase)
    → PhaseShows terms i rows t u p → stuck_for p i ≡ stuck_in u.phase i
stuck_phase terms i rows t u phase.Working h = sym (ap (λ (p : lock.Phase). stuck_in p i) h)
stuck_phase terms i rows t u (phase.WantsTable call carried) h = sym (ap (λ (p : lock.Phase). stuck_in p i) h)
stuck_phase terms i rows t u (phase.WantsObject call carried clock object) h =
    sym (ap (λ (p : lock.Phase). stuck_in p i) h.1.0)
stuck_phase terms i rows t u (phase.Granted place object ends) h = sym (ap (λ (p : lock.Phase). stuck_in p i) h.1.0)
stuck_phase terms i rows t u (phase.ToOutside o) h = sym (ap (λ (p : lock.Phase). stuck_in p i) h.1.0)
stuck_phase terms i rows t u (phase.Outside o) h = sym (ap (λ (p : lock.Phase). stuck_in p i) h.1.0)
stuck_phase terms i rows t u (phase.Recorded o) h = sym (ap (λ (p : lock.Phase). stuck_in p i) h.1.0)
stuck_phase terms i rows t u (phase.Blocked carried) h = sym (ap (λ (p : lock.Phase). stuck_in p i) h.1)
stuck_phase terms i rows t u phase.Ended h = sym (ap (λ (p : lock.Phase). stuck_in p i) h)

stop_shown : ClocksShown → (terms : Conditions) (w : Whole) (last : State) (diverged : Option ℕ) → Shows terms w last
    → stop_told w.threads diverged ≡ stop_of last diverged
stop_shown clocks terms w last (Some i) h = ap (λ (n : ℕ). Some (stop.Diverged i n)) (sym (h.threads i).came)
stop_shown clocks terms w last None h = by_turn (turn_holder (clocks_of w.threads))
    ∙ ap (stop_by last) (ap turn_holder (sym (clocks terms w last h)))
  where
    by_turn : (o : Option ℕ) → stop_for w.threads o ≡ stop_by last o
    by_turn None = refl
    by_turn (Some i) = ap (λ (x : Stop). Some x)
        (stuck_phase terms i last.rows (thread_at w i) (thread_of last i) (thread_at w i).phase (h.threads i).phase)

-- the text of the log
log_shown : (input : Inputs) (count : ℕ) (log : Written) (ended : List Bool) → IsLogged input count log
    → log.text ++ closing (all_true ended) log.records ≡ text_of (log_of input count ended)
log_shown input count log ended logged =
    let records = plain_records input.settings.version (setup_of input) count (first_state input) in
    let whole : log.text ≡ header_text (header_of input) ++ records_text records = logged.0 in
    let count_is : log.records ≡ length records = logged.1 ∙ zero_plus (length records) in
    ap₂ (λ (text : List ℕ) (n : ℕ). text ++ closing (all_true ended) n) whole count_is
    ∙ append_assoc (header_text (header_of input)) (records_text records) (closing (all_true ended) (length records))
  where
    zero_plus : (n : ℕ) → 0 + n ≡ n
    zero_plus n = omega arith

pub told_shown : ClocksShown → (input : Inputs) (w : Whole) (log : Written) (last : State) (count : ℕ)
    (diverged : Option ℕ) → Shows (conditions_of input) w last → IsLogged input count log
    → diverging (setup_of input) last ≡ diverged → told diverged w log ≡ plain_of input count last
told_shown clocks input w log last count diverged h logged diverges k =
    record {
      transcripts = (ap₂ (λ (n : ℕ) (rows : List HistoryRow). transcripts_of n rows) (sym h.count) (sym h.rows)) k;
      history = record {
        rows = sym h.rows k;
        asked = sym (maps_agree (λ (u : lock.Thread). u.asked) (λ (t : Thread). t.asked) last.threads w.threads nobody
            no_thread h.count (λ i. (h.threads i).asked)) k;
      };
      log = (log_shown input count log (map (λ (t : Thread). is_ended t.phase) w.threads) logged
          ∙ ap (λ ended. text_of (log_of input count ended)) (ended_shown (conditions_of input) w last h)) k;
      stop = (stop_shown clocks (conditions_of input) w last diverged h ∙ ap (stop_of last) (sym diverges)) k;
    }

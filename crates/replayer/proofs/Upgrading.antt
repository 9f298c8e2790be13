-- The upgrade of the log that a run wrote.
use Rattle.std.proofs.Common.{◌≡◌, ℕ, Bool, false, List, [], ◌∷◌, length, map, Option, Some, None, is_some, refl, sym}
use Rattle.std.proofs.Common.{ap, ap₂, ◌∙◌, subst, inl, inr, ◌==◌, not, Result, Ok, Err}
use Rattle.std.proofs.lemmas.List.{length-map, length-replicate}
use Rattle.std.proofs.lemmas.Option.{none-some}
use Rattle.std.proofs.lemmas.Simd.{map-map}
use Rattle.call_machine.specs.Diverging.{diverging}
use Rattle.call_machine.specs.Plain.{IsPlainRun, all_true, has_ended, plain_of, stop_by, stop_of, stuck_in}
use Rattle.call_machine.specs.RunLogs.{IsRunUnder, in_version, last_of, run_log}
use Rattle.call_machine.specs.Setup.{Inputs, first_state, setup_of}
use Rattle.call_machine.specs.Upgraded.{upgraded, with_clocks}
use Rattle.call_machine.specs.declared.plain.Plain.{Plain}
use Rattle.input_log.specs.Faults.{is_other_version}
use Rattle.input_log.specs.Format.{text_of}
use Rattle.input_log.specs.Fronts.{IsFront}
use Rattle.input_log.specs.Grammar.{IsLog, Spells}
use Rattle.input_log.specs.Outcomes as logged
use Rattle.input_log.specs.declared.log.Header.{Header}
use Rattle.input_log.specs.declared.log.LogText.{LogText}
use Rattle.input_log.specs.declared.log.Record.{Record}
use Rattle.lock_machine.specs.Conditions.{setup_under}
use Rattle.lock_model.specs.Laws.{AreDated}
use Rattle.lock_model.specs.Machine.{Event, Setup, happens}
use Rattle.lock_model.specs.Rows.{shown}
use Rattle.lock_model.specs.Runs.{Arises, Follows, run}
use Rattle.lock_model.specs.Runs.{own as own_of}
use Rattle.lock_model.specs.Schedule.{EndsIn, plain_run}
use Rattle.lock_model.specs.State as lock
use Rattle.lock_model.specs.State.{State, live_clocks, thread_of}
use Rattle.lock_model.specs.State.Phase.{Outside}
use Rattle.lock_model.specs.Transcripts as of_rows
use Rattle.machine.specs.History.{clocks_in, outcomes_in}
use Rattle.machine.specs.Kept.{header_of}
use Rattle.machine.specs.Records.{as_logged}
use Rattle.machine.specs.Runs.{terms_with}
use Rattle.machine.specs.Starting.{header_for}
use Rattle.machine.specs.declared.stop.Stop.{Stop}
use Rattle.machine.specs.declared.stop.Stop.TheVariants as stop
use Rattle.logical_clocks.specs.TurnOrder.{turn_holder}
use Rattle.posix_terms.specs.declared.limits.TheConstants.Limits as limit
use Rattle.posix_terms.specs.declared.outcome.Given.{Given}
use Rattle.posix_terms.specs.declared.transcript.HistoryRow.{HistoryRow}
use Rattle.posix_terms.specs.declared.transcript.Row.{Row}
use Rattle.sequential_object.specs.Numbers.{first_world}
use Rattle.recorder.specs.Recorded.{Fits}
use Rattle.thread_scripts.specs.declared.actor.ScriptState.{ScriptState}
use Rattle.thread_scripts.specs.declared.line.Line.{Line}
use Rattle.replayer.specs.Known.{KnownOfThreads}
use Rattle.replayer.specs.Outcomes.{first_unused}
use Rattle.replayer.specs.Replay.{IsNoReplay, Tells, ended, inputs_of}
use Rattle.replayer.specs.Upgrade.{IsNoRun, IsNoUpgrade, IsRefused, refusal, refusal_of}
use Rattle.replayer.specs.UpgradeLaws.{IsUpgradedTo, PlainRunsAreUpgraded, RefusedAlike, RecordedRunsAreUpgraded}
use Rattle.replayer.specs.UpgradeLaws.{RunsAreUpgraded}
use Rattle.replayer.specs.declared.fault.ReplayFault.{ReplayFault}
use Rattle.replayer.specs.declared.fault.ReplayFault.TheVariants as replay_fault
use Rattle.replayer.specs.declared.replayed.Replayed.{Replayed}
use Rattle.replayer.proofs.OneFront.{log_faultless, no_other, one_front}
use Rattle.replayer.proofs.Following.{supply_of}
use Rattle.replayer.proofs.Recorded.{as_many, unless_strayed}
use Rattle.replayer.proofs.Diverged.{plain_end}
use Rattle.replayer.proofs.Fronts.{front_is_log}
use Rattle.replayer.proofs.Retelling.{IsRetraced, all_used, plain_is, retraced, rows_came, same_came, straight}
use Rattle.replayer.proofs.Redated.{covered_by}
use Rattle.replayer.proofs.VersionTwo.{version_is}
use Rattle.replayer.proofs.Supplied.{HasCame, back_by_own, kept_came, own_back, own_supplies, supplied_by_own, took_log}

-- ## The plain run by a log that a run wrote

-- the rows have the same clocks, by thread, where the same came
rows_clocks : KnownOfThreads → (i : ℕ) (s : State) → AreDated s.rows
    → (thread_of s i).came ≡ of_rows.outcomes_of i s.rows
    → map (λ (g : Given). g.clock) (thread_of s i).came ≡ clocks_in 2 i (map shown s.rows)
rows_clocks known i s dated rows = ap (map (λ (g : Given). g.clock)) rows ∙ known.records.clocks 2 i s.rows dated

-- nothing refuses a run that used each record and did not diverge
unrefused : (last : State) (o : Option ℕ) (seen : List (List Row)) → refusal (stop_by last o) None seen ≡ None
unrefused last None seen = refl
unrefused last (Some i) seen = by_phase (thread_of last i).phase
  where
    by_phase : (p : lock.Phase) → refusal (Some (stuck_in p i)) None seen ≡ None
    by_phase (Outside job) = refl
    by_phase p = refl

-- of the plain run by the log: nothing refuses it, and its rows have the clocks of the run's own
record IsUpgradable (log : LogText) (rows : List HistoryRow) (plain : Plain) : Type 0 where
  pub clear : refusal_of log plain ≡ None
  pub same : upgraded plain.history.rows log ≡ upgraded rows log

upgradable : KnownOfThreads → (log : LogText) (scripts : List (List Line)) (s : State) (plain : Plain)
    → IsRetraced (inputs_of log scripts) s → AreDated s.rows
    → ((i : ℕ) → length (thread_of s i).came ≡ length (logged.outcomes_of i log.records))
    → IsPlainRun (inputs_of log scripts) plain → IsUpgradable log (map shown s.rows) plain
upgradable known log scripts s plain retraced dated as_many run =
    let input = inputs_of log scripts in
    let setup = setup_of input in
    let last = run.last in
    let none : diverging setup last ≡ None =
    subst (λ (z : State). diverging setup z ≡ None) run.goes.reached (straight known input s retraced run.count) in
    let ends : EndsIn setup (first_state input) last =
    record { count = run.count; reached = run.goes.reached; over = run.ends none } in
    let rows : plain.history.rows ≡ map shown last.rows = ap (λ (p : Plain). p.history.rows) run.shows in
    let stop : plain.stop ≡ stop_by last (turn_holder (live_clocks last)) = ap (λ (p : Plain). p.stop) run.shows
    ∙ ap (stop_of last) none in
    let used : first_unused log.header.threads log.records plain.history.rows ≡ None =
    ap (first_unused log.header.threads log.records) rows
    ∙ all_used known log.records input s last retraced ends as_many log.header.threads in
    let dated_last : AreDated last.rows =
    subst (λ (z : State). AreDated z.rows) run.goes.reached
    (known.dated setup (length scripts) limit.OBJECTS first_world (plain_run setup run.count (first_state input))
    (known.plain.arises setup (length scripts) limit.OBJECTS first_world run.count)) in
    let clocks : (i : ℕ) → clocks_in 2 i plain.history.rows ≡ clocks_in 2 i (map shown s.rows) =
    λ i. ap (clocks_in 2 i) rows
    ∙ sym (rows_clocks known i last dated_last (rows_came known input last ends i))
    ∙ ap (map (λ (g : Given). g.clock)) (same_came known input s last retraced ends i)
    ∙ rows_clocks known i s dated (retraced.rows i) in
    record {
      clear = ap₂ (λ o u. refusal o u plain.transcripts) stop used
          ∙ unrefused last (turn_holder (live_clocks last)) plain.transcripts;
      same = λ j. with_clocks (λ i. clocks i j) log;
    }

-- ## The upgrade of a text with this log at its front

pub upgraded_to : KnownOfThreads → (text : List ℕ) (log : LogText) (scripts : List (List Line)) (s : State)
    → log.header.version ≡ 1 → IsFront text log → log.header.threads ≡ length scripts
    → IsRetraced (inputs_of log scripts) s → AreDated s.rows
    → ((i : ℕ) → length (thread_of s i).came ≡ length (logged.outcomes_of i log.records))
    → IsUpgradedTo text scripts (text_of (upgraded (map shown s.rows) log))
upgraded_to known text log scripts s version front threads retraced dated as_many =
    record {
      is =
          let found = plain_end known (inputs_of log scripts) in
          let plain = plain_of (inputs_of log scripts) found.1.count found.0 in
          let run : IsPlainRun (inputs_of log scripts) plain =
          plain_is log scripts (front_is_log text log front) threads found.0 found.1
          (straight known (inputs_of log scripts) s retraced) in
          let able = upgradable known log scripts s plain retraced dated as_many run in (
            log,
            plain,
            record { version = version; by = record { front = front; threads = threads; run = run } },
            able.clear,
            ap text_of (sym able.same),
          );
      only = λ bytes (found, plain, old, clear, is).
          let by = old.by in
          let here : found ≡ log = one_front known.plain text found log by.front front in
          is ∙ ap (λ (l : LogText). text_of (upgraded plain.history.rows l)) here
          ∙ ap text_of
          (let able = upgradable known log scripts s plain retraced dated as_many
          (subst (λ (l : LogText). IsPlainRun (inputs_of l scripts) plain) here by.run) in able.same);
      refused = no_fault;
    }
  where
    first : is_other_version 1 text ≡ false
    first = known.plain.version text log 1 front ∙ ap (λ (v : ℕ). not (v == 1)) version

    no_run : (fault : ReplayFault) → IsNoRun (is_other_version 1 text) text (length scripts) fault
        → IsNoReplay text (length scripts) fault
    no_run fault h = subst (λ b. IsNoRun b text (length scripts) fault) first h

    unrefused_so : (fault : ReplayFault) → IsRefused text scripts fault → ⊥
    unrefused_so fault (found, plain, old, refused) =
        let by = old.by in
        let here : found ≡ log = one_front known.plain text found log by.front front in
        let able = upgradable known log scripts s plain retraced dated as_many
        (subst (λ (l : LogText). IsPlainRun (inputs_of l scripts) plain) here by.run) in
        none-some fault (sym able.clear ∙ (ap (λ (l : LogText). refusal_of l plain) (sym here) ∙ refused))

    no_fault : (fault : ReplayFault) → IsNoUpgrade text scripts fault → fault ≡ replay_fault.Memory
    no_fault fault (inr h) = absurd (unrefused_so fault h)
    no_fault fault (inl h) = by_fault fault (no_run fault h)
      where
        by_fault : (fault : ReplayFault) → IsNoReplay text (length scripts) fault → fault ≡ replay_fault.Memory
        by_fault replay_fault.Memory h = refl
        by_fault (replay_fault.Log fault) h = absurd (log_faultless known.plain text scripts log fault front h)
        by_fault replay_fault.Threads h = absurd (no_other known.plain text scripts log front threads h)
        by_fault (replay_fault.EndOfLog i t) h = absurd h
        by_fault (replay_fault.Diverged i n t) h = absurd h
        by_fault (replay_fault.ClockFull t) h = absurd h

-- ## Any run of scripts

run_count : KnownOfThreads → (setup : Setup) (events : List Event) (s : State)
    → length (run setup events s).threads ≡ length s.threads
run_count known setup [] s = refl
run_count known setup (e ∷ events) s = run_count known setup events (happens setup e s) ∙ known.events.count setup s e

-- what the log of its version 1 supplies leads to the run again
run_retraced : KnownOfThreads → (input : Inputs) (events : List Event) (closed : Bool) → IsRunUnder input events
    → let log = run_log (in_version 1 input) events closed in
    HasCame 1 (length input.scripts) log.records (last_of input events)
    × IsRetraced (inputs_of log input.scripts) (last_of input events)
run_retraced known input events closed allowed =
    let setup = setup_of input in
    let first = first_state input in
    let n = length input.scripts in
    let s = last_of input events in
    let log = run_log (in_version 1 input) events closed in
    let arises : Arises setup first s = known.arises setup n limit.OBJECTS first_world events in
    let has : HasCame 1 n log.records s = record {
      count = run_count known setup events first ∙ length-replicate n _;
      came = λ i. sym (known.run_came (in_version 1 input) events closed i allowed);
    } in
    let follows : Follows (supply_of (inputs_of log input.scripts)) s = record {
      steps = (known.plain.follows setup n limit.OBJECTS first_world events).steps;
      outcomes = λ i k o at. own_supplies known.records 1 n log.records s has i k o at;
    } in (
      has,
      record {
        begins = λ last ends. known.followed setup n limit.OBJECTS first_world s last
            (supply_of (inputs_of log input.scripts)) arises follows ends;
        rows = λ i. known.plain.rows setup n limit.OBJECTS first_world s arises i;
        back = λ i k g at. own_back 1 n log.records s has i k g at;
      },
    )

came_many : (version n : ℕ) (records : List Record) (s : State) → HasCame version n records s
    → (i : ℕ) → length (thread_of s i).came ≡ length (logged.outcomes_of i records)
came_many version n records s h i = sym (length-map (thread_of s i).came (as_logged version)) ∙ ap length (h.came i)

pub any : KnownOfThreads → RunsAreUpgraded
any known input events closed text threads settings allowed front =
    let log = run_log (in_version 1 input) events closed in
    let s = last_of input events in
    let n = length input.scripts in
    let arises : Arises (setup_of input) (first_state input) s =
    known.arises (setup_of input) n limit.OBJECTS first_world events in
    let dated : AreDated s.rows = known.dated (setup_of input) n limit.OBJECTS first_world s arises in
    let (has, retraced) = run_retraced known input events closed allowed in
    subst (IsUpgradedTo text input.scripts) (ap text_of (known.versions input events closed allowed))
    (upgraded_to known text log input.scripts s refl front refl retraced dated (came_many 1 n log.records s has))

-- ## Plain runs

pub plain : KnownOfThreads → PlainRunsAreUpgraded
plain known input one two is_one is_two =
    let ended = map (λ (t : lock.Thread). has_ended t.phase) is_one.last.threads in
    let n = is_one.count in
    let (events, made) = known.made input n ended in
    let again : IsPlainRun (in_version 2 input) (plain_of (in_version 2 input) n is_one.last) = record {
      threads = is_one.threads;
      settings = is_two.settings;
      count = n;
      last = is_one.last;
      goes = is_one.goes;
      ends = is_one.ends;
      shows = refl;
    } in
    let two_log : text_of (run_log (in_version 2 input) events (all_true ended)) ≡ two.log =
    ap text_of (made.log 2) ∙ ap (λ (p : Plain). p.log)
    (known.one_plain (in_version 2 input) (plain_of (in_version 2 input) n is_one.last) two again is_two) in
    let log = run_log (in_version 1 input) events (all_true ended) in
    let one_log : one.log ≡ text_of log = ap (λ (p : Plain). p.log) is_one.shows ∙ ap text_of (sym (made.log 1)) in
    let is : IsLog log = known.run_spelled (in_version 1 input) events (all_true ended) is_one.threads is_one.settings
    made.allowed in
    let spelled : Spells one.log log = record { range = is.range; each_good = is.each_good; spelled = one_log } in
    subst (IsUpgradedTo one.log input.scripts) two_log
    (any known input events (all_true ended) one.log is_one.threads is_one.settings made.allowed (inl spelled))

-- ## Recorded runs

pub recorded : KnownOfThreads → (D : Type 0) {A : Type 0} (state : A → ScriptState) → RecordedRunsAreUpgraded D state
recorded known D state settings past own seen taken failures told actors later scripts version run not played meant =
    let m = run.machine in
    let shows = run.shows in
    let faithful = shows.faithful in
    let kept = faithful.kept in
    let s = kept.end in
    let fits : Fits (header_for settings (length actors)) m past own = unless_strayed run.stopped told not run.why in
    let threads : length m.whole.threads ≡ length scripts = ap (λ (h : Header). h.threads) fits.0
    ∙ as_many state actors scripts meant in
    let log = took_log known D m kept taken failures run.stopped shows.finishes in
    let header : log.log.header ≡ header_of m.whole = log.header ∙ kept.header in
    let supplied = supplied_by_own known.records state (is_some told) D m kept log.log past actors later scripts threads
    header log.records shows.rows shows.asked meant played in
    let back = back_by_own D m kept log.log scripts threads log.records in
    let dated : AreDated s.rows = known.dated (setup_under (terms_with m.whole (own_of s))) (length m.whole.threads)
    limit.OBJECTS first_world s kept.ends.0 in
    let has = kept_came D m kept (length scripts) log.log.records threads log.records in
    let again : IsRetraced (inputs_of log.log scripts) s =
    retraced known D m kept (inputs_of log.log scripts) supplied back in
    let count : log.log.header.threads ≡ length scripts = ap (λ (h : Header). h.threads) header ∙ threads in
    let rows : map shown s.rows ≡ past.rows = kept.ends.1.rows ∙ sym shows.rows in
    record {
      log = log.log;
      front = log.front;
      to =
          subst (λ rs. IsUpgradedTo taken scripts (text_of (upgraded rs log.log))) rows
          (upgraded_to known taken log.log scripts s (ap (λ (h : Header). h.version) (header ∙ fits.0) ∙ version)
          log.front count again dated
          (came_many m.whole.settings.version (length scripts) log.log.records s has));
      covers =
          covered_by known log.log scripts s m.whole.settings.version past.rows
          (front_is_log taken log.log log.front) count again has
          (λ i.
          sym (map-map (λ (g : Given). g.outcome) (as_logged m.whole.settings.version) (thread_of s i).came)
          ∙ ap (map (λ (g : Given). g.outcome)) (kept.came i)
          ∙ faithful.covered.outcomes i
          ∙ ap (outcomes_in i) (sym shows.rows))
          (λ i. rows_clocks known i s dated (again.rows i) ∙ ap (clocks_in 2 i) rows);
    }

-- ## What a replay refuses

abbrev fault_in : Result Replayed ReplayFault → ReplayFault
fault_in (Err fault) = fault
fault_in (Ok replayed) = replay_fault.Memory

pub refused_alike : KnownOfThreads → RefusedAlike
refused_alike known text scripts (replay_fault.Log fault) first is h =
    inl (subst (λ b. IsNoRun b text (length scripts) (replay_fault.Log fault)) (sym first) h)
refused_alike known text scripts replay_fault.Threads first is h =
    inl (subst (λ b. IsNoRun b text (length scripts) replay_fault.Threads) (sym first) h)
refused_alike known text scripts replay_fault.Memory first is h = absurd is
refused_alike known text scripts (replay_fault.EndOfLog i seen) first is h = absurd is
refused_alike known text scripts (replay_fault.ClockFull seen) first is h = absurd is
refused_alike known text scripts (replay_fault.Diverged i n seen) first is (log, played, by, tells) =
    inr (
      log,
      played,
      record { version = version_is known.plain.version text log by.front first; by = by },
      by_stop
          played.stop tells,
    )
  where
    by_stop : (o : Option Stop) → Tells log played o (Err (replay_fault.Diverged i n seen))
        → refusal o (first_unused log.header.threads log.records played.history.rows) played.transcripts
        ≡ Some (replay_fault.Diverged i n seen)
    by_stop None tells = by_unused (first_unused log.header.threads log.records played.history.rows) tells
      where
        by_unused : (u : Option (ℕ × ℕ)) → Err (replay_fault.Diverged i n seen) ≡ ended played u
            → refusal None u played.transcripts ≡ Some (replay_fault.Diverged i n seen)
        by_unused None e = cc
        by_unused (Some (j, m)) e = ap Some (sym (ap fault_in e))
    by_stop (Some (stop.Diverged j m)) tells = ap Some (sym (ap fault_in tells))
    by_stop (Some (stop.EndOfLog j)) tells = cc
    by_stop (Some stop.ClockFull) tells = cc
    by_stop (Some stop.Memory) tells = absurd tells
    by_stop (Some stop.Sink) tells = absurd tells
    by_stop (Some stop.Strayed) tells = absurd tells

-- The replay of what a recorded run wrote, and of what a run in threads was made by.
use Rattle.std.proofs.Common.{◌≡◌, ◌≢◌, ◌⊎◌, ℕ, List, length, map, Option, Some, None, is_some, refl, sym, ap, ◌∙◌}
use Rattle.std.proofs.Common.{subst, inl, inr}
use Rattle.std.proofs.lemmas.List.{length-map}
use Rattle.std.proofs.lemmas.Option.{none-some}
use Rattle.call_machine.specs.History.{transcripts_of}
use Rattle.host_doors.specs.declared.script.ScriptDoor.{ScriptDoor}
use Rattle.input_log.specs.declared.log.Header.{Header}
use Rattle.lock_model.specs.Schedule.{EndsIn}
use Rattle.lock_model.specs.State.{State}
use Rattle.call_machine.specs.Setup.{first_state, setup_of}
use Rattle.machine.specs.Kept.{header_of}
use Rattle.machine.specs.Starting.{header_for}
use Rattle.machine.specs.declared.stop.Stop.{Stop}
use Rattle.machine.specs.declared.stop.Stop.TheVariants as stop
use Rattle.recorder.specs.Each.{AreLedFrom}
use Rattle.recorder.specs.Recorded.{AreBeginnings, Fits, HasNoLog, IsRun, IsWhy, its_own, no_memory, strayed}
use Rattle.thread_scripts.specs.Meaning.{start_of}
use Rattle.thread_scripts.specs.declared.actor.ScriptState.{ScriptState}
use Rattle.thread_scripts.specs.declared.line.Line.{Line}
use Rattle.replayer.specs.Outcomes.{first_unused, settings_of}
use Rattle.replayer.specs.Replay.{inputs_of}
use Rattle.replayer.specs.Threads.{AgreesWithReplay, IsRetold, IsRunBy, RecordedRunsAreReplayed, RunsAgreeWithReplays}
use Rattle.replayer.specs.Threads.{cause_told, doors_by, gives_logged, seen_in, stop_told}
use Rattle.replayer.proofs.Diverged.{plain_end}
use Rattle.replayer.proofs.Fronts.{front_is_log}
use Rattle.replayer.specs.Known.{KnownOfThreads}
use Rattle.replayer.proofs.Retelling.{begun_by, nothing_begins, retold_by, seen_begins, whole_by}
use Rattle.replayer.proofs.Supplied.{back_by_own, supplied_by_log, supplied_by_own, took_log}

-- unless the threads strayed, the notes fit the machine
pub unless_strayed : {P Q : Type 0} (stopped told : Option Stop) → told ≢ Some stop.Strayed → IsWhy P Q stopped told → P
unless_strayed stopped told not (its_own fits whole same) = fits
unless_strayed stopped told not (no_memory fits lacks some same) = fits
unless_strayed stopped told not (strayed misfit same) = absurd (not same)

not_so : {P Q : Type 0} → (P → ⊥) → ◌⊎◌ P Q → Q
not_so not (inl p) = absurd (not p)
not_so not (inr q) = q

-- there are as many scripts as actors
pub as_many : {A : Type 0} (state : A → ScriptState) (actors : List A) (scripts : List (List Line))
    → map start_of scripts ≡ map state actors → length actors ≡ length scripts
as_many state actors scripts meant = sym (length-map actors state)
    ∙ (sym (ap length meant) ∙ length-map scripts start_of)

-- ## The law of recorded runs

pub retold : KnownOfThreads → (D : Type 0) {A : Type 0} (state : A → ScriptState) → RecordedRunsAreReplayed D state
retold known D state settings past own seen taken failures told actors later scripts result run not played meant
    replays =
    let m = run.machine in
    let shows = run.shows in
    let faithful = shows.faithful in
    let kept = faithful.kept in
    let fits : Fits (header_for settings (length actors)) m past own = unless_strayed run.stopped told not run.why in
    let count : length actors ≡ length scripts = as_many state actors scripts meant in
    let threads : length m.whole.threads ≡ length scripts = ap (λ (h : Header). h.threads) fits.0 ∙ count in
    let log = took_log known D m kept taken failures run.stopped shows.finishes in
    let header : log.log.header ≡ header_of m.whole = log.header ∙ kept.header in
    let supplied = supplied_by_own known.records state (is_some told) D m kept log.log past actors later scripts threads
    header log.records shows.rows shows.asked meant played in
    let back = back_by_own D m kept log.log scripts threads log.records in
    subst (λ n. IsRetold (transcripts_of n past.rows) past told result) (sym count)
    (retold_by known D m kept log.log scripts past told taken result log.front (ap (λ (h : Header). h.threads) header
    ∙ threads) log.records supplied back shows.rows shows.asked (λ e. let over = run.over e in over.ended) replays)

-- ## The law of runs by a log

told_none : (o : Option Stop) (u : Option (ℕ × ℕ)) → stop_told o u ≡ None → (o ≡ None) × (u ≡ None)
told_none None None e = (refl, refl)
told_none None (Some (thread, number)) e = absurd (none-some _ (sym e))
told_none (Some cause) u e = absurd (none-some (cause_told cause) (sym e))

strayed_told : (o : Option Stop) (u : Option (ℕ × ℕ)) → o ≡ Some stop.Strayed → stop_told o u ≡ Some stop.Strayed
strayed_told o u e = ap (λ p. stop_told p u) e

pub agree : KnownOfThreads → {A : Type 0} (state : A → ScriptState) → RunsAgreeWithReplays state
agree known {A} state text log actors e taken failures told scripts front threads by not meant =
    by_run by.run by.told_is
  where
    count : length actors ≡ length scripts
    count = as_many state actors scripts meant

    threads_here : log.header.threads ≡ length scripts
    threads_here = threads ∙ count

    by_machine : (stopped : Option Stop) → stopped ≢ Some stop.Strayed
        → told ≡ stop_told stopped (first_unused log.header.threads log.records e.history.rows)
        → IsRunBy state log actors e taken failures stopped
        → IsRun ScriptDoor (header_for (settings_of log.header) (length actors)) e.history e.own e.transcripts taken
        failures stopped → AgreesWithReplay text log scripts e.history told
    by_machine stopped unstrayed told_is h run =
        let m = run.machine in
        let shows = run.shows in
        let faithful = shows.faithful in
        let kept = faithful.kept in
        let fits : Fits (header_for (settings_of log.header) (length actors)) m e.history e.own =
        unless_strayed run.stopped stopped unstrayed run.why in
        let here : length m.whole.threads ≡ length scripts = ap (λ (x : Header). x.threads) fits.0 ∙ count in
        let led = subst (λ n. AreLedFrom gives_logged 0 e.history.rows e.history.asked (doors_by n log.records) e.doors)
        count (not_so unstrayed h.calls) in
        let supplied = supplied_by_log known state (is_some stopped) ScriptDoor m kept faithful.covered log e.history
        actors e.actors e.doors scripts here (sym (ap settings_of fits.0)) shows.rows shows.asked meant
        (not_so unstrayed h.steps) led in
        let found = plain_end known (inputs_of log scripts) in
        let begins : (last : State) → EndsIn (setup_of (inputs_of log scripts)) (first_state (inputs_of log scripts))
        last → AreBeginnings (transcripts_of (length scripts) e.history.rows) (seen_in last) =
        λ last ends. subst (λ rs. AreBeginnings (transcripts_of (length scripts) rs) (seen_in last)) (sym shows.rows)
        (seen_begins known ScriptDoor m kept (inputs_of log scripts) last supplied ends) in
        record {
          last = found.0;
          ends = found.1;
          begins = begins found.0 found.1;
          replay = λ result replays. begun_by known log scripts (transcripts_of (length scripts) e.history.rows) text
              result front threads_here begins replays;
          whole = λ none.
              let both = told_none stopped (first_unused log.header.threads log.records e.history.rows)
              (sym told_is ∙ none) in
              whole_by known ScriptDoor m kept log scripts e.history text front threads_here
              (front_is_log text log front) supplied shows.rows shows.asked (let over = run.over both.0 in
              over.ended) both.1;
        }

    by_none : (stopped : Option Stop)
        → told ≡ stop_told stopped (first_unused log.header.threads log.records e.history.rows)
        → HasNoLog (header_for (settings_of log.header) (length actors)) e.history taken failures stopped
        → AgreesWithReplay text log scripts e.history told
    by_none stopped told_is h =
        let found = plain_end known (inputs_of log scripts) in
        let begins : (last : State) → EndsIn (setup_of (inputs_of log scripts)) (first_state (inputs_of log scripts))
        last → AreBeginnings (transcripts_of (length scripts) e.history.rows) (seen_in last) =
        λ last ends. subst (λ rs. AreBeginnings (transcripts_of (length scripts) rs) (seen_in last)) (sym h.rows)
        (nothing_begins known (inputs_of log scripts) last ends) in
        record {
          last = found.0;
          ends = found.1;
          begins = begins found.0 found.1;
          replay = λ result replays. begun_by known log scripts (transcripts_of (length scripts) e.history.rows) text
              result front threads_here begins replays;
          whole = λ none. absurd (none-some stop.Sink
              (sym (told_none stopped (first_unused log.header.threads log.records e.history.rows)
              (sym told_is ∙ none)).0 ∙ h.stopped));
        }

    by_run : IsRunBy state log actors e taken failures by.stopped
        → told ≡ stop_told by.stopped (first_unused log.header.threads log.records e.history.rows)
        → AgreesWithReplay text log scripts e.history told
    by_run h told_is = by_log h.run
      where
        by_log : ◌⊎◌ (IsRun ScriptDoor (header_for (settings_of log.header) (length actors)) e.history e.own
            e.transcripts taken failures by.stopped)
            (HasNoLog (header_for (settings_of log.header) (length actors)) e.history taken failures by.stopped)
            → AgreesWithReplay text log scripts e.history told
        by_log (inl run) = by_machine by.stopped
            (λ strayed. not (told_is ∙ strayed_told by.stopped
            (first_unused log.header.threads log.records e.history.rows) strayed)) told_is h run
        by_log (inr none) = by_none by.stopped told_is none

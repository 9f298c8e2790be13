-- The replay of the log that a plain run wrote.
use Rattle.machine.specs.Records.{as_logged}
use Rattle.std.proofs.Common.{◌≡◌, ℕ, ◌+◌, ◌<◌, ◌≤◌, Bool, true, List, [], length, map, get_or, Option, Some, None}
use Rattle.std.proofs.Common.{Result, refl, sym, ap, ◌∙◌, subst, ⊎_elim, inl, arith}
use Rattle.std.proofs.lemmas.Bool.{cases_lt}
use Rattle.std.proofs.lemmas.List.{get_or_past, length-map}
use Rattle.call_machine.specs.History.{transcripts_of}
use Rattle.call_machine.specs.Plain.{are_threads, has_ended, log_of, plain_of, stop_by, stop_of, stuck_in}
use Rattle.machine.specs.Starting.{are_settings}
use Rattle.call_machine.specs.Logs.{plain_records}
use Rattle.call_machine.specs.Setup.{Inputs, first_state, script_of, setup_of}
use Rattle.call_machine.specs.Diverging.{diverging}
use Rattle.machine.specs.declared.stop.Stop.TheVariants as stop
use Rattle.call_machine.specs.declared.plain.Plain.{Plain}
use Rattle.input_log.specs.Format.{text_of}
use Rattle.input_log.specs.Grammar.{IsLog, Spells}
use Rattle.input_log.specs.declared.log.LogText.{LogText}
use Rattle.lock_model.specs.History.{IsPrefixOf}
use Rattle.lock_model.specs.Laws.{Begins}
use Rattle.lock_model.specs.Machine.{Setup}
use Rattle.sequential_object.specs.Numbers.{first_world}
use Rattle.lock_model.specs.RealLaws.{real_setup}
use Rattle.lock_model.specs.Rows.{shown}
use Rattle.lock_model.specs.Schedule.{EndsIn, IsOver, plain_run}
use Rattle.thread_scripts.specs.ScriptPrograms.{scripted}
use Rattle.lock_model.specs.State as lock
use Rattle.lock_model.specs.State.{Phase, State, live_clocks, thread_of}
use Rattle.lock_model.specs.State.Phase.{Outside}
use Rattle.lock_model.specs.Transcripts.{transcript}
use Rattle.logical_clocks.specs.TurnOrder.{turn_holder}
use Rattle.posix_terms.specs.declared.limits.TheConstants.Limits as limit
use Rattle.lock_model.specs.Came.{under_came}
use Rattle.replayer.specs.Outcomes.{first_unused, outcomes_by}
use Rattle.recorder.specs.Recorded.{AreBeginnings}
use Rattle.replayer.specs.OwnLog.{OwnLogLaw, Retells}
use Rattle.replayer.specs.Replay.{Replays, Tells, ended, inputs_of}
use Rattle.replayer.specs.declared.fault.ReplayFault.{ReplayFault}
use Rattle.replayer.specs.declared.replayed.Replayed.{Replayed}
use Rattle.replayer.proofs.ByThread.{came_counted, none_unused, number_counted, outcomes_at, outcomes_length}
use Rattle.replayer.proofs.ByThread.{same_transcript, transcripts_at, transcripts_length}
use Rattle.replayer.specs.Known.{Known}
use Rattle.replayer.proofs.OneFront.{IsToldBy, told_or_memory}
use Rattle.replayer.proofs.CameAgain.{came_past, came_rows, outside_turn, over_at, plain_count, stays_outside}
use Rattle.replayer.proofs.CameAgain.{diverged_outside}

-- ## The run by the log

-- the outcomes that the log has for each thread are those that came
outcomes_came : Known → (input : Inputs) (n i : ℕ)
    → get_or (outcomes_by (length input.scripts)
    (plain_records input.settings.version (setup_of input) n (first_state input))) i []
    ≡ map (as_logged input.settings.version) (thread_of (plain_run (setup_of input) n (first_state input)) i).came
outcomes_came known input n i =
    let records = plain_records input.settings.version (setup_of input) n (first_state input) in
    let last = plain_run (setup_of input) n (first_state input) in
    let count : length last.threads ≡ length input.scripts = plain_count known (setup_of input) (length input.scripts)
    limit.OBJECTS first_world n in
    ⊎_elim
    (λ (l : i < length input.scripts). outcomes_at (length input.scripts) i records l ∙ known.came input n i)
    (λ (l : length input.scripts ≤ i).
    get_or_past (outcomes_by (length input.scripts) records) i []
    (omega (arith, outcomes_length (length input.scripts) records))
    ∙ ap (map (as_logged input.settings.version)) (sym (came_past last i (omega (arith, count)))))
    (cases_lt i (length input.scripts))

-- so it is the run under those
same_setup : Known → (input : Inputs) (n : ℕ) (ends : List Bool)
    → setup_of (inputs_of (log_of input n ends) input.scripts)
    ≡ under_came (as_logged input.settings.version) (setup_of input) (plain_run (setup_of input) n (first_state input))
same_setup known input n ends k =
    real_setup input.settings (record {
      next = λ i. scripted (script_of input i);
      outcomes = λ i. outcomes_came known input n i k;
    })

-- ## What is told

retold : (input : Inputs) (log : LogText) (n m : ℕ) (last : State) (result : Result Replayed ReplayFault) (o : Option ℕ)
    → first_unused log.header.threads log.records (map shown last.rows) ≡ None
    → Tells log (plain_of (inputs_of log input.scripts) m last) (stop_by last o) result
    → Retells (plain_of input n last) (stop_by last o) result
retold input log n m last result None used is =
    subst (Retells (plain_of input n last) None)
    (sym (is ∙ ap (ended (plain_of (inputs_of log input.scripts) m last)) used)) refl
retold input log n m last result (Some i) used is = by_phase (thread_of last i).phase is
  where
    by_phase : (p : Phase) → Tells log (plain_of (inputs_of log input.scripts) m last) (Some (stuck_in p i)) result
        → Retells (plain_of input n last) (Some (stuck_in p i)) result
    by_phase (Outside job) e = subst (Retells (plain_of input n last) (Some (stop.EndOfLog i))) (sym e) refl
    by_phase p e = subst (Retells (plain_of input n last) (Some stop.ClockFull)) (sym e) refl

stuck_told : (log : LogText) (plain other : Plain) (p : Phase) (i j n : ℕ) (result : Result Replayed ReplayFault)
    → AreBeginnings plain.transcripts other.transcripts
    → Tells log other (Some (stuck_in p j)) result → Retells plain (Some (stop.Diverged i n)) result
stuck_told log plain other (Outside job) i j n result begin e = subst (Retells plain (Some (stop.Diverged i n))) (sym e)
    begin
stuck_told log plain other p i j n result begin e = subst (Retells plain (Some (stop.Diverged i n))) (sym e) begin

-- what each thread saw where the rows of one state begin those of another
pub beginnings : (n : ℕ) (s last : State) → length s.threads ≡ n → length last.threads ≡ n → Begins s last
    → AreBeginnings (transcripts_of (length s.threads) (map shown s.rows))
    (transcripts_of (length last.threads) (map shown last.rows))
beginnings n s last count more begins =
    record {
      count = transcripts_length (length s.threads) (map shown s.rows)
          ∙ (count ∙ (sym more ∙ sym (transcripts_length (length last.threads) (map shown last.rows))));
      each = λ i.
          ⊎_elim
          (λ (l : i < n).
          let left : get_or (transcripts_of (length s.threads) (map shown s.rows)) i [] ≡ transcript i s.rows =
          transcripts_at (length s.threads) i (map shown s.rows) (omega (arith, count))
          ∙ same_transcript i s.rows in
          let right : get_or (transcripts_of (length last.threads) (map shown last.rows)) i []
          ≡ transcript i last.rows = transcripts_at (length last.threads) i (map shown last.rows)
          (omega (arith, more)) ∙ same_transcript i last.rows in
          subst (λ xs. IsPrefixOf xs (get_or (transcripts_of (length last.threads) (map shown last.rows)) i []))
          (sym left) (subst (IsPrefixOf (transcript i s.rows)) (sym right) (begins.transcripts i)))
          (λ (l : n ≤ i).
          let left : get_or (transcripts_of (length s.threads) (map shown s.rows)) i []
          ≡ [] = get_or_past _ i [] (omega
          (arith, count, transcripts_length (length s.threads) (map shown s.rows))) in
          subst (λ xs. IsPrefixOf xs (get_or (transcripts_of (length last.threads) (map shown last.rows)) i []))
          (sym left) (_, refl))
          (cases_lt i n);
    }

-- ## Where the run did not diverge

-- each record was used
used : Known → (input : Inputs) (n threads : ℕ)
    → first_unused threads (plain_records input.settings.version (setup_of input) n (first_state input))
    (map shown (plain_run (setup_of input) n (first_state input)).rows) ≡ None
used known input n threads =
    let last = plain_run (setup_of input) n (first_state input) in
    let records = plain_records input.settings.version (setup_of input) n (first_state input) in
    none_unused threads records (map shown last.rows)
    (λ i. came_counted i last.rows
    ∙ (ap length (sym (came_rows known (setup_of input) (length input.scripts) limit.OBJECTS first_world n i))
    ∙ (sym (length-map (thread_of last i).came (as_logged input.settings.version))
    ∙ (ap length (sym (known.came input n i)) ∙ sym (number_counted i records)))))

-- ## The law

-- the run by the log, under the outcomes that came up to this state: it comes to its end and diverges nowhere
record IsRunUnder (input : Inputs) (log : LogText) (s : State) (result : Result Replayed ReplayFault) : Type 0 where
  pub count : ℕ
  pub last : State
  pub reached : plain_run (under_came (as_logged input.settings.version) (setup_of input) s) count (first_state input)
      ≡ last
  pub over : IsOver (under_came (as_logged input.settings.version) (setup_of input) s) last
  pub tells : Tells log (plain_of (inputs_of log input.scripts) count last)
      (stop_by last (turn_holder (live_clocks last))) result

run_under : Known → (input : Inputs) (n : ℕ) (ends : List Bool) (result : Result Replayed ReplayFault)
    → IsToldBy (log_of input n ends) input.scripts result
    → IsRunUnder input (log_of input n ends) (plain_run (setup_of input) n (first_state input)) result
run_under known input n ends result h =
    let run = h.run in
    let log = log_of input n ends in
    let own = inputs_of log input.scripts in
    let first = first_state input in
    let under = under_came (as_logged input.settings.version) (setup_of input) (plain_run (setup_of input) n first) in
    let same : setup_of own ≡ under = same_setup known input n ends in
    let reached : plain_run under run.count first ≡ run.last =
    ap (λ (z : Setup). plain_run z run.count first) (sym same) ∙ run.goes.reached in
    let straight : diverging under run.last ≡ None = subst (λ (z : State). diverging under z ≡ None) reached
    (known.straight input n run.count) in
    let none : diverging (setup_of own) run.last ≡ None = ap (λ (z : Setup). diverging z run.last) same ∙ straight in
    let tells : Tells log (plain_of own run.count run.last) (stop_of run.last (diverging (setup_of own) run.last))
    result = subst (λ (p : Plain). Tells log p p.stop result) run.shows h.tells in
    record {
      count = run.count;
      last = run.last;
      reached = reached;
      over = subst (λ (z : Setup). IsOver z run.last) same (run.ends none);
      tells = subst (λ (o : Option ℕ). Tells log (plain_of own run.count run.last) (stop_of run.last o) result) none
          tells;
    }

-- where the run did not diverge, the other comes to the same state
without_divergence : Known → (input : Inputs) (n : ℕ) (ends : List Bool) (result : Result Replayed ReplayFault)
    → IsOver (setup_of input) (plain_run (setup_of input) n (first_state input))
    → IsRunUnder input (log_of input n ends) (plain_run (setup_of input) n (first_state input)) result
    → let last = plain_run (setup_of input) n (first_state input) in
    Retells (plain_of input n last) (stop_of last None) result
without_divergence known input n ends result over h =
    let log = log_of input n ends in
    let first = first_state input in
    let last = plain_run (setup_of input) n first in
    let under = under_came (as_logged input.settings.version) (setup_of input) last in
    let here : EndsIn under first last =
    record {
      count = n;
      reached = known.same (as_logged input.settings.version) (setup_of input)
          (length input.scripts) limit.OBJECTS first_world n n (known.keeps input.settings.version) (omega arith);
      over = known.over (as_logged input.settings.version) (setup_of input) last over;
    } in
    let there : EndsIn under first h.last = record { count = h.count; reached = h.reached; over = h.over } in
    let one : h.last ≡ last = known.ends under first h.last last there here in
    let tells : Tells log (plain_of (inputs_of log input.scripts) h.count last)
    (stop_by last (turn_holder (live_clocks last))) result =
    subst (λ (z : State). Tells log (plain_of (inputs_of log input.scripts) h.count z)
    (stop_by z (turn_holder (live_clocks z))) result) one h.tells in
    retold input log n h.count last result (turn_holder (live_clocks last)) (used known input n (length input.scripts))
    tells

-- where it diverged, the other goes on, and the thread that diverged stays outside
with_divergence : Known → (input : Inputs) (n : ℕ) (ends : List Bool) (result : Result Replayed ReplayFault) (i : ℕ)
    → diverging (setup_of input) (plain_run (setup_of input) n (first_state input)) ≡ Some i
    → IsRunUnder input (log_of input n ends) (plain_run (setup_of input) n (first_state input)) result
    → let last = plain_run (setup_of input) n (first_state input) in
    Retells (plain_of input n last) (stop_of last (Some i)) result
with_divergence known input n ends result i diverges h =
    let log = log_of input n ends in
    let threads = length input.scripts in
    let first = first_state input in
    let setup = setup_of input in
    let last = plain_run setup n first in
    let under = under_came (as_logged input.settings.version) setup last in
    let other = plain_of (inputs_of log input.scripts) h.count h.last in
    let divergence = diverged_outside setup last i diverges in
    let far : plain_run under (n + h.count) first ≡ h.last =
    over_at under first h.count n (subst (IsOver under) (sym h.reached) h.over) ∙ h.reached in
    let out : (thread_of h.last i).phase ≡ Outside divergence.0 = ap (λ (z : State). (thread_of z i).phase) (sym far)
    ∙ stays_outside known input.settings.version setup threads limit.OBJECTS first_world n h.count i
    divergence.0 divergence.1 in
    let turn = outside_turn known h.last i divergence.0 out in
    let tells : Tells log other (stop_by h.last (Some turn.0)) result =
    subst (λ (o : Option ℕ). Tells log other (stop_by h.last o) result) turn.1 h.tells in
    let to = known.leads setup first n in
    let there : EndsIn under first h.last = record { count = h.count; reached = h.reached; over = h.over } in
    let begins : Begins last h.last =
    subst (λ (z : State). EndsIn (under_came (as_logged input.settings.version) setup z) first h.last → Begins z h.last)
    to.ends (known.prefix (as_logged input.settings.version) setup threads limit.OBJECTS first_world to.events
    h.last (known.keeps input.settings.version)) there in
    let more : length h.last.threads ≡ threads = ap (λ (z : State). length z.threads) (sym h.reached)
    ∙ plain_count known under threads limit.OBJECTS first_world h.count in
    stuck_told log (plain_of input n last) other (thread_of h.last turn.0).phase i turn.0
    (length (thread_of last i).came) result
    (beginnings threads last h.last (plain_count known setup threads limit.OBJECTS first_world n) more begins) tells

own_log_of : Known → (input : Inputs) (n : ℕ) (ends : List Bool) (result : Result Replayed ReplayFault) (o : Option ℕ)
    → diverging (setup_of input) (plain_run (setup_of input) n (first_state input)) ≡ o
    → (diverging (setup_of input) (plain_run (setup_of input) n (first_state input)) ≡ None
    → IsOver (setup_of input) (plain_run (setup_of input) n (first_state input)))
    → IsRunUnder input (log_of input n ends) (plain_run (setup_of input) n (first_state input)) result
    → let last = plain_run (setup_of input) n (first_state input) in
    Retells (plain_of input n last) (stop_of last o) result
own_log_of known input n ends result None is over h = without_divergence known input n ends result (over is) h
own_log_of known input n ends result (Some i) is over h = with_divergence known input n ends result i is h

-- of the run that came to just this state
own_log_at : Known → (input : Inputs) (n : ℕ) (result : Result Replayed ReplayFault)
    → are_threads input ≡ true → are_settings input.settings ≡ true
    → (last : State) → plain_run (setup_of input) n (first_state input) ≡ last
    → (diverging (setup_of input) last ≡ None → IsOver (setup_of input) last)
    → Replays (plain_of input n last).log input.scripts result
    → Retells (plain_of input n last) (plain_of input n last).stop result
own_log_at known input n result threads settings last reached over h =
    let ends = map (λ (t : lock.Thread). has_ended t.phase) last.threads in
    let log = log_of input n ends in
    let is : IsLog log = known.spelled input n ends threads settings in
    let spelled : Spells (text_of log) log = record { range = is.range; each_good = is.each_good; spelled = refl } in
    told_or_memory known (text_of log) input.scripts log result
    (λ r. Retells (plain_of input n last) (stop_of last (diverging (setup_of input) last)) r) (inl spelled) refl tt
    (λ run.
    let under = run_under known input n ends result run in
    let at_end = plain_run (setup_of input) n (first_state input) in
    let over_there : diverging (setup_of input) at_end ≡ None
    → IsOver (setup_of input) at_end = subst (λ (z : State). diverging (setup_of input) z ≡ None
    → IsOver (setup_of input) z) (sym reached) over in
    let told = own_log_of known input n ends result (diverging (setup_of input) at_end) refl over_there under in
    subst (λ (z : State). Retells (plain_of input n z) (stop_of z (diverging (setup_of input) z)) result) reached told)
    h

-- a replay of the log that a plain run wrote gives that run again
pub own_log : Known → OwnLogLaw
own_log known input plain result run h =
    subst (λ (p : Plain). Replays p.log input.scripts result → Retells p p.stop result) (sym run.shows)
    (own_log_at known input run.count result run.threads run.settings run.last run.goes.reached run.ends) h

-- The run of actors by a log, as a recorded run.
use Rattle.std.proofs.Common.{◌≡◌, ◌≢◌, false, ◌⊎◌, ℕ, ◌<◌, List, length, slice_index_or, Option, Some, None, is_some}
use Rattle.std.proofs.Common.{refl, sym, ap, ◌∙◌, subst, arith}
use Rattle.std.proofs.lemmas.Bool.{false≢true}
use Rattle.host_doors.specs.LogList.{LogList}
use Rattle.host_doors.specs.declared.script.ScriptDoor.{ScriptDoor}
use Rattle.input_log.specs.declared.log.LogText.{LogText}
use Rattle.input_log.specs.declared.log.Record.{Record}
use Rattle.machine.specs.Kept.{is_sink}
use Rattle.machine.specs.declared.stop.Stop.{Stop}
use Rattle.machine.specs.declared.stop.Stop.TheVariants as stop
use Rattle.posix_terms.specs.declared.transcript.Settings.{Settings}
use Rattle.recorder.specs.Each.{AreLedFrom, ArePlayedFrom, AreTrue}
use Rattle.recorder.specs.Recorded.{AreAnswered, AreEnded, AreTold, IsRecorded}
use Rattle.thread_scripts.specs.declared.actor.ScriptState.{ScriptState}
use Rattle.worker_notes.specs.Agrees.{Agree}
use Rattle.replayer.specs.Outcomes.{settings_of}
use Rattle.replayer.specs.Outcomes.{first_unused}
use Rattle.replayer.specs.Threads.{AtEnd, EndsBy, IsRunBy, cause_told, doors_by, doors_of, gives_logged, stop_told}
use Rattle.replayer.proofs.ByThread.{made_at, made_length}

-- nothing was given of what a log has for a thread
abbrev IsNew : LogList → Type 0
IsNew o = (o.counts.given ≡ 0) × (o.counts.failures ≡ 0)

pub doors_are_new : (doors : List LogList) (n : ℕ) (rs : List Record) → doors ≡ doors_by n rs → (k : ℕ) (d : LogList)
    → k < length doors → IsNew (slice_index_or doors k d)
doors_are_new doors n rs same k d l =
    let long : length doors ≡ n = ap length same
    ∙ made_length (λ i. doors_by i rs) (λ i. doors_of i rs) refl (λ i. refl) n in
    let there : slice_index_or doors k d ≡ doors_of k rs = ap (λ xs. slice_index_or xs k d) same
    ∙ made_at (λ i. doors_by i rs) (λ i. doors_of i rs) d refl (λ i. refl) n k (omega (arith, long, l)) in
    subst IsNew (sym there) (refl, refl)

-- what a recorded run promises, of so many actors over the doors to this log
pub runs_by : {A : Type 0} (state : A → ScriptState) (log : LogText) (settings : Settings) (n : ℕ) (actors : List A)
    (doors : List LogList) (e : AtEnd A) (taken : List ℕ) (failures : ℕ) (stopped : Option Stop)
    → n ≡ length actors → settings ≡ settings_of log.header → doors ≡ doors_by n log.records
    → IsRecorded ScriptDoor settings n e.history e.own e.transcripts taken failures stopped
    → (stopped ≡ Some stop.Strayed) ⊎ Agree e.history.rows e.history.asked e.own
    → AreTold n e.history.rows stopped e.transcripts
    → (stopped ≡ None → AreEnded e.own) → (stopped ≡ None → AreAnswered e.history.rows)
    → (stopped ≡ Some stop.Sink → failures ≡ 1)
    → (stopped ≡ Some stop.Strayed)
    ⊎ ArePlayedFrom state (is_some stopped) 0 e.history.rows e.history.asked actors e.actors
    → (stopped ≡ Some stop.Strayed) ⊎ AreLedFrom gives_logged 0 e.history.rows e.history.asked doors e.doors
    → AreTrue gives_logged state actors doors e.own e.actors e.doors
    → IsRunBy state log actors e taken failures stopped
runs_by state log settings n actors doors e taken failures stopped count same_settings same_doors run agrees transcripts
    ended answered fails steps calls told =
    record {
      run = subst (λ k. IsRecorded ScriptDoor (settings_of log.header) k e.history e.own e.transcripts taken failures
          stopped) count (subst (λ z. IsRecorded ScriptDoor z n e.history e.own e.transcripts taken failures stopped)
          same_settings run);
      agrees = agrees;
      transcripts = subst (λ k. AreTold k e.history.rows stopped e.transcripts) count transcripts;
      ended = ended;
      answered = answered;
      fails = fails;
      steps = steps;
      calls =
          subst (λ k. (stopped ≡ Some stop.Strayed)
          ⊎ AreLedFrom gives_logged 0 e.history.rows e.history.asked (doors_by k log.records) e.doors) count
          (subst (λ ds. (stopped ≡ Some stop.Strayed)
          ⊎ AreLedFrom gives_logged 0 e.history.rows e.history.asked ds e.doors) same_doors calls);
      told =
          subst (λ k. AreTrue gives_logged state actors (doors_by k log.records) e.own e.actors e.doors) count
          (subst (λ ds. AreTrue gives_logged state actors ds e.own e.actors e.doors) same_doors told);
    }

-- ## Its sink

not_for_sink : (cause : Stop) → is_sink (Some (cause_told cause)) ≡ false
not_for_sink stop.Memory = refl
not_for_sink stop.Sink = refl
not_for_sink stop.ClockFull = refl
not_for_sink stop.Strayed = refl
not_for_sink (stop.EndOfLog thread) = refl
not_for_sink (stop.Diverged thread number) = refl

never_for_sink : (o : Option Stop) (unused : Option (ℕ × ℕ)) → is_sink (stop_told o unused) ≡ false
never_for_sink None None = refl
never_for_sink None (Some (thread, number)) = refl
never_for_sink (Some cause) unused = not_for_sink cause

-- such a run never stops for its sink
pub ends_for_other : {A : Type 0} (state : A → ScriptState) (log : LogText) (actors : List A) (e : AtEnd A)
    (taken : List ℕ) (failures : ℕ) (told : Option Stop)
    → EndsBy state log actors e taken failures told → told ≢ Some stop.Sink
ends_for_other state log actors e taken failures told ends is =
    false≢true (sym (never_for_sink ends.stopped (first_unused log.header.threads log.records e.history.rows))
    ∙ ap is_sink (sym ends.told_is ∙ is))

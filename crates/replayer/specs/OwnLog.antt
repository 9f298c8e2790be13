-- Believed: a contract of the headline stands on it.
-- What a replay gives of the log that a plain run itself wrote.
use Rattle.std.specs.Prelude.{◌≡◌, Option, Some, None, Result, Ok, Err}
use Rattle.call_machine.specs.Plain.{IsPlainRun}
use Rattle.call_machine.specs.Setup.{Inputs}
use Rattle.machine.specs.declared.stop.Stop.{Stop}
use Rattle.machine.specs.declared.stop.Stop.TheVariants as stop
use Rattle.call_machine.specs.declared.plain.Plain.{Plain}
use Rattle.recorder.specs.Recorded.{AreBeginnings}
use Rattle.replayer.specs.Replay.{Replays}
use Rattle.replayer.specs.declared.fault.ReplayFault.{ReplayFault}
use Rattle.replayer.specs.declared.fault.ReplayFault.TheVariants as replay_fault
use Rattle.replayer.specs.declared.replayed.Replayed.{Replayed}

-- What a replay returns for the log that this run wrote, which stopped so: what the run's threads
-- saw, its history where it came to its end, and its stop. Where the run diverged, the replay,
-- which has no outcome for the thread that diverged, goes on as far as the others come, and
-- says what its first stuck thread lacks. A replay that is out of memory says nothing
abbrev pub Retells : Plain → Option Stop → Result Replayed ReplayFault → Type 0
Retells plain stopped (Err replay_fault.Memory) = Unit {0}
Retells plain None result = result
    ≡ Ok (record { transcripts = plain.transcripts; history = plain.history })
Retells plain (Some (stop.EndOfLog i)) result = result
    ≡ Err (replay_fault.EndOfLog i plain.transcripts)
Retells plain (Some stop.ClockFull) result = result ≡ Err (replay_fault.ClockFull plain.transcripts)
Retells plain (Some (stop.Diverged i n)) (Err (replay_fault.EndOfLog j seen)) =
    AreBeginnings plain.transcripts seen
Retells plain (Some (stop.Diverged i n)) (Err (replay_fault.ClockFull seen)) =
    AreBeginnings plain.transcripts seen
Retells plain other result = ⊥

-- whatever a replay may give of the log that this plain run wrote
abbrev pub OwnLogLaw : Type 0
OwnLogLaw =
    (input : Inputs) (plain : Plain) (result : Result Replayed ReplayFault)
    → IsPlainRun input plain → Replays plain.log input.scripts result
    → Retells plain plain.stop result

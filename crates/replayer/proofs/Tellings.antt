-- What is told of a plain run is what a replay gives.
use Rattle.std.proofs.Common.{◌≡◌, ℕ, List, Option, Some, None, Result, Ok, Err}
use Rattle.machine.specs.declared.stop.Stop.{Stop}
use Rattle.machine.specs.declared.stop.Stop.TheVariants as stop
use Rattle.call_machine.specs.declared.plain.Plain.{Plain}
use Rattle.input_log.specs.declared.fault.LogFault.{LogFault}
use Rattle.input_log.specs.declared.log.LogText.{LogText}
use Rattle.replayer.specs.Outcomes.{first_unused}
use Rattle.replayer.specs.Replay.{IsRunByText, Replays, Tells, ended}
use Rattle.replayer.specs.declared.fault.ReplayFault.{ReplayFault}
use Rattle.replayer.specs.declared.fault.ReplayFault.TheVariants as replay_fault
use Rattle.replayer.specs.declared.replayed.Replayed.{Replayed}
use Rattle.thread_scripts.specs.declared.line.Line.{Line}

no_log : (plain : Plain) (fault : LogFault) (o : Option (ℕ × ℕ)) → Err (replay_fault.Log fault) ≡ ended plain o → ⊥
no_log plain fault None is = cc
no_log plain fault (Some (thread, number)) is = cc

never_log : (log : LogText) (plain : Plain) (fault : LogFault) (o : Option Stop)
    → Tells log plain o (Err (replay_fault.Log fault)) → ⊥
never_log log plain fault None is = no_log plain fault (first_unused log.header.threads log.records plain.history.rows)
    is
never_log log plain fault (Some (stop.EndOfLog i)) is = cc
never_log log plain fault (Some (stop.Diverged i n)) is = cc
never_log log plain fault (Some stop.ClockFull) is = cc
never_log log plain fault (Some stop.Memory) is = is
never_log log plain fault (Some stop.Sink) is = is
never_log log plain fault (Some stop.Strayed) is = is

no_threads : (plain : Plain) (o : Option (ℕ × ℕ)) → Err replay_fault.Threads ≡ ended plain o → ⊥
no_threads plain None is = cc
no_threads plain (Some (thread, number)) is = cc

never_threads : (log : LogText) (plain : Plain) (o : Option Stop) → Tells log plain o (Err replay_fault.Threads) → ⊥
never_threads log plain None is = no_threads plain (first_unused log.header.threads log.records plain.history.rows) is
never_threads log plain (Some (stop.EndOfLog i)) is = cc
never_threads log plain (Some (stop.Diverged i n)) is = cc
never_threads log plain (Some stop.ClockFull) is = cc
never_threads log plain (Some stop.Memory) is = is
never_threads log plain (Some stop.Sink) is = is
never_threads log plain (Some stop.Strayed) is = is

pub replays : (text : List ℕ) (scripts : List (List Line)) (log : LogText) (plain : Plain)
    (answer : Result Replayed ReplayFault)
    → IsRunByText text scripts log plain → Tells log plain plain.stop answer → Replays text scripts answer
replays text scripts log plain (Err replay_fault.Memory) by tells = tt
replays text scripts log plain (Err (replay_fault.Log fault)) by tells =
    absurd (never_log log plain fault plain.stop tells)
replays text scripts log plain (Err replay_fault.Threads) by tells = absurd (never_threads log plain plain.stop tells)
replays text scripts log plain (Ok replayed) by tells = (log, plain, by, tells)
replays text scripts log plain (Err (replay_fault.EndOfLog i t)) by tells = (log, plain, by, tells)
replays text scripts log plain (Err (replay_fault.Diverged i n t)) by tells = (log, plain, by, tells)
replays text scripts log plain (Err (replay_fault.ClockFull t)) by tells = (log, plain, by, tells)

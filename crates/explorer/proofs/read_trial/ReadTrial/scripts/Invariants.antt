use Rattle.std.proofs.Common.{◌≡◌, drop}
use Rattle.command_texts.specs.Reading.{scripts_from}
use Rattle.explorer.specs.Varied.{varied_texts}
use Rattle.explorer.proofs.ReadOnce.{after}
use Rattle.explorer.proofs.read_trial.ReadTrial.scripts.Given as goal

-- the scripts so far and those of the threads that are left make up the whole
abbrev pub invariant-loop-thread : goal.invariant-loop-thread
invariant-loop-thread g l =
    let delays = g.D.Delays.delays_of l.delays l.case in
    after l.scripts.items
    (scripts_from l.thread (varied_texts delays l.thread (drop l.thread l.one-items)))
    ≡ scripts_from 0 (varied_texts delays 0 l.one-items)

use Rattle.std.proofs.Common.{◌≡◌, drop}
use Rattle.command_texts.specs.Reading.{scripts_from}
use Rattle.explorer.proofs.ReadOnce.{after}
use Rattle.explorer.proofs.read_trial.ReadTrial.copied.Given as goal

-- the scripts so far and those that are left make up the whole
abbrev pub invariant-loop-one : goal.invariant-loop-one
invariant-loop-one l =
    after l.scripts.items (scripts_from l.one-index (drop l.one-index l.one-items))
    ≡ scripts_from 0 l.one-items

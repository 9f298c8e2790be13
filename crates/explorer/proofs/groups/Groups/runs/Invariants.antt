use Rattle.std.proofs.Common.{◌≡◌, take}
use Rattle.explorer.specs.Groups.{runs_of}
use Rattle.explorer.proofs.groups.Groups.runs.Given as goal

abbrev pub invariant-loop-group : goal.invariant-loop-group
invariant-loop-group l = l.runs ≡ runs_of (take l.group-index l.self)

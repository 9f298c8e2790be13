use Rattle.std.proofs.Common.{◌≡◌, ◌++◌, drop}
use Rattle.script_checks.specs.Sharing.{naming_from}
use Rattle.script_checks.proofs.descriptors.scripts_naming.Given as goal

abbrev pub invariant-loop-i : goal.invariant-loop-i
invariant-loop-i l = l.naming.items ++ naming_from l.i l.number (drop l.i l.scripts)
    ≡ naming_from 0 l.number l.scripts

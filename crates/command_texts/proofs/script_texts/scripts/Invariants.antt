use Rattle.std.proofs.Common.{◌≡◌, drop}
use Rattle.command_texts.specs.Reading.{scripts_from}
use Rattle.command_texts.proofs.Sources.{with_front}
use Rattle.command_texts.proofs.script_texts.scripts.Given as goal

abbrev pub invariant-loop-i : goal.invariant-loop-i
invariant-loop-i l = with_front l.scripts.items (scripts_from l.i (drop l.i l.texts)) ≡ scripts_from 0 l.texts

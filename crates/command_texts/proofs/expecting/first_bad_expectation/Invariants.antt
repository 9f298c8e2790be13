use Rattle.std.proofs.Common.{All, take}
use Rattle.command_texts.specs.Expecting.{IsGood}
use Rattle.command_texts.proofs.expecting.first_bad_expectation.Given as goal

-- those so far are good
abbrev pub invariant-loop-script : goal.invariant-loop-script
invariant-loop-script l = All IsGood (take l.script l.texts)

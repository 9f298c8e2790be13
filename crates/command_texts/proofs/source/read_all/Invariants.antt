use Rattle.std.proofs.Common.{map}
use Rattle.command_texts.specs.Reading.{AreTexts}
use Rattle.command_texts.proofs.source.read_all.Given as goal

abbrev pub invariant-loop-source : goal.invariant-loop-source
invariant-loop-source g l = AreTexts (map (λ s. (s.path.now, g.R.TextReader.remaining s.reader)) l.yielded)
    l.texts.items

-- Internal: no contract of the headline or of a command stands on it.
-- A number for what is compared of runs, so that few are compared.
use Rattle.std.specs.Prelude.{ℕ}
use Rattle.explorer.specs.Numbers.{number_of}
use Rattle.explore_texts.specs.Looked.{compared_in}
use Rattle.explore_texts.specs.declared.alike.AlikeRuns.{AlikeRuns}

-- the number of what is compared of what the threads of these runs saw
abbrev pub number_in : AlikeRuns → ℕ
number_in runs = number_of (compared_in runs.looked runs.group.observation)

-- Internal: no contract of the headline or of a command stands on it.
-- What of two rows is compared.
use Rattle.std.specs.Prelude.{Bool, true, false}
use Rattle.posix_terms.specs.declared.transcript.Row.{Row}
use Rattle.comparator.specs.Comparison.{without_turn}

-- what of a row is compared: all of it where turns count, and else the call and the reply
abbrev pub counted : Bool → Row → Row
counted true row = row
counted false row = without_turn row

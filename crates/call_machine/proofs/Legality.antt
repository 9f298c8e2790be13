-- The turns of the history rise as those of the lock machine.
use Rattle.std.proofs.Common.{List, [], ◌∷◌, map}
use Rattle.posix_terms.specs.declared.transcript.Turn.{Turn}
use Rattle.lock_model.specs.Rising as machine_rising
use Rattle.lock_model.specs.Rows.{shown}
use Rattle.lock_model.specs.State.{Row}
use Rattle.call_machine.specs.History.{AreRising, IsBeforeAll}

before_shown : (t : Turn) (rows : List Row) → machine_rising.IsBeforeAll t rows → IsBeforeAll t (map shown rows)
before_shown t [] h = tt
before_shown t (r ∷ rows) (now, rest) = (now, before_shown t rows rest)

pub rising_shown : (rows : List Row) → machine_rising.IsRising rows → AreRising (map shown rows)
rising_shown [] h = tt
rising_shown (r ∷ rows) (now, rest) = (before_shown r.turn rows now, rising_shown rows rest)

-- Internal: no contract of the headline or of a command stands on it.
-- Granted turns rise.
use Rattle.std.specs.Prelude.{◌≡◌, List, [], ◌∷◌, true}
use Rattle.lock_model.specs.State.{Row}
use Rattle.logical_clocks.specs.TurnOrder.{is_before}
use Rattle.posix_terms.specs.declared.transcript.Turn.{Turn}

-- this turn comes before those of all these rows
abbrev pub IsBeforeAll : Turn → List Row → Type 0
IsBeforeAll turn [] = Unit {0}
IsBeforeAll turn (r ∷ rs) = (is_before turn r.turn ≡ true) × IsBeforeAll turn rs

-- each turn comes before all later ones
abbrev pub IsRising : List Row → Type 0
IsRising [] = Unit {0}
IsRising (r ∷ rs) = IsBeforeAll r.turn rs × IsRising rs

use Rattle.std.proofs.Common.{◌≡◌, ◌++◌, drop, map, option_copied}
use Rattle.expectations.specs.Places.{calls_from, places_of}
use Rattle.expectations.proofs.Placing.{places}
use Rattle.expectations.proofs.places.call_places.Given as goal

-- the places so far, and those of the calls from here on
abbrev pub invariant-loop-row : goal.invariant-loop-row
invariant-loop-row l =
    l.places.items ++ places (calls_from (option_copied l.last) l.actor
    (map (λ row. row.reply) (drop l.row l.rows)))
    ≡ places_of l.fn.script (map (λ row. row.reply) l.rows)

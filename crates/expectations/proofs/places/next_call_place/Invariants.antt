use Rattle.std.proofs.Common.{◌≡◌, drop, map, option_copied}
use Rattle.expectations.specs.Places.{next_place, next_place_from}
use Rattle.expectations.proofs.places.next_call_place.Given as goal

-- the next call after those of the rows from here on is that after all of them
abbrev pub invariant-loop-row : goal.invariant-loop-row
invariant-loop-row l =
    next_place_from (option_copied l.last) l.actor (map (λ row. row.reply) (drop l.row l.rows))
    ≡ next_place l.fn.script (map (λ row. row.reply) l.rows)

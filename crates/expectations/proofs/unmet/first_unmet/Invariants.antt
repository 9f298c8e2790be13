use Rattle.std.proofs.Common.{◌≡◌, ◌++◌, List, ℕ, All, length, drop, map, option_copied}
use Rattle.posix_terms.specs.declared.reply.Reply.{Reply}
use Rattle.expectations.specs.Places.{calls_from, calls_of}
use Rattle.expectations.specs.Unmet.{AreMet}
use Rattle.expectations.proofs.unmet.first_unmet.Given as goal

-- the calls so far are met, and the others are those from here on
abbrev pub invariant-loop-row : goal.invariant-loop-row
invariant-loop-row l = record {
  front : List (ℕ × Reply);
  whole : front ++ calls_from (option_copied l.last) l.actor (map (λ row. row.reply) (drop l.row l.rows))
      ≡ calls_of l.fn.script (map (λ row. row.reply) l.rows);
  count : length front ≡ l.row;
  met : All (AreMet l.expectations) front;
}

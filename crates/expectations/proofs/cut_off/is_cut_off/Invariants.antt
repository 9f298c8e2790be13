use Rattle.std.proofs.Common.{◌≡◌, drop, length, map, option_copied}
use Rattle.expectations.specs.CutOff.{is_cut_from, is_cut_off}
use Rattle.expectations.proofs.cut_off.is_cut_off.Given as goal

-- what the replies from here on say is what all of them say
abbrev pub invariant-loop-row : goal.invariant-loop-row
invariant-loop-row l =
    is_cut_from (length l.fn.script) (option_copied l.last) l.actor
    (map (λ row. row.reply) (drop l.row l.rows))
    ≡ is_cut_off l.fn.script (map (λ row. row.reply) l.rows)

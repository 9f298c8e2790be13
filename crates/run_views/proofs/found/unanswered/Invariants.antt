use Rattle.std.proofs.Common.{◌≡◌, option_copied, drop, None}
use Rattle.run_views.specs.Found.{last_turn}
use Rattle.run_views.proofs.found.unanswered.Given as goal

-- the last turn of the thread, from what was found and the turns from here on
abbrev pub invariant-loop-row : goal.invariant-loop-row
invariant-loop-row l =
    last_turn l.thread (option_copied l.last) (drop l.row-index l.rows) ≡ last_turn l.thread None l.rows

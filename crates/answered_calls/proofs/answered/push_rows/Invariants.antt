use Rattle.std.proofs.Common.{◌≡◌, ◌++◌, drop, map}
use Rattle.answered_calls.specs.Answered.{answered_from}
use Rattle.answered_calls.specs.Seen.{seen}
use Rattle.answered_calls.proofs.answered.push_rows.Given as goal

abbrev pub invariant-loop-number : goal.invariant-loop-number
invariant-loop-number l =
    map seen l.calls.items ++ answered_from l.thread l.number l.lines l.ways (drop l.number l.rows)
    ≡ map seen l.initial.calls.items ++ answered_from l.thread 0 l.lines l.ways l.rows

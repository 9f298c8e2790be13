use Rattle.std.proofs.Common.{◌≡◌, ◌++◌, drop, map}
use Rattle.std.specs.List.{flat_map}
use Rattle.answered_calls.specs.Seen.{seen}
use Rattle.json_views.specs.Rows.{row_line}
use Rattle.json_views.proofs.ends.push_rows.Given as goal

abbrev pub invariant-loop-call : goal.invariant-loop-call
invariant-loop-call l =
    l.text.items ++ flat_map row_line (map seen (drop l.call-index l.calls))
    ≡ l.initial.text.items ++ flat_map row_line (map seen l.calls)

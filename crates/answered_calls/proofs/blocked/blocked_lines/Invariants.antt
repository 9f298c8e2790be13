use Rattle.std.proofs.Common.{◌≡◌, map, take}
use Rattle.answered_calls.specs.Blocked.{blocked_line}
use Rattle.answered_calls.proofs.blocked.blocked_lines.Given as goal

abbrev pub invariant-loop-call : goal.invariant-loop-call
invariant-loop-call l =
    l.lines.items ≡ map (blocked_line l.texts l.transcripts) (take l.call-index l.calls)

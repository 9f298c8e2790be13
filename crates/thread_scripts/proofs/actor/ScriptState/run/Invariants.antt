use Rattle.std.proofs.Common.{◌≡◌}
use Rattle.thread_scripts.specs.Meaning.{lines_left, next_within}
use Rattle.thread_scripts.specs.Saving.{registers_before}
use Rattle.thread_scripts.proofs.actor.ScriptState.run.Given as goal

abbrev pub invariant-loop-self : goal.invariant-loop-self
invariant-loop-self l =
    (next_within l.failed (lines_left l.self) l.self ≡ next_within l.failed (lines_left l.fn.self) l.fn.self)
    × (l.self.script ≡ l.fn.self.script)
    × (registers_before l.replaced.bytes l.self.bytes ≡ registers_before l.fn.replaced.bytes l.fn.self.bytes)

abbrev pub decreases-loop-self : goal.decreases-loop-self
decreases-loop-self l = lines_left l.self

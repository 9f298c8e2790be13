use Rattle.std.proofs.Common.{◌≡◌, drop}
use Rattle.thread_scripts.specs.Calls.{kind_among}
use Rattle.thread_scripts.proofs.calls.kind_among.Given as goal

-- the calls so far are not the one: it is among those left
abbrev pub invariant-loop-kind : goal.invariant-loop-kind
invariant-loop-kind l = kind_among (drop l.kind-index l.kinds) l.word ≡ kind_among l.kinds l.word

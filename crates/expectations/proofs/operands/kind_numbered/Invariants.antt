use Rattle.std.proofs.Common.{◌≡◌, ◌==◌, drop, find}
use Rattle.posix_terms.specs.Replies.{kind_code}
use Rattle.expectations.specs.Words.{kind_numbered, kinds}
use Rattle.expectations.proofs.operands.kind_numbered.Given as goal

-- the kinds so far have another number: it is among those left
abbrev pub invariant-loop-kind : goal.invariant-loop-kind
invariant-loop-kind l =
    find (λ kind. kind_code kind == l.number) (drop l.kind-index kinds) ≡ kind_numbered l.number

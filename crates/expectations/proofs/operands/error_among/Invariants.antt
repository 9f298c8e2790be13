use Rattle.std.proofs.Common.{◌≡◌, drop}
use Rattle.expectations.specs.Words.{error_among}
use Rattle.expectations.proofs.operands.error_among.Given as goal

-- the errors so far have another name: it is among those left
abbrev pub invariant-loop-error : goal.invariant-loop-error
invariant-loop-error l =
    error_among (drop l.error-index l.errors) l.word ≡ error_among l.errors l.word

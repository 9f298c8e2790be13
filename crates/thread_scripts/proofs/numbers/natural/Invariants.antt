use Rattle.std.proofs.Common.{◌≡◌, ◌≤◌, drop}
use Rattle.thread_scripts.specs.Numbers.{digits_from}
use Rattle.thread_scripts.proofs.numbers.natural.Given as goal

abbrev pub invariant-loop-digit : goal.invariant-loop-digit
invariant-loop-digit l = (l.value ≤ l.limit) × (digits_from l.value (drop l.digit-index l.text) ≡ digits_from 0 l.text)

use Rattle.std.proofs.Common.{◌+◌, ◌%◌, ◌<◌, ◌≤◌, ℕ, arith, mod-lt}
use Rattle.posix_terms.specs.declared.limits.TheConstants.Limits.{WORK}
use Rattle.explorer.specs.Delays.{chance_delay, mixed}
use Rattle.explorer.proofs.laws.chances_are_works.Goals as goal

at_most : (hash reach limit : ℕ) → reach ≤ limit → hash % (reach + 1) ≤ limit
at_most hash reach limit within =
    let some : 0 < reach + 1 = omega arith in
    let less : hash % (reach + 1) < reach + 1 = mod-lt hash some in
    omega arith

pub returns : goal.returns
unfolding chance_delay
returns c = λ reach seed thread within line.
    at_most (mixed (mixed (mixed 0 seed) thread) line) reach WORK within

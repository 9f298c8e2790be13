use Rattle.std.proofs.Common.{◌≡◌, ◌++◌, drop, map}
use Rattle.fault_injection.specs.Tried.{short_counts}
use Rattle.fault_injection.specs.declared.injected.Injected.TheVariants as injected
use Rattle.fault_injection.proofs.tried.shorter.Given as goal

-- the counts so far, and those that are left
abbrev pub invariant-loop-short : goal.invariant-loop-short
invariant-loop-short l =
    l.shorter.items ++ map injected.Short (drop l.short-index l.short-items)
    ≡ map injected.Short (short_counts l.count)

use Rattle.std.proofs.Common.{◌≡◌, length}
use Rattle.std.specs.Prelude.{All}
use Rattle.log_guard.specs.Guarding.{IsUnusedHost}
use Rattle.log_guard.proofs.hosts.guarded_hosts.Given as goal

abbrev pub invariant-loop : goal.invariant-loop
invariant-loop g l = (length l.hosts.items ≡ l.counter) × All IsUnusedHost l.hosts.items

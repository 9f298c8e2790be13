-- Believed: a contract of a command stands on it.
-- What comes where a thread asks for an outcome that it does not have.
use Rattle.std.specs.Prelude.{ℕ, ◌==◌, [], if◌then◌else◌}
use Rattle.posix_terms.specs.declared.errno.Errno.TheVariants as errno
use Rattle.posix_terms.specs.declared.outcome.OutKind.{OutKind}
use Rattle.posix_terms.specs.declared.outcome.OutKind.TheVariants as kind
use Rattle.posix_terms.specs.declared.outcome.Outcome.{Outcome}
use Rattle.posix_terms.specs.declared.outcome.Outcome.TheVariants as outcome
use Rattle.fault_injection.specs.declared.filling.Filling.{Filling}
use Rattle.fault_injection.specs.declared.filling.Filling.TheVariants as filling

-- a request of this kind that asks this goes well: all bytes are written, and none is left to read
abbrev pub goes_well : OutKind → ℕ → Outcome
goes_well kind.Write asked = outcome.Ok asked []
goes_well kind.Listen asked = outcome.Ok (if asked == 0 then 1 else asked) []
goes_well other asked = outcome.Ok 0 []

-- what comes of a request
abbrev pub filling_for : Filling → OutKind → ℕ → Outcome
filling_for filling.Fail kind asked = outcome.Fail errno.EIO
filling_for filling.Well kind asked = goes_well kind asked

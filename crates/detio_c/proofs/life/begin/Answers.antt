use Rattle.std.proofs.Common.{◌≡◌, MatchResult, Result, refl, subst, sym}
use Rattle.c_words.specs.declared.fault.LibraryFault.{LibraryFault}
use Rattle.c_words.specs.declared.fault.LibraryFault.TheVariants as fault
use Rattle.detio_c.specs.declared.session.Session.{Session}
use Rattle.detio_c.proofs.life.begin.Goals as goal

pub returns-in-Ok-clause-why : goal.returns-in-Ok-clause-why
returns-in-Ok-clause-why c = λ other. (
  fault.NoMemory,
  c.code.ensures,
  subst (λ (r : Result Session LibraryFault). MatchResult r (λ s. fault.NoMemory ≡ fault.NoMemory)
      (λ e. fault.NoMemory ≡ e)) (sym c.in-Ok.is) refl,
)

use Rattle.std.proofs.Common.{◌∙◌, ℤ, None, Option, ap, rules, unwrap_or, w64}
use Rattle.std.proofs.lemmas.Int.{to_z-of_z}
use Rattle.posix_terms.specs.declared.reply.ObjectKind.{ObjectKind}
use Rattle.fault_injection.specs.Objects.{known}
use Rattle.fault_injection.proofs.objects.Objects.at.Goals as goal

pub returns-in-Some : goal.returns-in-Some
returns-in-Some c =
    ap (λ (o : Option (Option ObjectKind)). unwrap_or o None) c.in-Some.ensures.value
    ∙ ap (λ (n : ℤ). known c.args.self.now n) (to_z-of_z w64 c.args.number (search rules))

pub returns-in-None : goal.returns-in-None
returns-in-None c =
    ap (λ (o : Option (Option ObjectKind)). unwrap_or o None) c.in-None.ensures.value
    ∙ ap (λ (n : ℤ). known c.args.self.now n) (to_z-of_z w64 c.args.number (search rules))

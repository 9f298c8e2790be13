use Rattle.std.proofs.Common.{◌≡◌, ◌∙◌, ◌∷◌, ◌<◌, [], ◌==◌, None, length, ap, sym, arith}
use Rattle.std.proofs.lemmas.Grind.{common_steps}
use Rattle.std.specs.Prelude.{position}
use Rattle.sequential_object.specs.Paths.{slash, components_of}
use Rattle.directories.proofs.ComponentLemmas.{components-last, none_of}
use Rattle.directories.proofs.path.split_first.Goals as goal

pub returns-clause-some : goal.returns-clause-some
returns-clause-some c =
    let none : position (λ b. b == slash) c.loop-at.rest.now ≡ None = sym c.slash_at.ensures
    ∙ none_of c.slash_at.result c.in_default.not-Some in
    let nonempty : 0 < length c.loop-at.rest.now = grind (arith, common_steps) in
    let past : c.after.result.now ≡ [] = grind (arith, common_steps) in
    c.loop-at.invariant.same ∙ components-last c.loop-at.rest.now none nonempty
    ∙ ap (λ rest. c.loop-at.rest.now ∷ components_of rest) (sym past)

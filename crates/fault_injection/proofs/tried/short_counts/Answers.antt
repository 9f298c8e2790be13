use Rattle.std.proofs.Common.{◌∙◌, ap, ◌==◌, ◌/◌, ℕ, List, [], ◌∷◌, filter, nat_lt}
use Rattle.std.specs.List.{dedup}
use Rattle.std.proofs.lemmas.List.Filters.{dedup_is}
use Rattle.fault_injection.proofs.tried.short_counts.Goals as goal

pub returns : goal.returns
returns c =
    let count = c.args.count in
    let counts : ℕ → List ℕ = λ less. 0 ∷ 1 ∷ (count / 2) ∷ less ∷ [] in
    dedup_is (λ a b. a == b) c.in_ok-short.short.items _ c.dedup.ensures.filtered
    ∙ ap (dedup (λ (a b : ℕ). a == b))
    (c.in_ok-short.ensures
    ∙ ap (λ less. filter (λ n. nat_lt n count) (counts less)) c.saturating_sub.ensures)

use Rattle.std.proofs.Common.{rules, ◌≡◌, ◌≤◌, ◌+◌, ◌*◌, ◌^◌, ℕ, None, Option, ap, ◌∙◌, arith}
use Rattle.std.proofs.Common.{subst, sym}
use Rattle.std.specs.Prelude.{MatchOption}
use Rattle.explorer.specs.ListCounts.{pair_count}
use Rattle.explorer.proofs.Listing.{pairs_rise}
use Rattle.explorer.proofs.lists.pair_count.Goals as goal

pub returns-in_err-count : goal.returns-in_err-count
returns-in_err-count c =
    let reach = c.args.reach in
    let rest = c.loop-rest.rest in
    let rise = pairs_rise reach rest c.args.places c.loop-rest-test.true in
    let none : c.from_residual-in_err-count.result ≡ None = search rules in
    let others : c.in_ok-others.others ≡ rest * reach = search rules in
    let here : c.in_ok-checked_mul.field-0 ≡ reach * c.in_ok-others.others = search rules in
    let over : 2 ^ 64 ≤ c.loop-rest.count + c.in_ok-checked_mul.field-0 = search rules in
    subst
    (λ (o : Option ℕ).
    MatchOption o (2 ^ 64 ≤ pair_count reach c.args.places)
    (λ count. count ≡ pair_count reach c.args.places))
    (sym none)
    (omega (arith, rise, c.loop-rest.invariant, over, here ∙ ap (λ n. reach * n) others))

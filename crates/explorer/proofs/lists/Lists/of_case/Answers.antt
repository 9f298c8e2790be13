use Rattle.std.proofs.Common.{rules, ◌≡◌, ◌∙◌, ◌-◌, ◌*◌, ◌<◌, ◌≤◌, ◌^◌, [], List, ap, arith, get_or}
use Rattle.std.proofs.Common.{length}
use Rattle.std.proofs.Common.{slice_get, subst, sym}
use Rattle.std.specs.List.{cons_option}
use Rattle.explorer.specs.Lists.{Bounds, delays_among, list_of, pairs_among}
use Rattle.explorer.specs.declared.places.CallPlace.{CallPlace}
use Rattle.explorer.proofs.Listing.{case_of_one, case_of_two, has_two, lists_length, ones_fit}
use Rattle.explorer.proofs.Listing.{pairs_fit}
use Rattle.explorer.proofs.lists.Lists.of_case.Goals as goal

pub overflow_mul-ones : goal.overflow_mul-ones
overflow_mul-ones c =
    let inside = c.self.inside in
    let places = inside.places.items in
    let same = c.self.invariant ∙ lists_length places inside.reach inside.two in
    let fits : inside.count < 2 ^ 64 = search rules in
    let ones = ones_fit (length places) inside.reach inside.count inside.two same fits in
    let len : c.len.result ≡ length places = search rules in
    omega (arith, subst (λ n. n * inside.reach < 2 ^ 64) (sym len) ones)

pub returns-then-case-ones : goal.returns-then-case-ones
returns-then-case-ones c =
    let inside = c.self.inside in
    let places = inside.places.items in
    let len : c.len.result ≡ length places = search rules in
    let some : 0 < c.args.case = search rules in
    let within : c.args.case ≤ length places * inside.reach =
    subst (λ n. c.args.case ≤ n * inside.reach) len c.if-case-ones.true in
    let first : c.delay_among.result
    ≡ slice_get (delays_among inside.reach places) (c.args.case - 1) =
    c.delay_among.ensures
    ∙ ap (λ (ps : List CallPlace). slice_get (delays_among inside.reach ps) (c.args.case - 1))
    c.deref.ensures.value in
    ap (λ o. cons_option o []) first
    ∙ (case_of_one places inside.reach inside.two c.args.case some within
    ∙ ap (λ (b : Bounds). list_of b c.args.case) c.self.view_is)

pub pair_among-requires : goal.pair_among-requires
pair_among-requires c =
    let inside = c.self.inside in
    let places = inside.places.items in
    let same = c.self.invariant ∙ lists_length places inside.reach inside.two in
    let fits : inside.count < 2 ^ 64 = search rules in
    let len : c.len.result ≡ length places = search rules in
    let below : c.args.case < inside.count = search rules in
    let past : c.len.result * inside.reach < c.args.case = search rules in
    let two = has_two (length places) inside.reach inside.count c.args.case inside.two same below
    (subst (λ n. n * inside.reach < c.args.case) len past) in
    subst (λ (ps : List CallPlace). length (pairs_among inside.reach ps) < 2 ^ 64)
    (sym c.deref-2.ensures.value)
    (pairs_fit places inside.reach inside.count inside.two two same fits)

pub returns : goal.returns
returns c =
    let inside = c.self.inside in
    let places = inside.places.items in
    let case = c.args.case in
    let same = c.self.invariant ∙ lists_length places inside.reach inside.two in
    let len : c.len.result ≡ length places = search rules in
    let below : case < inside.count = search rules in
    let past : c.len.result * inside.reach < case = search rules in
    let after = subst (λ n. n * inside.reach < case) len past in
    let two = has_two (length places) inside.reach inside.count case inside.two same below after in
    c.pair_among.ensures
    ∙ (ap (λ (ps : List CallPlace). get_or (pairs_among inside.reach ps)
    (case - 1 - c.len.result * inside.reach) []) c.deref-2.ensures.value
    ∙ ap (λ n. get_or (pairs_among inside.reach places) (case - 1 - n * inside.reach) []) len
    ∙ case_of_two places inside.reach inside.two case two after
    ∙ ap (λ (b : Bounds). list_of b case) c.self.view_is)

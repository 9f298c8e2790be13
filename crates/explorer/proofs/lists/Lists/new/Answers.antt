use Rattle.std.proofs.Common.{rules, ◌≡◌, ◌∙◌, ◌≤◌, ◌^◌, List, length, subst, sym}
use Rattle.explorer.specs.Lists.{lists_of, places_of}
use Rattle.explorer.specs.ListCounts.{list_count}
use Rattle.explorer.specs.declared.places.CallPlace.{CallPlace}
use Rattle.explorer.proofs.Listing.{bounds_of, lists_length}
use Rattle.explorer.proofs.lists.Lists.new.Goals as goal

pub returns-in_default : goal.returns-in_default
returns-in_default c =
    let places = c.in_ok-places.places.items in
    let is : places ≡ places_of 0 c.args.texts.now = search rules in
    let many : 2 ^ 64 ≤ list_count (length places) c.args.reach c.args.two = search rules in
    subst
    (λ (ps : List CallPlace). 2 ^ 64 ≤ length (lists_of (bounds_of ps c.args.reach c.args.two)))
    is
    (subst (λ n. 2 ^ 64 ≤ n) (sym (lists_length places c.args.reach c.args.two)) many)

pub invariant_of-result : goal.invariant_of-result
invariant_of-result c =
    let places = c.in_ok-places.places.items in
    let reach = c.from-reach.result in
    let count : c.in-Some.count ≡ list_count (length places) reach c.args.two = search rules in
    count ∙ sym (lists_length places reach c.args.two)

use Rattle.std.proofs.Common.{◌≡◌, ◌∙◌, ◌/◌, ◌<◌, Some, ap, option_map, rules, slice_get, sym, ◌%◌}
use Rattle.std.proofs.Common.{◌+◌}
use Rattle.std.proofs.Common.{length, refl}
use Rattle.std.proofs.lemmas.Option.{slice_get_past, slice_get_read}
use Rattle.explorer.specs.Lists.{delay_of}
use Rattle.explorer.specs.declared.places.CallPlace.{CallPlace}
use Rattle.explorer.proofs.Listing.{among_at, none_among}
use Rattle.explorer.proofs.lists.delay_among.Goals as goal

pub returns-then-reach-eq0 : goal.returns-then-reach-eq0
returns-then-reach-eq0 c =
    sym (none_among c.args.reach c.args.places.now c.args.at (search rules))

pub returns-in-Some : goal.returns-in-Some
returns-in-Some c =
    let reach = c.args.reach in
    let some : 0 < reach = search rules in
    let found = c.in-Some.ensures.lookup in
    let is : slice_get c.args.places.now (c.args.at / reach) ≡ Some c.in-Some.place.now =
    slice_get_read c.args.places.now (length c.args.places.now) (c.args.at / reach)
    c.in-Some.place.now refl found.3.0 found.1 in
    sym (among_at reach c.args.places.now c.args.at some
    ∙ ap (option_map (λ (place : CallPlace). delay_of place (1 + c.args.at % reach))) is)

pub returns-in-None : goal.returns-in-None
returns-in-None c =
    let reach = c.args.reach in
    let some : 0 < reach = search rules in
    let past = c.in-None.ensures.lookup.3 in
    let is = slice_get_past c.args.places.now (c.args.at / reach) past in
    sym (among_at reach c.args.places.now c.args.at some
    ∙ ap (option_map (λ (place : CallPlace). delay_of place (1 + c.args.at % reach))) is)

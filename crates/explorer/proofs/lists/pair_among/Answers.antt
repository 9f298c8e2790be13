use Rattle.std.proofs.Common.{rules, ◌≡◌, ◌∙◌, ◌+◌, ◌-◌, ◌*◌, ◌%◌, ◌/◌, ◌<◌, ◌≤◌, ◌^◌, [], ◌∷◌}
use Rattle.std.proofs.Common.{List, ap, arith}
use Rattle.std.proofs.Common.{drop, get_or, length, slice_get, subst, sym}
use Rattle.std.specs.List.{cons_option}
use Rattle.explorer.specs.Lists.{delay_of, delays_among, pairs_among}
use Rattle.explorer.specs.declared.places.CallPlace.{CallPlace}
use Rattle.explorer.proofs.Listing.{found_here, found_later, length_on, others_fit, pair_here}
use Rattle.explorer.proofs.Listing.{pairs_at}
use Rattle.explorer.proofs.lists.pair_among.Goals as goal

abbrev no_place : CallPlace
no_place = record { thread = 0; line = 0 }

pub overflow_mul-others : goal.overflow_mul-others
overflow_mul-others c =
    let reach = c.args.reach in
    let places = c.args.places.now in
    let i = c.loop-i.i in
    let whole = length_on reach places i no_place c.loop-i-test.true in
    let fits = others_fit reach (length (drop (i + 1) places))
    (length (pairs_among reach (drop (i + 1) places)))
    (omega (arith, whole, c.loop-i.invariant.fits)) in
    let all = subst (λ (rest : List CallPlace). length rest * reach < 2 ^ 64)
    (sym c.after-rest.ensures) fits in
    omega (arith, all)

pub overflow_mul-here : goal.overflow_mul-here
overflow_mul-here c =
    let reach = c.args.reach in
    let places = c.args.places.now in
    let i = c.loop-i.i in
    let whole = length_on reach places i no_place c.loop-i-test.true in
    let fits : reach * (length (drop (i + 1) places) * reach) < 2 ^ 64 =
    omega (arith, whole, c.loop-i.invariant.fits) in
    let all = subst (λ (rest : List CallPlace). reach * (length rest * reach) < 2 ^ 64)
    (sym c.after-rest.ensures) fits in
    omega (arith, all)

pub returns-then-left-here : goal.returns-then-left-here
returns-then-left-here c =
    let reach = c.args.reach in
    let places = c.args.places.now in
    let i = c.loop-i.i in
    let left = c.loop-i.left in
    let rest = c.after-rest.result.now in
    let place = get_or places i no_place in
    let inside : left < reach * (length rest * reach) = search rules in
    let second : c.delay_among.result
    ≡ slice_get (delays_among reach rest) (left % (length rest * reach)) =
    search rules in
    ap (λ o. delay_of place (1 + left / (length rest * reach)) ∷ cons_option o []) second
    ∙ pair_here reach place rest left inside
    ∙ sym (found_here reach places i left no_place c.loop-i-test.true
    (subst (λ (l : List CallPlace). left < reach * (length l * reach)) c.after-rest.ensures inside)
    ∙ ap (λ (l : List CallPlace). get_or (pairs_at reach place l) left []) (sym c.after-rest.ensures))
    ∙ c.loop-i.invariant.list

pub loop-i-preserved : goal.loop-i-preserved
loop-i-preserved c =
    let reach = c.args.reach in
    let places = c.args.places.now in
    let i = c.loop-i.i in
    let left = c.loop-i.left in
    let rest = c.after-rest.result.now in
    let whole = length_on reach places i no_place c.loop-i-test.true in
    let past : reach * (length rest * reach) ≤ left = search rules in
    let later = found_later reach places i left no_place c.loop-i-test.true
    (subst (λ (l : List CallPlace). reach * (length l * reach) ≤ left) c.after-rest.ensures past) in
    record {
      list = ap (λ (l : List CallPlace).
          get_or (pairs_among reach (drop (i + 1) places)) (left - reach * (length l * reach)) [])
          c.after-rest.ensures
          ∙ sym later ∙ c.loop-i.invariant.list;
      fits = omega (arith, whole, c.loop-i.invariant.fits);
    }

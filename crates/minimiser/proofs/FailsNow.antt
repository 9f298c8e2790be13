-- What is found in the run of what is kept, held to the failure as it is now.
use Rattle.std.proofs.Common.{◌≡◌, ◌∙◌, Bool, Option, Some, ap, subst, sym, IsTrue, option_map}
use Rattle.std.specs.Prelude.{◌↔◌, IsSomeAnd}
use Rattle.explorer.specs.Subject.{Subject}
use Rattle.minimiser.specs.Failing.{Fails, FailsIn, kept_subject}
use Rattle.minimiser.specs.Reductions.{Kept, place_now, target_now}
use Rattle.minimiser.specs.Targets.{sameness_of}
use Rattle.minimiser.specs.declared.target.Place.{Place}
use Rattle.minimiser.specs.declared.target.Target.{Target}

pub fails_by : (given : Subject) (target : Target) (kept : Kept) (place : Place)
    (found : Option Target) (one : Target) (is : Bool) → place_now kept target.place ≡ Some place
    → ((t : Target)
    → (found ≡ Some t) ↔ Fails (sameness_of target.came) (kept_subject given kept) t)
    → found ≡ Some one → (IsTrue is ↔ (one ≡ record { place = place; came = target.came }))
    → IsTrue is ↔ FailsIn given target kept
fails_by given target kept place found one is now law some same =
    let here : Target = record { place = place; came = target.came } in
    let is_now : target_now kept target ≡ Some here =
    ap (option_map (λ (place : Place).
    let t : Target = record { place = place; came = target.came } in t)) now in
    let fails = Fails (sameness_of target.came) (kept_subject given kept) in
    let back : FailsIn given target kept → fails here =
    λ (f : FailsIn given target kept). subst (λ (t : Option Target). IsSomeAnd t fails) is_now f in
    let forth : fails here → FailsIn given target kept =
    λ (f : fails here). subst (λ (t : Option Target). IsSomeAnd t fails) (sym is_now) f in (
      λ (true : IsTrue is). forth ((law here).0 (some ∙ ap Some (same.0 true))),
      λ (f : FailsIn given target kept).
          let equal : Some one ≡ Some here = sym some ∙ (law here).1 (back f) in
          same.1 (cc equal),
    )

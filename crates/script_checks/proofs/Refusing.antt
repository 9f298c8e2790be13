-- A path is refused by its form exactly where a reason is found.
use Rattle.std.proofs.Common.{◌≡◌, ℕ, ◌==◌, ◌||◌, Bool, true, false, cond, List, [], ◌∷◌, length}
use Rattle.std.proofs.Common.{Option, Some, None, Ok, is_some, refl, if◌then◌else◌}
use Rattle.std.specs.List.{find, list_any}
use Rattle.std.specs.Prelude.{nat_lt}
use Rattle.posix_terms.specs.declared.errno.Errno.TheVariants.{EINVAL, ENAMETOOLONG, ENOENT}
use Rattle.posix_terms.specs.declared.limits.TheConstants.Limits as limit
use Rattle.sequential_object.specs.Paths.{components_of, has_trailing_slash, is_dots, path_form}
use Rattle.sequential_object.specs.Refusals.{◌>>=◌, refuse_if}
use Rattle.script_checks.specs.Paths.{Empty, TooLong, form_by, is_long, path_refusal, refusal_by}

found_here : {X : Type 0} (b : Bool) (x : X) (rest : Bool) (later : Option X) → rest ≡ is_some later
    → (b || rest) ≡ is_some (cond b (Some x) later)
found_here true x rest later same = refl
found_here false x rest later same = same

-- one of them does exactly when a first one is found
any_found : {X : Type 0} (p : X → Bool) (xs : List X) → list_any p xs ≡ is_some (find p xs)
any_found p [] = refl
any_found p (x ∷ xs) = found_here (p x) x (list_any p xs) (find p xs) (any_found p xs)

by_cases : (empty long : Bool) (dots : Option (List ℕ)) (slash : Bool) (name : Option (List ℕ)) (names : List (List ℕ))
    → (refuse_if empty ENOENT >>= (λ _. refuse_if long ENAMETOOLONG >>= (λ _. refuse_if false EINVAL
    >>= (λ _. refuse_if (is_some dots) EINVAL >>= (λ _. refuse_if slash EINVAL
    >>= (λ _. refuse_if (is_some name) ENAMETOOLONG >>= (λ _. Ok names)))))))
    ≡ form_by (if empty then Some Empty else if long then Some TooLong else refusal_by dots slash name) names
by_cases true long dots slash name names = refl
by_cases false true dots slash name names = refl
by_cases false false (Some dots) slash name names = refl
by_cases false false None true name names = refl
by_cases false false None false (Some name) names = refl
by_cases false false None false None names = refl

pub refused_for_its_form : (path : List ℕ) → list_any (λ b. b == 0) path ≡ false
    → path_form path ≡ form_by (path_refusal path) (components_of path)
unfolding path_form
refused_for_its_form path none =
    rw (none, any_found is_dots (components_of path), any_found is_long (components_of path))
    (by_cases (length path == 0) (nat_lt limit.PATH_BYTES (length path)) (find is_dots (components_of path))
    (has_trailing_slash path) (find is_long (components_of path)) (components_of path))

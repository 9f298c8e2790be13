-- The numbers of runs that are alike, and those of runs once more have joined.
use Rattle.std.proofs.Common.{◌≡◌, ◌++◌, ℕ, List, [], ◌∷◌, ap, drop, get_or, map, refl, suc, sym, take}
use Rattle.std.proofs.Common.{slice_set, zero}
use Rattle.explorer.specs.Numbers.{number_of}
use Rattle.explore_texts.specs.Alike.{AreAlike}
use Rattle.explore_texts.specs.Numbers.{number_in}
use Rattle.explore_texts.specs.declared.alike.AlikeRuns.{AlikeRuns}

-- runs that are alike have one number
pub alike_numbers : (one other : AlikeRuns) → AreAlike one other
    → number_in one ≡ number_in other
alike_numbers one other alike = ap number_of alike.seen

-- more runs at a place have its number
pub numbers_set : (all : List AlikeRuns) (place : ℕ) (more d : AlikeRuns)
    → number_in more ≡ number_in (get_or all place d)
    → map number_in all ≡ map number_in (slice_set all place more)
numbers_set [] place more d same = refl
numbers_set (one ∷ all) zero more d same = ap (λ n. n ∷ map number_in all) (sym same)
numbers_set (one ∷ all) (suc place) more d same =
    ap (λ rest. number_in one ∷ rest) (numbers_set all place more d same)

-- the numbers after runs were put in
pub numbers_in : (all : List AlikeRuns) (count : ℕ) (runs : AlikeRuns)
    → take count (map number_in all) ++ number_in runs ∷ drop count (map number_in all)
    ≡ map number_in (take count all ++ runs ∷ drop count all)
numbers_in all zero runs = refl
numbers_in [] (suc count) runs = refl
numbers_in (one ∷ all) (suc count) runs =
    ap (λ rest. number_in one ∷ rest) (numbers_in all count runs)

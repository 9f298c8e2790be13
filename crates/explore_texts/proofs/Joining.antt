-- How many runs there are once more have joined.
use Rattle.std.proofs.Common.{◌≡◌, ◌+◌, ◌<◌, ◌≤◌, ◌∙◌, ℕ, List, ◌∷◌, ap, arith, drop, get_or, inl, inr}
use Rattle.std.proofs.Common.{All, Option, length, subst, take}
use Rattle.std.proofs.lemmas.List.{take-append-drop}
use Rattle.std.proofs.lemmas.List.Elements.{All-more}
use Rattle.std.proofs.lemmas.List.Sums.{get_or-le-sum_by, sum_by-append, sum_by-cons, sum_by-set}
use Rattle.std.proofs.lemmas.Option.{get_or_from_slice_get, slice_get_within}
use Rattle.explore_texts.specs.Alike.{AreAlike, IsNext, Joins, runs_in}
use Rattle.explore_texts.specs.declared.alike.AlikeRuns.{AlikeRuns}
use Rattle.explore_texts.specs.declared.alike.UnmetPlace.{UnmetPlace}

abbrev count_of : AlikeRuns → ℕ
count_of runs = runs.group.runs

-- these are more
pub more_runs : (runs : AlikeRuns) (old new : List AlikeRuns) → Joins runs old new
    → runs_in new ≡ runs_in old + runs.group.runs
more_runs runs old new (inl one) =
    let inside = slice_get_within old one.place one.first one.at in
    let here = get_or_from_slice_get old one.place one.first one.first one.at in
    let more : AlikeRuns = record one.first {
      group = record one.first.group { runs = one.first.group.runs + runs.group.runs };
    } in
    let sums = sum_by-set count_of old one.place more one.first inside in
    ap runs_in one.joined ∙ omega (arith, sums, ap count_of here)
more_runs runs old new (inr begins) =
    let front = take begins.count old in
    let back = drop begins.count old in
    let whole = ap runs_in (take-append-drop begins.count old) in
    ap runs_in begins.begun
    ∙ omega (
      arith,
      sum_by-append count_of front (runs ∷ back),
      sum_by-cons count_of runs back,
      sum_by-append count_of front back,
      whole,
    )

-- none has more than all together
pub each_within : (all : List AlikeRuns) (i : ℕ) (one : AlikeRuns) → i < length all
    → (get_or all i one).group.runs ≤ runs_in all
each_within all i one inside = get_or-le-sum_by count_of all i one inside

-- ## Who is not alike, and where new ones stand

abbrev pub NotAlike : AlikeRuns → AlikeRuns → Type 0
NotAlike runs other = AreAlike other runs → ⊥

-- those so far are not, and this one is not either
pub one_more_other : (runs : AlikeRuns) (all : List AlikeRuns) (i : ℕ) (one : AlikeRuns) → i < length all
    → one ≡ get_or all i one → NotAlike runs one → All (NotAlike runs) (take i all)
    → All (NotAlike runs) (take (i + 1) all)
one_more_other runs all i one inside read here before =
    All-more (NotAlike runs) all i one inside before (subst (NotAlike runs) read here)

-- the next place is one of the list, or its end
pub next_within : (unmet : Option UnmetPlace) (all : List AlikeRuns) (count : ℕ) → IsNext unmet all count
    → count ≤ length all
next_within unmet all count (inl none) = omega (arith, none.1)
next_within unmet all count (inr (last, at, is, after)) =
    omega (arith, is, slice_get_within all last at.runs at.at)

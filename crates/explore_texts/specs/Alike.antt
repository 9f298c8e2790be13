-- Believed: a contract of a command stands on it.
-- The runs that are alike, by what of them is compared.
use Rattle.std.specs.Prelude.{◌≡◌, ◌≢◌, ◌⊎◌, ℕ, ◌+◌, All, Bool, List, [], ◌∷◌, ◌++◌}
use Rattle.std.specs.Prelude.{drop, length, slice_get, slice_set, sum_by, take}
use Rattle.std.specs.Prelude.{Option, Some, option_map}
use Rattle.explorer.specs.Observations.{EndAlike}
use Rattle.explorer.specs.declared.groups.Group.{Group}
use Rattle.command_inputs.specs.declared.expecting.UnmetLine.{UnmetLine}
use Rattle.explore_texts.specs.Looked.{IsLooked, compared_in}
use Rattle.explore_texts.specs.declared.alike.AlikeRuns.{AlikeRuns}
use Rattle.explore_texts.specs.declared.alike.UnmetPlace.{UnmetPlace}
use Rattle.explore_texts.specs.declared.looked.Looked.{Looked}

-- where the expectation stands that is not met: its thread and its line
abbrev pub place_of : UnmetLine → UnmetPlace
place_of unmet = record { thread = unmet.thread; line = unmet.line }

-- that of runs, if they have one
abbrev pub unmet_of : AlikeRuns → Option UnmetPlace
unmet_of runs = option_map place_of runs.looked.unmet

-- runs are alike: the same expectation is not met, they came to the same, they ended alike, and
-- what is compared of what their threads saw is the same
pub record AreAlike (one other : AlikeRuns) : Type 0 where
  pub unmet : unmet_of one ≡ unmet_of other
  pub came_to : one.looked.judgement ≡ other.looked.judgement
  pub ends : EndAlike one.group.observation other.group.observation
  pub seen : compared_in one.looked one.group.observation
      ≡ compared_in other.looked other.group.observation

-- these runs are more of those at this place, which are alike
pub record JoinsOne (runs : AlikeRuns) (old new : List AlikeRuns) : Type 0 where
  pub place : ℕ
  pub first : AlikeRuns
  pub at : slice_get old place ≡ Some first
  pub alike : AreAlike first runs
  pub joined : new ≡ slice_set old place (record first {
    group = record first.group { runs = first.group.runs + runs.group.runs };
  })

-- none of these has this unmet expectation, or this lack of one
abbrev pub HasNone : Option UnmetPlace → List AlikeRuns → Type 0
HasNone unmet all = All (λ (runs : AlikeRuns). unmet_of runs ≢ unmet) all

-- these runs have it
pub record IsAt (unmet : Option UnmetPlace) (all : List AlikeRuns) (place : ℕ) : Type 0 where
  pub runs : AlikeRuns
  pub at : slice_get all place ≡ Some runs
  pub has : unmet_of runs ≡ unmet

-- so many stand before those that come next with it: all up to the last that has it, or all
abbrev pub IsNext : Option UnmetPlace → List AlikeRuns → ℕ → Type 0
IsNext unmet all count =
    (HasNone unmet all × (count ≡ length all))
    ⊎ ((last : ℕ) × IsAt unmet all last × (count ≡ last + 1) × HasNone unmet (drop count all))

-- no others are alike: these stand after all that have the same unmet expectation
pub record BeginsOne (runs : AlikeRuns) (old new : List AlikeRuns) : Type 0 where
  pub others : All (λ (other : AlikeRuns). ¬ AreAlike other runs) old
  pub count : ℕ
  pub next : IsNext (unmet_of runs) old count
  pub begun : new ≡ take count old ++ runs ∷ drop count old

-- these runs join those before
abbrev pub Joins : AlikeRuns → List AlikeRuns → List AlikeRuns → Type 0
Joins runs old new = JoinsOne runs old new ⊎ BeginsOne runs old new

-- all groups of runs of these texts do, in order
abbrev pub AllJoin :
    Bool → List (List ℕ) → List Group → List AlikeRuns → List AlikeRuns → Type 0
AllJoin raw texts [] old new = new ≡ old
AllJoin raw texts (group ∷ groups) old new =
    (looked : Looked) × IsLooked raw texts group.observation looked
    × ((joined : List AlikeRuns)
    × Joins (record { group = group; looked = looked }) old joined
    × AllJoin raw texts groups joined new)

-- how many runs there are in all
abbrev pub runs_in : List AlikeRuns → ℕ
runs_in all = sum_by (λ (runs : AlikeRuns). runs.group.runs) all

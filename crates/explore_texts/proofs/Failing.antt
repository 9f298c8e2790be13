-- What is found of runs, one after the other, and how many are counted.
use Rattle.std.proofs.Common.{◌≤◌, ℕ, Bool, true, false, List, [], ◌∷◌, ◌++◌, arith}
use Rattle.std.proofs.lemmas.List.Sums.{sum_by-cons}
use Rattle.std.specs.List.{AllZip}
use Rattle.std.specs.Prelude.{if◌then◌else◌}
use Rattle.explorer.specs.Subject.{Subject}
use Rattle.explorer.specs.declared.observation.Observation.{Observation}
use Rattle.explore_texts.specs.Alike.{runs_in}
use Rattle.explore_texts.specs.Findings.{IsFinding}
use Rattle.explore_texts.specs.Found.{counted, tallied}
use Rattle.explore_texts.specs.Judged.{is_counted}
use Rattle.explore_texts.specs.declared.judgement.Tally.{Tally}
use Rattle.explore_texts.specs.declared.alike.AlikeRuns.{AlikeRuns}
use Rattle.explore_texts.specs.declared.finding.Finding.{Finding}
use Rattle.explore_texts.specs.declared.looked.Looked.{Looked}
use Rattle.explore_texts.specs.declared.schedule.Schedule.{Schedule}

-- the elements and one more of each
pub pairs_more : {A B : Type 0} (R : A → B → Type 0) (xs : List A) (ys : List B) (x : A) (y : B)
    → AllZip R xs ys → R x y → AllZip R (xs ++ x ∷ []) (ys ++ y ∷ [])
pairs_more R [] [] x y all one = (one, record {})
pairs_more R [] (b ∷ ys) x y all one = elim all [ ]
pairs_more R (a ∷ xs) [] x y all one = elim all [ ]
pairs_more R (a ∷ xs) (b ∷ ys) x y all one = (all.0, pairs_more R xs ys x y all.1 one)

at_most : (b : Bool) (n : ℕ) → (if b then n else 0) ≤ n
at_most true n = omega arith
at_most false n = omega arith

-- no more runs are counted than there are
pub tallied_below : (json : Bool) (subject : Subject) (schedule : Schedule) (before : Observation) (looked : Looked)
    (all : List AlikeRuns) (findings : List Finding)
    → AllZip (IsFinding json subject schedule before looked) all findings
    → (tally : Tally) → tallied tally findings ≤ runs_in all
tallied_below json subject schedule before looked [] [] found tally = omega arith
tallied_below json subject schedule before looked [] (finding ∷ findings) found tally = elim found [ ]
tallied_below json subject schedule before looked (runs ∷ all) [] found tally = elim found [ ]
tallied_below json subject schedule before looked (runs ∷ all) (finding ∷ findings) found tally =
    let some = sum_by-cons (counted tally) finding findings in
    let more = sum_by-cons (λ (r : AlikeRuns). r.group.runs) runs all in
    let here = at_most (is_counted tally finding.judgement) finding.runs in
    let rest = tallied_below json subject schedule before looked all findings found.1 tally in
    omega (arith, some, more, found.0.count, here, rest)

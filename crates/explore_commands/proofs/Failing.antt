-- What is found of cases, one after the other, and how many are counted.
use Rattle.std.proofs.Common.{◌≡◌, ◌≤◌, ◌<◌, ◌+◌, ℕ, suc, Bool, true, false, List, [], ◌∷◌, ◌++◌}
use Rattle.std.proofs.Common.{Err, Ok, Result, ap, append_assoc, arith, get_or, length, subst, sym}
use Rattle.std.proofs.lemmas.List.{append-nil, length-append}
use Rattle.std.proofs.lemmas.List.Sums.{sum_by-cons}
use Rattle.std.specs.List.{AllZip}
use Rattle.std.specs.Prelude.{IfOk, if◌then◌else◌}
use Rattle.std.specs.declared.alloc.AllocError.{AllocError}
use Rattle.explorer.specs.Subject.{Subject}
use Rattle.explorer.specs.declared.observation.Observation.{Observation}
use Rattle.fault_injection.specs.declared.cases.FaultCase.{FaultCase}
use Rattle.explore_texts.specs.Found.{counted, tallied}
use Rattle.explore_texts.specs.Judged.{is_counted}
use Rattle.explore_texts.specs.declared.judgement.Tally.{Tally}
use Rattle.explore_commands.specs.Injections.{IsCaseFinding}
use Rattle.explore_commands.specs.Pushed.{ArePushed}
use Rattle.explore_commands.specs.declared.faults.FaultOptions.{FaultOptions}
use Rattle.explore_texts.specs.declared.finding.Finding.{Finding}
use Rattle.explore_texts.specs.declared.looked.Looked.{Looked}

-- the elements and one more of each
pub pairs_more : {A B : Type 0} (R : A → B → Type 0) (xs : List A) (ys : List B) (x : A) (y : B)
    → AllZip R xs ys → R x y → AllZip R (xs ++ x ∷ []) (ys ++ y ∷ [])
pairs_more R [] [] x y all one = (one, record {})
pairs_more R [] (b ∷ ys) x y all one = elim all [ ]
pairs_more R (a ∷ xs) [] x y all one = elim all [ ]
pairs_more R (a ∷ xs) (b ∷ ys) x y all one = (all.0, pairs_more R xs ys x y all.1 one)

at_most : (b : Bool) (n : ℕ) → (if b then n else 0) ≤ n
at_most true n = omega arith
at_most false n = omega arith

-- no more cases are counted than there are
pub cases_below : (options : FaultOptions) (subject : Subject) (before : Observation) (looked : Looked)
    (cases : List FaultCase) (findings : List Finding)
    → AllZip (IsCaseFinding options subject before looked) cases findings
    → (tally : Tally) → tallied tally findings ≤ length findings
cases_below options subject before looked [] [] all tally = omega arith
cases_below options subject before looked [] (finding ∷ findings) all tally = elim all [ ]
cases_below options subject before looked (case ∷ cases) [] all tally = elim all [ ]
cases_below options subject before looked (case ∷ cases) (finding ∷ findings) all tally =
    let some = sum_by-cons (counted tally) finding findings in
    let found = all.0.2.2 in
    let here = at_most (is_counted tally finding.judgement) finding.runs in
    let rest = cases_below options subject before looked cases findings all.1 tally in
    omega (arith, some, found.count, here, rest)

-- those that were found next are of the next cases
pub pairs_pushed : (R : FaultCase → Finding → Type 0) (next : List FaultCase)
    (found : List (Result Finding AllocError)) (cases : List FaultCase) (old new : List Finding)
    → AllZip R cases old → length found ≡ length next → ArePushed found old new
    → ((i : ℕ) (d : Result Finding AllocError) (e : FaultCase) → i < length next
    → IfOk (get_or found i d) (R (get_or next i e)))
    → AllZip R (cases ++ next) new
pairs_pushed R [] [] cases old new all same is each =
    subst (λ l. AllZip R l new) (sym (append-nil cases))
    (subst (λ (l : List Finding). AllZip R cases l) (sym is) all)
pairs_pushed R [] (one ∷ found) cases old new all same is each = absurd (cc same)
pairs_pushed R (case ∷ next) [] cases old new all same is each = absurd (cc same)
pairs_pushed R (case ∷ next) (Err none ∷ found) cases old new all same is each = elim is [ ]
pairs_pushed R (case ∷ next) (Ok finding ∷ found) cases old new all same is each =
    let here : R case finding = each 0 (Ok finding) case (omega arith) in
    let more = pairs_more R cases old case finding all here in
    let rest = pairs_pushed R next found (cases ++ case ∷ []) (old ++ finding ∷ []) new more
    (omega (arith, same)) is
    (λ i d e inside. each (suc i) d e (omega (arith, inside))) in
    subst (λ l. AllZip R l new) (append_assoc cases (case ∷ []) next) rest

pub pushed_length : (found : List (Result Finding AllocError)) (old new : List Finding)
    → ArePushed found old new → length new ≡ length old + length found
pushed_length [] old new is = omega (arith, ap length is)
pushed_length (Err none ∷ found) old new is = elim is [ ]
pushed_length (Ok finding ∷ found) old new is =
    omega (arith, pushed_length found (old ++ finding ∷ []) new is, length-append old (finding ∷ []))

-- What is compared of transcripts is what counts of each of their rows.
use Rattle.std.proofs.Common.{◌≡◌, Bool, true, false, List, ◌∷◌, [], map, refl, ap}
use Rattle.posix_terms.specs.declared.transcript.Row.{Row}
use Rattle.comparator.specs.Comparison.{IsVerdictBy, IsVerdictOn, compared}
use Rattle.comparator.specs.Counted.{counted}
use Rattle.comparator.specs.declared.verdict.Verdict.{Verdict}

all_rows : (rows : List Row) → map (counted true) rows ≡ rows
all_rows [] = refl
all_rows (row ∷ rows) = ap (λ rest. row ∷ rest) (all_rows rows)

all_transcripts : (transcripts : List (List Row)) → map (map (counted true)) transcripts ≡ transcripts
all_transcripts [] = refl
all_transcripts (rows ∷ transcripts) = rw (all_rows rows, all_transcripts transcripts) refl

by_row : (turns : Bool) (transcripts : List (List Row))
    → map (map (counted turns)) transcripts ≡ compared turns transcripts
by_row true transcripts = all_transcripts transcripts
by_row false transcripts = refl

-- so is a verdict on that
pub verdict_by : (turns : Bool) (a b : List (List Row)) (verdict : Verdict)
    → IsVerdictOn (map (map (counted turns)) a) (map (map (counted turns)) b) verdict
    → IsVerdictBy turns a b verdict
verdict_by turns a b verdict is = rw (by_row turns a, by_row turns b) at is

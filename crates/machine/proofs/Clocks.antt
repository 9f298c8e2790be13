-- The clocks that a log has of the outcomes of rows.
use Rattle.std.proofs.Common.{◌≡◌, ℕ, List, [], ◌∷◌, map, filter_map, Option, Some, None, Bool, true, false, ◌==◌}
use Rattle.std.proofs.Common.{if◌then◌else◌, refl, ap, ap₂}
use Rattle.lock_model.specs.History as lock
use Rattle.lock_model.specs.Laws.{AreDated, IsDated}
use Rattle.lock_model.specs.Rows.{shown}
use Rattle.lock_model.specs.State.{Row}
use Rattle.lock_model.specs.Transcripts as seen
use Rattle.posix_terms.specs.declared.outcome.Given.{Given}
use Rattle.sequential_object.specs.Answers.{outcome_in}
use Rattle.machine.specs.History.{clock_before, clock_told, clocks_in}
use Rattle.machine.specs.Records.{as_logged}

-- in version 2 all is kept
pub all_kept : (version : ℕ) (came : List Given) → (version == 2) ≡ true → map (as_logged version) came ≡ came
all_kept version [] two = refl
all_kept version (g ∷ came) two = ap₂ ◌∷◌ (ap (λ (b : Bool). record g { clock = if b then g.clock else None }) two)
    (all_kept version came two)

abbrev told : (version : ℕ) → Option ℕ → Option ℕ
told version clock = if version == 2 then clock else None

-- the clocks that a log of this version has of these outcomes
abbrev clocks : (version : ℕ) → List Given → List (Option ℕ)
clocks version gs = map (λ (g : Given). told version g.clock) gs

-- which are those of the turns
pub clocks_shown : (version i : ℕ) (rs : List Row) → AreDated rs
    → clocks version (seen.outcomes_of i rs) ≡ clocks_in version i (map shown rs)
clocks_shown version i [] dated = refl
clocks_shown version i (r ∷ rs) dated =
    by_test (r.turn.thread == i) r.outcome dated.0 (clocks_shown version i rs dated.1)
  where
    by_outcome : (o : Option Given) → IsDated (record r { outcome = o })
        → clocks version (seen.outcomes_of i rs) ≡ clocks_in version i (map shown rs)
        → clocks version (filter_map (λ (x : Row). x.outcome) (record r { outcome = o } ∷ lock.rows_of i rs))
        ≡ clock_before (clock_told version (shown r)) (outcome_in o) (clocks_in version i (map shown rs))
    by_outcome None own h = h
    by_outcome (Some g) own h = ap₂ (λ (c : Option ℕ) (cs : List (Option ℕ)). told version c ∷ cs) (own g refl) h

    by_test : (b : Bool) (o : Option Given) → IsDated (record r { outcome = o })
        → clocks version (seen.outcomes_of i rs) ≡ clocks_in version i (map shown rs)
        → clocks version (filter_map (λ (x : Row). x.outcome) (if b then record r { outcome = o } ∷ lock.rows_of i rs
        else lock.rows_of i rs))
        ≡ (if b then clock_before (clock_told version (shown r)) (outcome_in o) (clocks_in version i (map shown rs))
        else clocks_in version i (map shown rs))
    by_test true o own h = by_outcome o own h
    by_test false o own h = h

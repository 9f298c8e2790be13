-- The notes of the threads, one after another.
use Rattle.std.proofs.Common.{◌≡◌, ℕ, ◌+◌, ◌<◌, List, [], ◌∷◌, length, drop, get_or, suc, refl, ap}
use Rattle.std.specs.Prelude.{◌↔◌}
use Rattle.std.proofs.lemmas.List.{drop_more}
use Rattle.posix_terms.specs.declared.transcript.HistoryRow.{HistoryRow}
use Rattle.posix_terms.specs.declared.step.Step.{Step}
use Rattle.worker_notes.specs.Agrees.{AgreeFrom, AgreesWith}
use Rattle.worker_notes.specs.declared.own.Own.{Own}

-- the notes of thread i, and those after it
pub agree_more : (i : ℕ) (rows : List HistoryRow) (asked : List (List Step)) (own : List Own) (notes : Own)
    → i < length asked → i < length own → get_or own i notes ≡ notes
    → AgreeFrom i rows (drop i asked) (drop i own) ↔ (AgreesWith i rows (get_or asked i []) notes
    × AgreeFrom (i + 1) rows (drop (i + 1) asked) (drop (i + 1) own))
agree_more i rows asked own notes below within is = rw (drop_more asked i [] below, drop_more own i notes within, is)
    (λ h. h, λ h. h)

-- there are as many notes as threads
pub agree_count : (i : ℕ) (rows : List HistoryRow) (asked : List (List Step)) (own : List Own)
    → AgreeFrom i rows asked own → length asked ≡ length own
agree_count i rows [] [] h = refl
agree_count i rows (x ∷ asked) (w ∷ own) h = ap suc (agree_count (i + 1) rows asked own h.1)
agree_count i rows [] (w ∷ own) h = absurd h
agree_count i rows (x ∷ asked) [] h = absurd h

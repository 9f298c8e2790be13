-- The threads from one on that were cut off.
use Rattle.std.proofs.Common.{◌≡◌, ◌+◌, ◌<◌, ◌++◌, ℕ, List, [], ◌∷◌, drop, length, get_or, refl}
use Rattle.std.proofs.Common.{arith, subst, suc}
use Rattle.std.specs.Prelude.{Bool, false, slice_index_or}
use Rattle.std.proofs.Math.Seq.{drop-cons}
use Rattle.posix_terms.specs.declared.transcript.Row.{Row}
use Rattle.explore_texts.specs.CutOffs.{cut_threads, if_cut}

-- where no rows are left there are none
pub none_unseen : (ended : List Bool) (thread : ℕ) (texts : List (List ℕ))
    → cut_threads ended thread texts [] ≡ []
none_unseen ended thread [] = refl
none_unseen ended thread (text ∷ texts) = refl

-- this one, if it was, and those after it
pub one_further : (ended : List Bool) (texts : List (List ℕ)) (seen : List (List Row)) (thread : ℕ)
    (text : List ℕ) (rows : List Row) → thread < length texts → text ≡ get_or texts thread text
    → thread < length seen → rows ≡ get_or seen thread rows
    → cut_threads ended thread (drop thread texts) (drop thread seen)
    ≡ if_cut (slice_index_or ended thread false) thread text rows
    ++ cut_threads ended (thread + 1) (drop (thread + 1) texts) (drop (thread + 1) seen)
one_further ended texts seen thread text rows inside is_text among are_rows =
    let first : drop thread texts ≡ get_or texts thread text ∷ drop (suc thread) texts =
    drop-cons texts thread text inside in
    let saw : drop thread seen ≡ get_or seen thread rows ∷ drop (suc thread) seen =
    drop-cons seen thread rows among in
    let next : suc thread ≡ thread + 1 = omega arith in
    subst (λ (n : ℕ).
    cut_threads ended thread (drop thread texts) (drop thread seen)
    ≡ if_cut (slice_index_or ended thread false) thread text rows
    ++ cut_threads ended (thread + 1) (drop n texts) (drop n seen)) next
    (rw (first, saw, ← is_text, ← are_rows) refl)

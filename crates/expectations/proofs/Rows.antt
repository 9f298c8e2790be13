-- The calls of rows, one after another, and the first that is not met.
use Rattle.std.proofs.Common.{◌≡◌, ◌∙◌, ℕ, suc, ◌+◌, ◌<◌, All, List, [], ◌∷◌, ◌++◌, length, map, drop, slice_get}
use Rattle.std.proofs.Common.{slice_index_or, Option, Some, None, refl, sym, arith, add-one}
use Rattle.std.proofs.lemmas.List.{append-nil}
use Rattle.std.proofs.Math.Seq.{drop-cons, take-append_seam}
use Rattle.posix_terms.specs.declared.reply.Reply.{Reply}
use Rattle.posix_terms.specs.declared.transcript.Row.{Row}
use Rattle.thread_scripts.specs.declared.actor.ScriptState.{ScriptState}
use Rattle.expectations.specs.Places.{call_after, calls_from}
use Rattle.expectations.specs.Unmet.{AreMet, IsFirstOfCall, IsFirstUnmet}
use Rattle.expectations.specs.declared.expected.Expectation.{Expectation}

-- the replies of a row and of those after it
pub replies_at : (rows : List Row) (i : ℕ) (row : Row) → i < length rows → row ≡ slice_index_or rows i row
    → map (λ r. r.reply) (drop i rows) ≡ row.reply ∷ map (λ r. r.reply) (drop (i + 1) rows)
replies_at rows i row inside is =
    let here : drop i rows ≡ slice_index_or rows i row ∷ drop (suc i) rows = drop-cons rows i row inside in
    rw (add-one, here, ← is) refl

-- where the script has no more calls, none of the replies is of one
pub no_more : (last : Option Reply) (s : ScriptState) (rows : List Row) (i : ℕ) (front calls : List (ℕ × Reply))
    → i < length rows → front ++ calls_from last s (map (λ r. r.reply) (drop i rows)) ≡ calls → call_after last s ≡ None
    → front ≡ calls
no_more last s [] i front calls inside so_far none = absurd (omega arith)
no_more last s (first ∷ rows) i front calls inside so_far none =
    let split = drop-cons (first ∷ rows) i first inside in
    let here = rw split at so_far in
    let over = rw none at here in
    sym (append-nil front) ∙ over

-- the next call, before the others
pub one_more : (last : Option Reply) (s new : ScriptState) (rows : List Row) (i : ℕ) (row : Row)
    (front calls : List (ℕ × Reply)) → i < length rows → row ≡ slice_index_or rows i row
    → front ++ calls_from last s (map (λ r. r.reply) (drop i rows)) ≡ calls → call_after last s ≡ Some new
    → front ++ (new.place, row.reply) ∷ calls_from (Some row.reply) new (map (λ r. r.reply) (drop (i + 1) rows)) ≡ calls
one_more last s new rows i row front calls inside is so_far some =
    let here = rw (replies_at rows i row inside is) at so_far in
    rw some at here

get_behind : {A : Type 0} (xs : List A) (y : A) (ys : List A) → slice_get (xs ++ y ∷ ys) (length xs) ≡ Some y
get_behind [] y ys = refl
get_behind (x ∷ xs) y ys = get_behind xs y ys

-- the first call that is not met, after those that are
pub first_at : (expectations : List Expectation) (front rest calls : List (ℕ × Reply)) (call : ℕ × Reply) (row n : ℕ)
    → front ++ call ∷ rest ≡ calls → length front ≡ row → All (AreMet expectations) front
    → IsFirstOfCall expectations call n → IsFirstUnmet expectations calls (record { row = row; expectation = n })
first_at expectations front rest calls call row n so_far count met here = rw (← so_far, ← count) (record {
  before = rw (take-append_seam front (call ∷ rest)) met;
  call = call;
  at = get_behind front call rest;
  here = here;
})

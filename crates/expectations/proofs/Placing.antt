-- The places of the calls of rows, one after another, and of the next.
use Rattle.std.proofs.Common.{◌≡◌, ◌∙◌, ℕ, ◌+◌, ◌<◌, List, [], ◌∷◌, ◌++◌, length, map, drop, slice_index_or, Option}
use Rattle.std.proofs.Common.{Some, None, refl, sym, append_assoc, append-nil, arith}
use Rattle.std.proofs.Math.Seq.{drop-cons}
use Rattle.posix_terms.specs.declared.reply.Reply.{Reply}
use Rattle.posix_terms.specs.declared.transcript.Row.{Row}
use Rattle.thread_scripts.specs.declared.actor.ScriptState.{ScriptState}
use Rattle.expectations.specs.Places.{call_after, calls_from, next_place_from}
use Rattle.expectations.proofs.Rows.{no_more, one_more}

-- the places of calls
abbrev pub places : List (ℕ × Reply) → List ℕ
places calls = map (λ call. call.0) calls

-- where the script has no more calls, there are no more places
pub no_place : (last : Option Reply) (s : ScriptState) (rows : List Row) (i : ℕ) (front all : List ℕ) → i < length rows
    → front ++ places (calls_from last s (map (λ r. r.reply) (drop i rows))) ≡ all → call_after last s ≡ None
    → front ≡ all
no_place last s rows i front all inside so_far none =
    let over : [] ≡ calls_from last s (map (λ r. r.reply) (drop i rows)) =
    no_more last s rows i [] (calls_from last s (map (λ r. r.reply) (drop i rows))) inside refl none in
    sym (append-nil front) ∙ (rw (← over) at so_far)

-- the place of the next call, before the others
pub one_place : (last : Option Reply) (s new : ScriptState) (rows : List Row) (i : ℕ) (row : Row) (front all : List ℕ)
    → i < length rows → row ≡ slice_index_or rows i row
    → front ++ places (calls_from last s (map (λ r. r.reply) (drop i rows))) ≡ all → call_after last s ≡ Some new
    → (front ++ new.place ∷ [])
    ++ places (calls_from (Some row.reply) new (map (λ r. r.reply) (drop (i + 1) rows))) ≡ all
one_place last s new rows i row front all inside is so_far some =
    let next : (new.place, row.reply) ∷ calls_from (Some row.reply) new (map (λ r. r.reply) (drop (i + 1) rows))
    ≡ calls_from last s (map (λ r. r.reply) (drop i rows)) =
    one_more last s new rows i row [] (calls_from last s (map (λ r. r.reply) (drop i rows))) inside is refl some in
    append_assoc front (new.place ∷ []) _ ∙ (rw (← next) at so_far)

-- where the script has no more calls, there is no next one
pub no_next : (last : Option Reply) (s : ScriptState) (rows : List Row) (i : ℕ) (next : Option ℕ) → i < length rows
    → next_place_from last s (map (λ r. r.reply) (drop i rows)) ≡ next → call_after last s ≡ None → None ≡ next
no_next last s [] i next inside so_far none = absurd (omega arith)
no_next last s (first ∷ rows) i next inside so_far none =
    let split = drop-cons (first ∷ rows) i first inside in
    let here = rw split at so_far in
    rw none at here

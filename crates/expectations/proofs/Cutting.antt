-- What the replies from a row on say of a thread that was cut off.
use Rattle.std.proofs.Common.{◌≡◌, ◌+◌, ◌<◌, ℕ, List, [], ◌∷◌, drop, length, map}
use Rattle.std.proofs.Common.{slice_index_or, Option, Some, None, refl, arith}
use Rattle.std.proofs.Math.Seq.{drop-cons}
use Rattle.std.specs.Prelude.{false}
use Rattle.posix_terms.specs.declared.reply.Reply.{Reply}
use Rattle.posix_terms.specs.declared.transcript.Row.{Row}
use Rattle.thread_scripts.specs.declared.actor.ScriptState.{ScriptState}
use Rattle.expectations.specs.CutOff.{is_cut_from}
use Rattle.expectations.specs.Places.{call_after}
use Rattle.expectations.proofs.Rows.{replies_at}

-- where the script has no more calls, it has another end
pub no_call : (lines : ℕ) (last : Option Reply) (s : ScriptState) (rows : List Row) (i : ℕ)
    → i < length rows → call_after last s ≡ None
    → is_cut_from lines last s (map (λ r. r.reply) (drop i rows)) ≡ false
no_call lines last s [] i inside none = absurd (omega arith)
no_call lines last s (first ∷ rows) i inside none =
    rw (drop-cons (first ∷ rows) i first inside, none) refl

-- after the next call it is said by the others
pub next_call : (lines : ℕ) (last : Option Reply) (s new : ScriptState) (rows : List Row) (i : ℕ)
    (row : Row) → i < length rows → row ≡ slice_index_or rows i row
    → call_after last s ≡ Some new
    → is_cut_from lines last s (map (λ r. r.reply) (drop i rows))
    ≡ is_cut_from lines (Some row.reply) new (map (λ r. r.reply) (drop (i + 1) rows))
next_call lines last s new rows i row inside is some =
    rw (replies_at rows i row inside is, some) refl

-- The reply after the last step that was noted, and the call that has none.
use Rattle.std.proofs.Common.{◌≡◌, List, [], ◌∷◌, ℕ, ◌+◌, ◌-◌, zero, suc, Option, Some, None, refl, ap, sym, ◌∙◌, arith}
use Rattle.std.proofs.Common.{length, get_or, slice_get, slice_set}
use Rattle.std.proofs.lemmas.Option.{none-some, slice_get_within, slice_get-get_or}
use Rattle.posix_terms.specs.declared.reply.Reply.{Reply}
use Rattle.posix_terms.specs.Calls.{Call}
use Rattle.worker_notes.specs.Plays.{call_in, last_reply, open_call, reply_after, with_reply}
use Rattle.worker_notes.specs.declared.own.Noted.{Noted}

abbrev reply_if : Option Noted → Option Reply
reply_if (Some n) = n.reply
reply_if None = None

reply_of_last : (last : Option Reply) (notes : List Noted) (i : ℕ) (n : Noted) → i + 1 ≡ length notes
    → slice_get notes i ≡ Some n → reply_after last notes ≡ n.reply
reply_of_last last [] i n e f = absurd (none-some n f)
reply_of_last last (m ∷ []) zero n e f = ap reply_if f
reply_of_last last (m ∷ []) (suc j) n e f = absurd (omega (arith, e))
reply_of_last last (m ∷ k ∷ notes) zero n e f = absurd (omega (arith, e))
reply_of_last last (m ∷ k ∷ notes) (suc j) n e f = reply_of_last m.reply (k ∷ notes) j n (omega (arith, e)) f

-- and that reply set in its place
pub reply_set : (notes : List Noted) (i : ℕ) (n : Noted) (reply : Reply) → i + 1 ≡ length notes → n ≡ get_or notes i n
    → slice_set notes i (record n { reply = Some reply }) ≡ with_reply reply notes
reply_set [] i n reply e f = absurd (omega (arith, e))
reply_set (m ∷ []) zero n reply e f = rw f refl
reply_set (m ∷ []) (suc j) n reply e f = absurd (omega (arith, e))
reply_set (m ∷ k ∷ notes) zero n reply e f = absurd (omega (arith, e))
reply_set (m ∷ k ∷ notes) (suc j) n reply e f =
    ap (λ (rest : List Noted). m ∷ rest) (reply_set (k ∷ notes) j n reply (omega (arith, e)) f)

pub last_reply_is : (notes : List Noted) (n : Noted) → slice_get notes (length notes - 1) ≡ Some n
    → last_reply notes ≡ n.reply
last_reply_is notes n e = reply_of_last None notes (length notes - 1) n
    (omega (arith, slice_get_within notes (length notes - 1) n e)) e

pub last_reply_none : (notes : List Noted) → slice_get notes (length notes - 1) ≡ None → last_reply notes ≡ None
last_reply_none [] e = refl
last_reply_none (n ∷ notes) e =
    absurd (none-some _ (sym e ∙ slice_get-get_or (n ∷ notes) (length (n ∷ notes) - 1) n (omega arith)))

abbrev call_of : Noted → Option Call
call_of n = call_in n.step n.reply

abbrev call_if : Option Noted → Option Call
call_if (Some n) = call_of n
call_if None = None

open_in_last : (notes : List Noted) (i : ℕ) (n : Noted) → i + 1 ≡ length notes → slice_get notes i ≡ Some n
    → open_call notes ≡ call_of n
open_in_last [] i n e f = absurd (none-some n f)
open_in_last (m ∷ []) zero n e f = ap call_if f
open_in_last (m ∷ []) (suc j) n e f = absurd (omega (arith, e))
open_in_last (m ∷ k ∷ notes) zero n e f = absurd (omega (arith, e))
open_in_last (m ∷ k ∷ notes) (suc j) n e f = open_in_last (k ∷ notes) j n (omega (arith, e)) f

pub open_call_is : (notes : List Noted) (n : Noted) → slice_get notes (length notes - 1) ≡ Some n
    → open_call notes ≡ call_of n
open_call_is notes n e = open_in_last notes (length notes - 1) n
    (omega (arith, slice_get_within notes (length notes - 1) n e)) e

pub open_call_none : (notes : List Noted) → slice_get notes (length notes - 1) ≡ None → open_call notes ≡ None
open_call_none [] e = refl
open_call_none (n ∷ notes) e =
    absurd (none-some _ (sym e ∙ slice_get-get_or (n ∷ notes) (length (n ∷ notes) - 1) n (omega arith)))

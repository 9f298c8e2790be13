-- What numbers refer to after one more turn of a history.
use Rattle.std.proofs.Common.{◌≡◌, ◌∙◌, ◌∷◌, ℤ, Bool, true, false, List, Option, ap, if◌then◌else◌, sym}
use Rattle.posix_terms.specs.Answers.{reply_of}
use Rattle.posix_terms.specs.Calls.{Call}
use Rattle.posix_terms.specs.declared.reply.ObjectKind.{ObjectKind}
use Rattle.posix_terms.specs.declared.reply.Reply.{Reply}
use Rattle.posix_terms.specs.declared.transcript.HistoryRow.{HistoryRow}
use Rattle.fault_injection.specs.Places.{is_number, opened, refers}

-- what is opened depends only on what each number referred to before
opened_alike : (c : Call) (f g : ℤ → Option ObjectKind) → ((n : ℤ) → f n ≡ g n)
    → (n : ℤ) → opened c f n ≡ opened c g n
opened_alike c f g alike n = ap (λ (before : ℤ → Option ObjectKind). opened c before n) (λ i m. alike m i)

chosen : (b : Bool) (x y one other : Option ObjectKind) → x ≡ one → y ≡ other
    → (if b then x else y) ≡ (if b then one else other)
chosen true x y one other is is_not = is
chosen false x y one other is is_not = is_not

same_both : (b : Bool) (x : Option ObjectKind) → x ≡ (if b then x else x)
same_both true x = λ i. x
same_both false x = λ i. x

-- after a call that opens nothing, all is as before
pub stays : (row : HistoryRow) (past : List HistoryRow) (before : ℤ → Option ObjectKind)
    → ((n : ℤ) → opened row.call before n ≡ before n)
    → ((n : ℤ) → before n ≡ refers past n)
    → (n : ℤ) → before n ≡ refers (row ∷ past) n
stays row past before none so_far n =
    let b = is_number n (reply_of row.answer) in
    same_both b (before n)
    ∙ chosen b (before n) (before n) (opened row.call (refers past) n) (refers past n)
    (sym (none n) ∙ opened_alike row.call before (refers past) so_far n)
    (so_far n)

-- after one that opens this, the numbers of its reply refer to it
pub gives : (row : HistoryRow) (past : List HistoryRow) (before after : ℤ → Option ObjectKind)
    (reply : Option Reply) (object : Option ObjectKind)
    → reply ≡ reply_of row.answer
    → ((n : ℤ) → opened row.call before n ≡ object)
    → ((n : ℤ) → after n ≡ (if is_number n reply then object else before n))
    → ((n : ℤ) → before n ≡ refers past n)
    → (n : ℤ) → after n ≡ refers (row ∷ past) n
gives row past before after reply object is opens given so_far n =
    given n
    ∙ ap (λ (r : Option Reply). if is_number n r then object else before n) is
    ∙ chosen (is_number n (reply_of row.answer)) object (before n)
    (opened row.call (refers past) n) (refers past n)
    (sym (opens n) ∙ opened_alike row.call before (refers past) so_far n)
    (so_far n)

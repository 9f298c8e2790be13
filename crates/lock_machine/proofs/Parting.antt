-- What the events of a call say of its parts, by what was found there.
use Rattle.std.proofs.Common.{◌≡◌, ℕ, ◌+◌, ◌^◌, List, Option, Some, None, Bool, true, ◌&&◌, ◌||◌, not, sym, refl, ap}
use Rattle.std.proofs.Common.{ap₂, ◌∙◌, subst}
use Rattle.std.proofs.lemmas.Bool.{and_parts, eqb-true}
use Rattle.std.proofs.lemmas.List.{set-get_or}
use Rattle.std.proofs.lemmas.Option.{get_or_from_slice_get}
use Rattle.std.proofs.Math.ListN.{set}
use Rattle.std.specs.Prelude.{nat_le, slice_get}
use Rattle.lock_model.specs.Machine.{is_number}
use Rattle.sequential_object.specs.declared.turn_end.TurnEnd.{TurnEnd}
use Rattle.posix_terms.specs.declared.outcome.Outcome.{Outcome}
use Rattle.posix_terms.specs.declared.reply.Answer.{Answer}
use Rattle.posix_terms.specs.declared.transcript.HistoryRow.{HistoryRow}
use Rattle.lock_machine.specs.Events.{Answers, AnswersIn, AnswersWith, Parts, in_time, row_answered}
use Rattle.lock_machine.specs.Held.{end_held, told_as}
use Rattle.lock_machine.specs.Outings.{AnswersOutside, ConcludesHeld, ConcludesIf, ConcludesRow, ConcludesWith}
use Rattle.lock_machine.specs.Outings.{EndsTurn, OutsideParts, answer_cost, row_concluded}
use Rattle.lock_machine.specs.declared.thread.Outing.{Outing}

-- an element that is written back
pub got_set : {A : Type 0} (xs : List A) (i : ℕ) (x : A) → slice_get xs i ≡ Some x → set xs i x ≡ xs
got_set xs i x got = ap (λ (y : _). set xs i y) (sym (get_or_from_slice_get xs i x x got)) ∙ set-get_or xs i x

pub same_some : (n m : ℕ) → Some n ≡ Some m → n ≡ m
same_some n m is = ap number is
  where
    number : Option ℕ → ℕ
    number None = n
    number (Some k) = k

-- ## `answer`

pub answers_made : (i row : ℕ) (told : Option Answer) (old new : Parts) (e : TurnEnd) (q : HistoryRow)
    → is_number old.lock.holder i ≡ true → in_time old 1 ≡ true → end_held old.thread.phase ≡ Some e
    → slice_get old.rows row ≡ Some q → told ≡ Some (told_as e) → new ≡ row_answered old row e q
    → Answers told i row old new
answers_made i row told old new e q held room ends there told_is is =
    let P : Bool → Type 0 = λ b. AnswersIn b told row old new in
    let Q : Option TurnEnd → Type 0 = λ x. AnswersWith told row x (slice_get old.rows row) old new in
    let R : Option HistoryRow → Type 0 = λ x. AnswersWith told row (Some e) x old new in
    subst P (sym (ap₂ (λ (a b : Bool). a && b) held room)) (subst Q (sym ends) (subst R (sym there) (told_is, is)))

-- ## `answer` of a call that went outside

abbrev pub holds_locks : ℕ → Outing → OutsideParts → Bool
holds_locks i o p = is_number p.object.holder i && (not o.keeps_table || is_number p.lock.holder i)

pub table_held : (i : ℕ) (o : Outing) (p : OutsideParts) → holds_locks i o p ≡ true → o.keeps_table ≡ true
    → p.lock.holder ≡ Some i
table_held i o p held keeps =
    let kept : (not o.keeps_table || is_number p.lock.holder i) ≡ true =
    (and_parts (is_number p.object.holder i) (not o.keeps_table || is_number p.lock.holder i) held).1 in
    by_holder p.lock.holder (sym (ap (λ (b : Bool). not b || is_number p.lock.holder i) keeps) ∙ kept)
  where
    by_holder : (h : Option ℕ) → is_number h i ≡ true → h ≡ Some i
    by_holder None is = cc
    by_holder (Some j) is = ap (λ (k : ℕ). Some k) (eqb-true j i is)

pub object_holder : (i : ℕ) (o : Outing) (p : OutsideParts) → holds_locks i o p ≡ true → p.object.holder ≡ Some i
object_holder i o p held = by_holder p.object.holder
    (and_parts (is_number p.object.holder i) (not o.keeps_table || is_number p.lock.holder i) held).0
  where
    by_holder : (h : Option ℕ) → is_number h i ≡ true → h ≡ Some i
    by_holder None is = cc
    by_holder (Some j) is = ap (λ (k : ℕ). Some k) (eqb-true j i is)

pub concludes_made : (patience i : ℕ) (o : Outing) (told : Option Answer) (old new : OutsideParts) (q : HistoryRow)
    (x : Outcome) (e : TurnEnd) → holds_locks i o old ≡ true → slice_get old.rows o.row ≡ Some q → q.outcome ≡ Some x
    → nat_le (old.thread.clock + answer_cost o.keeps_table) (2 ^ 62) ≡ true
    → told ≡ Some (told_as e) → EndsTurn o.keeps_table patience o q.call x e old.table new.table
    → new ≡ row_concluded o q e new.table old → AnswersOutside patience told i o old new
concludes_made patience i o told old new q x e held there came room told_is ends is =
    let P : Bool → Type 0 = λ b. ConcludesHeld b patience told o old new in
    let Q : Option HistoryRow → Type 0 = λ y. ConcludesRow y patience told o old new in
    let R : Option Outcome → Type 0 = λ y. ConcludesWith y q patience told o old new in
    let S : Bool → Type 0 = λ b. ConcludesIf b patience told o q x old new in
    subst P (sym held) (subst Q (sym there) (subst R (sym came) (subst S (sym room) (e, (told_is, ends, is)))))

pub concludes_pending : (patience i : ℕ) (o : Outing) (old : OutsideParts) (q : HistoryRow) → holds_locks i o old ≡ true
    → slice_get old.rows o.row ≡ Some q → q.outcome ≡ None → AnswersOutside patience None i o old old
concludes_pending patience i o old q held there none =
    let P : Bool → Type 0 = λ b. ConcludesHeld b patience None o old old in
    let Q : Option HistoryRow → Type 0 = λ y. ConcludesRow y patience None o old old in
    let R : Option Outcome → Type 0 = λ y. ConcludesWith y q patience None o old old in
    subst P (sym held) (subst Q (sym there) (subst R (sym none) (refl, refl)))

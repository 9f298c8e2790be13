-- The operands of a line that name a descriptor by its number, one by one and in a list.
use Rattle.std.proofs.Common.{◌≡◌, ℕ, ◌+◌, Bool, true, false, ◌||◌, cond, ℤ, List, [], ◌∷◌, ◌++◌}
use Rattle.std.proofs.Common.{map, Option, Some, None, is_some, refl, ap, ◌∙◌, if◌then◌else◌}
use Rattle.std.specs.Borrow.{Bor}
use Rattle.std.specs.List.{list_any}
use Rattle.answered_calls.specs.OperandsSeen.{operand_seen}
use Rattle.answered_calls.specs.declared.operand.Operand.{Operand}
use Rattle.thread_scripts.specs.declared.line.Data.{Data}
use Rattle.thread_scripts.specs.declared.line.Number.{Number}
use Rattle.script_checks.specs.Sharing.{fixed_operand, fixed_seen, is_number, operand_naming}

pub or_false : (b : Bool) → (b || false) ≡ b
or_false true = refl
or_false false = refl

some_of : (b : Bool) (i : ℕ) (later : Option ℕ) → is_some (cond b (Some i) later) ≡ (b || is_some later)
some_of true i later = refl
some_of false i later = refl

-- one operand names it exactly when there is a first that does
pub named : (i : ℕ) (n : ℤ) (operands : List (Option ℤ))
    → is_some (operand_naming i n operands) ≡ list_any (is_number n) operands
named i n [] = refl
named i n (operand ∷ operands) =
    some_of (is_number n operand) i (operand_naming (i + 1) n operands)
    ∙ ap (λ (b : Bool). is_number n operand || b) (named (i + 1) n operands)

-- the operands that a function gives, as a list, name it exactly when one of them does
pub three : (n : ℤ) (a b c : Option (Operand Number (Bor Data)))
    → list_any (is_number n) (map fixed_operand (operand_seen a ++ (operand_seen b ++ operand_seen c)))
    ≡ (is_number n (fixed_seen a) || (is_number n (fixed_seen b) || is_number n (fixed_seen c)))
three n None None None = refl
three n None None (Some c) = or_false (is_number n (fixed_seen (Some c)))
three n None (Some b) None = refl
three n None (Some b) (Some c) =
    ap (λ (x : Bool). is_number n (fixed_seen (Some b)) || x) (or_false (is_number n (fixed_seen (Some c))))
three n (Some a) None None = refl
three n (Some a) None (Some c) =
    ap (λ (x : Bool). is_number n (fixed_seen (Some a)) || x) (or_false (is_number n (fixed_seen (Some c))))
three n (Some a) (Some b) None = refl
three n (Some a) (Some b) (Some c) =
    ap (λ (x : Bool). is_number n (fixed_seen (Some a)) || (is_number n (fixed_seen (Some b)) || x))
    (or_false (is_number n (fixed_seen (Some c))))

-- the first of them that names it has its place in the list
pub by_place : (n : ℤ) (a b c : Option (Operand Number (Bor Data)))
    → (a ≡ None → b ≡ None) × (b ≡ None → c ≡ None)
    → operand_naming 1 n (map fixed_operand (operand_seen a ++ (operand_seen b ++ operand_seen c)))
    ≡ (if is_number n (fixed_seen a) then Some 1 else if is_number n (fixed_seen b) then Some 2
    else if is_number n (fixed_seen c) then Some 3 else None)
by_place n None None None order = refl
by_place n None None (Some c) order = let no = order.1 refl in cc
by_place n None (Some b) c order = let no = order.0 refl in cc
by_place n (Some a) None None order = refl
by_place n (Some a) None (Some c) order = let no = order.1 refl in cc
by_place n (Some a) (Some b) None order = refl
by_place n (Some a) (Some b) (Some c) order = refl

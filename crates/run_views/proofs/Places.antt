-- The operands of a call, one after another, are those of the call.
use Rattle.std.proofs.Common.{◌≡◌, ◌++◌, ℕ, ℤ, List, Option, Some, None, append_assoc, append-nil}
use Rattle.std.specs.Borrow.{Bor}
use Rattle.std.specs.List.{flat_map}
use Rattle.answered_calls.specs.OperandsSeen.{operand_seen}
use Rattle.answered_calls.specs.declared.operand.Operand.{Operand}
use Rattle.run_views.specs.Calls.{operand_text}

abbrev texts_of : Option (Operand ℤ (Bor (List ℕ))) → List ℕ
texts_of o = flat_map operand_text (operand_seen o)

pub by_place : (text : List ℕ) (a b c : Option (Operand ℤ (Bor (List ℕ))))
    → ((text ++ texts_of a) ++ texts_of b) ++ texts_of c
    ≡ text ++ flat_map operand_text (operand_seen a ++ (operand_seen b ++ operand_seen c))
by_place text None None c = simp append-nil
by_place text None (Some b) c = simp (append_assoc, append-nil)
by_place text (Some a) None c = simp (append_assoc, append-nil)
by_place text (Some a) (Some b) c = simp (append_assoc, append-nil)

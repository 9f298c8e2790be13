-- Believed: a contract of a command stands on it.
-- What contracts see of the operands of a call, which borrow from it.
use Rattle.std.specs.Prelude.{◌≡◌, List, [], ◌∷◌, ◌++◌, Option, Some, None}
use Rattle.std.specs.Borrow.{Bor}
use Rattle.answered_calls.specs.Operands as said
use Rattle.answered_calls.specs.Operands.{NamedSaid, Said}
use Rattle.answered_calls.specs.declared.operand.Operand.{Operand}
use Rattle.answered_calls.specs.declared.operand.OperandValue.{OperandValue}
use Rattle.answered_calls.specs.declared.operand.OperandValue.TheVariants as value
use Rattle.answered_calls.specs.declared.operand.Operands.{Operands}

-- what an operand says
abbrev pub value_seen : {N T : Type 0} → OperandValue N (Bor T) → Said N T
value_seen (value.Descriptor n) = said.Descriptor n
value_seen (value.Number n) = said.Number n
value_seen (value.Bytes bytes) = said.Bytes bytes.now
value_seen (value.Path path) = said.Path path.now
value_seen (value.Word word) = said.Word word.now
value_seen (value.Flags flags) = said.Flags flags

-- an operand with its name
abbrev pub named_seen : {N T : Type 0} → Operand N (Bor T) → NamedSaid N T
named_seen o = (o.name.now, value_seen o.value)

-- an operand, if there is one
abbrev pub operand_seen : {N T : Type 0} → Option (Operand N (Bor T)) → List (NamedSaid N T)
operand_seen None = []
operand_seen (Some o) = named_seen o ∷ []

-- the operands of a call
abbrev pub operands_seen : {N T : Type 0} → Operands N (Bor T) → List (NamedSaid N T)
operands_seen o = operand_seen o.first ++ (operand_seen o.second ++ operand_seen o.third)

-- where an operand is lacking, there is none after it
abbrev pub AreInOrder : {N T : Type 0} → Operands N (Bor T) → Type 0
AreInOrder o = (o.first ≡ None → o.second ≡ None) × (o.second ≡ None → o.third ≡ None)

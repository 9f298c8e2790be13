-- Operands put one after another are put together.
use Rattle.std.proofs.Common.{◌≡◌, ◌++◌, ℕ, ℤ, List, Option, Some, None, map, refl}
use Rattle.std.specs.Borrow.{Bor}
use Rattle.answered_calls.specs.OperandsSeen.{operand_seen}
use Rattle.answered_calls.specs.declared.operand.Operand.{Operand}
use Rattle.serde_json.specs.Data.{Members}
use Rattle.json_views.specs.Calls.{member_of}
use Rattle.json_views.specs.Objects.{Member, with_members}

abbrev members_of : Option (Operand ℤ (Bor (List ℕ))) → List Member
members_of o = map member_of (operand_seen o)

pub by_place : (before : Members) (a b c : Option (Operand ℤ (Bor (List ℕ))))
    → with_members (with_members (with_members before (members_of a)) (members_of b)) (members_of c)
    ≡ with_members before (map member_of (operand_seen a ++ (operand_seen b ++ operand_seen c)))
by_place before None None c = refl
by_place before None (Some b) c = refl
by_place before (Some a) None c = refl
by_place before (Some a) (Some b) c = refl

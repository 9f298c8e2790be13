-- Believed: a contract of a command stands on it.
-- Which replies meet what is wanted.
use Rattle.std.specs.Prelude.{◌≡◌, Option, Some, None}
use Rattle.posix_terms.specs.declared.reply.Reply.{Reply}
use Rattle.posix_terms.specs.declared.reply.Reply.TheVariants as reply
use Rattle.expectations.specs.declared.pattern.Pattern.{Pattern}
use Rattle.expectations.specs.declared.pattern.Pattern.TheVariants as pattern
use Rattle.expectations.specs.declared.wanted.Wanted.{Wanted}
use Rattle.expectations.specs.declared.wanted.Wanted.TheVariants as want

-- an operand is the wanted one; where none is given, any is
abbrev pub IsOperand : {A : Type 0} → Option A → A → Type 0
IsOperand None given = Unit {0}
IsOperand (Some wanted) given = given ≡ wanted

-- a reply is of the pattern's kind, and so are its operands
abbrev pub Matches : Pattern → Reply → Type 0
Matches (pattern.Count n) (reply.Count given) = IsOperand n given
Matches (pattern.Data bytes) (reply.Data given) = IsOperand bytes given
Matches (pattern.Number n) (reply.Number given) = IsOperand n given
Matches (pattern.Pair a b) (reply.Pair first second) = IsOperand a first × IsOperand b second
Matches (pattern.Stat k n l) (reply.Stat kind number links) =
    IsOperand k kind × IsOperand n number × IsOperand l links
Matches pattern.Done reply.Done = Unit {0}
Matches (pattern.Fail e) (reply.Fail error) = IsOperand e error
Matches _ _ = ⊥

-- a reply matches the pattern, or does not where all others are wanted
abbrev pub Meets : Wanted → Reply → Type 0
Meets (want.Match pattern) given = Matches pattern given
Meets (want.Not pattern) given = ¬ (Matches pattern given)

-- Believed: a contract of the headline stands on it.
-- Where the steps of the threads and their outcomes come from.
use Rattle.std.specs.Prelude.{◌≡◌, ℕ, ◌<◌, ◌⊎◌, List, length, Option, Some, slice_get}
use Rattle.posix_terms.specs.declared.outcome.Given.{Given}
use Rattle.posix_terms.specs.declared.reply.Reply.{Reply}
use Rattle.posix_terms.specs.declared.step.Step.{Step}
use Rattle.posix_terms.specs.declared.step.Step.TheVariants as step

-- the next step, after the steps asked so far and the replies so
-- far. It may depend on the replies, as a script's does
abbrev pub Program : Type 0
Program = List Step → List Reply → Option Step

-- these steps, whatever the replies
abbrev pub listed : List Step → Program
listed steps asked replies = slice_get steps (length asked)

-- for each thread its program, and the outcomes that come for it
pub record Supply : Type 0 where
  pub next : ℕ → Program
  pub outcomes : ℕ → List Given

-- each program comes to its end: past the bound it asks for nothing but that
pub record Finite (given : Supply) : Type 0 where
  pub bound : ℕ → ℕ
  pub ends : (i : ℕ) (asked : List Step) (replies : List Reply) (x : Step)
      → given.next i asked replies ≡ Some x → (x ≡ step.End) ⊎ (length asked < bound i)

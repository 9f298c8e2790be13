-- Believed: a contract of the headline stands on it.
-- What a call may look at: descriptors with their descriptions but for the offsets, free numbers
-- and names; and not what is in files, pipes and pairs.
use Rattle.std.specs.Prelude.{ℕ, ℤ, List, Bool, Option, Result}
use Rattle.posix_terms.specs.declared.errno.Errno.{Errno}
use Rattle.sequential_object.specs.Object.{Node}
use Rattle.sequential_object.specs.declared.decision.Seen.{Seen}

-- what a call may look at
pub record View : Type 0 where
  -- what a descriptor refers to, or EBADF
  pub described : ℤ → Result Seen Errno
  -- the least number from this one on that is not open
  pub lowest : ℕ → Option ℕ
  -- what a path names, if anything, or why it cannot be followed
  pub named : List ℕ → Result (Option Node) Errno
  -- whether there are as many names as there may be
  pub names_full : Bool
  -- whether something is inside the directory that a path names
  pub has_entries : List ℕ → Bool
  -- how many names a file has
  pub links : ℕ → ℕ
  -- whether a description is of this object
  pub is_open : ℕ → Bool
  -- the object that is made next, if there is room for one
  pub next : Option ℕ

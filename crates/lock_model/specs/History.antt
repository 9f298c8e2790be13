-- Believed: a contract of the headline stands on it.
-- When rows are the beginning of others.
use Rattle.std.specs.Prelude.{◌≡◌, ℕ, List, [], ◌∷◌, ◌++◌, Option, Some, None, false, is_none}
use Rattle.std.specs.Prelude.{if◌then◌else◌, ◌==◌}
use Rattle.lock_model.specs.State.{Row}

-- what is not there yet agrees with anything
abbrev pub Agrees : {A : Type 0} → Option A → Option A → Type 0
Agrees None b = Unit {0}
Agrees (Some x) b = b ≡ Some x

-- an answered row is the very row
pub record RowAgrees (r q : Row) : Type 0 where
  pub turn : r.turn ≡ q.turn
  pub call : r.call ≡ q.call
  pub outcome : Agrees r.outcome q.outcome
  pub answer : Agrees r.answer q.answer
  pub closed : is_none r.answer ≡ false → q ≡ r

-- the first rows are the beginning of the second, up to outcomes and answers yet to come
abbrev pub IsBeginning : List Row → List Row → Type 0
IsBeginning [] ys = Unit {0}
IsBeginning (x ∷ xs) [] = ⊥
IsBeginning (x ∷ xs) (y ∷ ys) = RowAgrees x y × IsBeginning xs ys

-- the first list is a prefix of the second
abbrev pub IsPrefixOf : {A : Type 0} → List A → List A → Type 0
IsPrefixOf {A} xs ys = (rest : List A) × (xs ++ rest ≡ ys)

-- the rows of thread i
abbrev pub rows_of : ℕ → List Row → List Row
rows_of i [] = []
rows_of i (r ∷ rs) = if r.turn.thread == i then r ∷ rows_of i rs else rows_of i rs

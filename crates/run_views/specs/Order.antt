-- Believed: a contract of a command stands on it.
-- The rows of a run with their places, by thread and in the order of their turns.
use Rattle.std.specs.Prelude.{◌≡◌, ℕ, ◌+◌, Bool, true, false, List, [], ◌∷◌, ◌++◌}
use Rattle.std.specs.List.Sorted.{IsPermutation, IsSorted}
use Rattle.std.specs.Ordering.{nat_cmp, ordering_then}
use Rattle.std.specs.declared.cmp.Ordering.{Ordering}
use Rattle.posix_terms.specs.declared.transcript.Row.{Row}

-- a row, the thread that it is of, and its number among the rows of this thread
pub record Placed : Type 0 where
  pub thread : ℕ
  pub number : ℕ
  pub row : Row

-- the rows of a thread, the first of which has this number
abbrev pub placed_from : ℕ → ℕ → List Row → List Placed
placed_from thread number [] = []
placed_from thread number (row ∷ rows) =
    record { thread = thread; number = number; row = row } ∷ placed_from thread (number + 1) rows

-- the rows of threads, the first of which has this number, thread by thread
abbrev pub placed_rows : ℕ → List (List Row) → List Placed
placed_rows thread [] = []
placed_rows thread (rows ∷ transcripts) =
    placed_from thread 0 rows ++ placed_rows (thread + 1) transcripts

-- what the order of turns goes by: the clock, then the thread; and in a thread the number
abbrev pub turn_key : Placed → ℕ × ℕ × ℕ
turn_key p = (p.row.turn.clock, p.thread, p.number)

-- the order of turns
abbrev pub turn_cmp : Placed → Placed → Ordering
turn_cmp a b =
    let (clock, thread, number) = turn_key a in
    let (clock', thread', number') = turn_key b in
    ordering_then (ordering_then (nat_cmp clock clock') (nat_cmp thread thread'))
    (nat_cmp number number')

-- these are all rows of these transcripts, each once, in the order of their turns
pub record IsByTurn (transcripts : List (List Row)) (rows : List Placed) : Type 0 where
  pub all : IsPermutation (placed_rows 0 transcripts) rows
  pub sorted : IsSorted turn_cmp rows

-- these are the rows in the order that is asked: by turn, or thread by thread
abbrev pub AreInOrder : Bool → List (List Row) → List Placed → Type 0
AreInOrder false transcripts rows = rows ≡ placed_rows 0 transcripts
AreInOrder true transcripts rows = IsByTurn transcripts rows

-- Believed: a contract of a command stands on it.
-- Where the transcripts of two runs differ first.
use Rattle.std.specs.Prelude.{◌≡◌, ◌≢◌, ℕ, Bool, true, false, List, ◌++◌, map, slice_get, take}
use Rattle.std.specs.Prelude.{Option, Some}
use Rattle.posix_terms.specs.declared.transcript.Row.{Row}
use Rattle.comparator.specs.declared.verdict.Verdict.{Verdict}
use Rattle.comparator.specs.declared.verdict.Verdict.TheVariants as verdict

-- the entries before this place agree, and here they do not: they are two others, or only one list
-- has an entry here
pub record IsFirstDifference {A : Type 0} (xs ys : List A) (n : ℕ) : Type 0 where
  pub before : take n xs ≡ take n ys
  pub here : slice_get xs n ≢ slice_get ys n

-- so it is of the rows of a thread; of a thread that only one run has, it is the first row
abbrev pub IsFirstRow : Option (List Row) → Option (List Row) → ℕ → Type 0
IsFirstRow (Some xs) (Some ys) row = IsFirstDifference xs ys row
IsFirstRow xs ys row = row ≡ 0

-- the transcripts of the threads before this one agree, and those of this one differ first at this
-- row
pub record DifferFirst (a b : List (List Row)) (thread row : ℕ) : Type 0 where
  pub threads : IsFirstDifference a b thread
  pub rows : IsFirstRow (slice_get a thread) (slice_get b thread) row

-- what a verdict says of the transcripts of two runs
abbrev pub IsVerdictOn : List (List Row) → List (List Row) → Verdict → Type 0
IsVerdictOn a b verdict.Same = a ≡ b
IsVerdictOn a b (verdict.Differs thread row) = DifferFirst a b thread row

-- the second list begins with the first
abbrev pub IsPrefixOf : {A : Type 0} → List A → List A → Type 0
IsPrefixOf {A} xs ys = (rest : List A) × (xs ++ rest ≡ ys)

-- ## Rows without their turns

-- a row by its call and its reply alone: each has the same turn
abbrev pub without_turn : Row → Row
without_turn row = record {
  call = row.call;
  turn = record { clock = 0; thread = 0 };
  reply = row.reply;
}

-- what of transcripts is compared: all, or all but the turns of the rows
abbrev pub compared : Bool → List (List Row) → List (List Row)
compared true transcripts = transcripts
compared false transcripts = map (map without_turn) transcripts

-- what a verdict says of them, where turns count or where they do not
abbrev pub IsVerdictBy : Bool → List (List Row) → List (List Row) → Verdict → Type 0
IsVerdictBy turns a b verdict = IsVerdictOn (compared turns a) (compared turns b) verdict

-- ## The laws

-- there is one verdict on the transcripts of two runs
abbrev pub OneVerdict : Type 0
OneVerdict = (a b : List (List Row)) (v w : Verdict) → IsVerdictOn a b v → IsVerdictOn a b w → v ≡ w

-- and one where turns count, or do not
abbrev pub OneVerdictBy : Type 0
OneVerdictBy =
    (turns : Bool) (a b : List (List Row)) (v w : Verdict)
    → IsVerdictBy turns a b v → IsVerdictBy turns a b w → v ≡ w

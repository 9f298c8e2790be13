-- What readings of lines give a script, and which line is told as bad.
use Rattle.std.proofs.Common.{◌≡◌, ◌≢◌, ◌↔◌, ℕ, zero, suc, ◌+◌, ◌<◌, ◌≤◌, List, [], ◌∷◌, map, filter_map, slice_get}
use Rattle.std.proofs.Common.{nat_lt, if◌then◌else◌, Option, Some, None, Result, Ok, Err, refl, arith}
use Rattle.thread_scripts.specs.Faults.{Fault, bad_line, too_long}
use Rattle.thread_scripts.specs.Grammar.{gathered, line_before}
use Rattle.thread_scripts.specs.Laws.{AreGood, IsFirstBad}
use Rattle.thread_scripts.specs.declared.line.Line.{Line}

-- after a good line, the first bad one is one further on
later_bad : (r : Option Line) (readings : List (Option (Option Line))) (k : ℕ) → IsFirstBad readings k
    → IsFirstBad (Some r ∷ readings) (suc k)
later_bad r readings k first = record { bad = first.bad; good = good } where
  good : (j : ℕ) → j < suc k → slice_get (Some r ∷ readings) j ≢ Some None
  good zero h e = cc
  good (suc j) h e = first.good j (omega arith) e

earlier_bad : (r : Option Line) (readings : List (Option (Option Line))) (k : ℕ)
    → IsFirstBad (Some r ∷ readings) (suc k) → IsFirstBad readings k
earlier_bad r readings k first = record { bad = first.bad; good = λ j h. first.good (suc j) (omega arith) }

pub told_is_first : (n : ℕ) (readings : List (Option (Option Line))) (m : ℕ) → gathered n readings ≡ Err (bad_line m)
    → (k : ℕ) × (m ≡ n + k) × IsFirstBad readings k
told_is_first n [] m e = cc
told_is_first n (None ∷ readings) m e = let same : m ≡ n = cc in
    (0, omega arith, record { bad = refl; good = λ j h. absurd (omega arith) })
told_is_first n ((Some r) ∷ readings) m e = behind (gathered (n + 1) readings) (told_is_first (n + 1) readings m) e
  where
    behind : (others : Result (List Line) Fault)
        → (others ≡ Err (bad_line m) → (k : ℕ) × (m ≡ n + 1 + k) × IsFirstBad readings k)
        → line_before n (Some r) others ≡ Err (bad_line m) → (k : ℕ) × (m ≡ n + k) × IsFirstBad (Some r ∷ readings) k
    behind (Ok lines) first e = cc
    behind (Err fault) first e = let (k, is, bad) = first e in (suc k, omega arith, later_bad r readings k bad)

pub first_is_told : (n : ℕ) (readings : List (Option (Option Line))) (k : ℕ) → IsFirstBad readings k
    → gathered n readings ≡ Err (bad_line (n + k))
first_is_told n [] k first = cc first.bad
first_is_told n (None ∷ readings) zero first = let same : n + 0 ≡ n = omega arith in rw same refl
first_is_told n (None ∷ readings) (suc k) first = absurd (first.good 0 (omega arith) refl)
first_is_told n ((Some r) ∷ readings) zero first = cc first.bad
first_is_told n ((Some r) ∷ readings) (suc k) first =
    let told : gathered (n + 1) readings ≡ Err (bad_line (n + 1 + k)) =
    first_is_told (n + 1) readings k (earlier_bad r readings k first) in
    let same : n + 1 + k ≡ n + suc k = omega arith in rw (told, same) refl

pub never_too_long : (n : ℕ) (readings : List (Option (Option Line))) → gathered n readings ≢ Err too_long
never_too_long n [] e = cc
never_too_long n (None ∷ readings) e = cc
never_too_long n ((Some r) ∷ readings) e = behind (gathered (n + 1) readings) (never_too_long (n + 1) readings) e where
  behind : (others : Result (List Line) Fault) → others ≢ Err too_long → line_before n (Some r) others ≢ Err too_long
  behind (Ok lines) never e = cc
  behind (Err fault) never e = never e

pub gathered_good : (n : ℕ) (said : List (Option Line)) → gathered n (map Some said) ≡ Ok (filter_map (λ l. l) said)
gathered_good n [] = refl
gathered_good n (l ∷ said) = rw (gathered_good (n + 1) said) refl

pub good_gathered : (n : ℕ) (readings : List (Option (Option Line))) (lines : List Line)
    → gathered n readings ≡ Ok lines → AreGood readings lines
good_gathered n [] lines e = record { said = []; good = refl; kept = cc }
good_gathered n (None ∷ readings) lines e = cc
good_gathered n ((Some r) ∷ readings) lines e = behind (gathered (n + 1) readings) (good_gathered (n + 1) readings) e
  where
    behind : (others : Result (List Line) Fault) → ((ls : List Line) → others ≡ Ok ls → AreGood readings ls)
        → line_before n (Some r) others ≡ Ok lines → AreGood (Some r ∷ readings) lines
    behind (Err fault) good e = cc
    behind (Ok ls) good e = let rest : AreGood readings ls = good ls refl in
        record { said = r ∷ rest.said; good = cc rest.good; kept = cc (rest.kept, e) }

-- too many lines come before any bad one
pub counted : (limit count : ℕ) (others : Result (List Line) Fault) → others ≢ Err too_long
    → ((if nat_lt limit count then Err too_long else others) ≡ Err too_long) ↔ (limit < count)
counted limit count others never = grind arith

pub within : (limit count : ℕ) (others result : Result (List Line) Fault) → result ≢ Err too_long
    → ((if nat_lt limit count then Err too_long else others) ≡ result) ↔ ((count ≤ limit) × (others ≡ result))
within limit count others result never = grind arith

pub is_good : (n : ℕ) (readings : List (Option (Option Line))) (lines : List Line) → AreGood readings lines
    → gathered n readings ≡ Ok lines
is_good n readings lines good = rw good.good (cc (gathered_good n good.said, good.kept))

pub told_first_at : (readings : List (Option (Option Line))) (k : ℕ) → gathered 1 readings ≡ Err (bad_line (k + 1))
    → IsFirstBad readings k
told_first_at readings k e = let (j, is, first) = told_is_first 1 readings (k + 1) e in
    let same : j ≡ k = omega arith in rw same at first

pub first_told_at : (readings : List (Option (Option Line))) (k : ℕ) → IsFirstBad readings k
    → gathered 1 readings ≡ Err (bad_line (k + 1))
first_told_at readings k first = let same : 1 + k ≡ k + 1 = omega arith in
    rw (← same) (first_is_told 1 readings k first)

-- The line of a work says that work.
use Rattle.std.proofs.Common.{◌≡◌, ℕ, ◌+◌, ◌-◌, ◌*◌, ◌/◌, ◌%◌, ◌^◌, ◌<◌, ◌≤◌, ◌==◌, Bool}
use Rattle.std.proofs.Common.{true, false, All, List, [], ◌∷◌, ◌++◌, length, length-append}
use Rattle.std.proofs.Common.{if◌then◌else◌, Some, None, codes, decimal, refl, arith}
use Rattle.std.proofs.lemmas.Bool.{le-leb, lt-ltb, ne_eqb}
use Rattle.std.proofs.lemmas.Fmt.{decimal_by_steps}
use Rattle.std.proofs.lemmas.List.Elements.{All-append, All-cons, All-from_recursion, All-head}
use Rattle.std.proofs.lemmas.List.Elements.{All-nil, All-tail, All-weaker}
use Rattle.std.proofs.lemmas.List.Splits.{slice_split_none}
use Rattle.posix_terms.specs.declared.limits.TheConstants.Limits.{WORK}
use Rattle.thread_scripts.specs.Lines.{line_of, line_with}
use Rattle.thread_scripts.specs.Numbers.{digits_from, is_digit}
use Rattle.thread_scripts.specs.Words.{is_ascii, words_of}
use Rattle.thread_scripts.specs.declared.line.Line.TheVariants as line

-- the line of a work, without its line feed
abbrev pub work_words : ℕ → List ℕ
work_words units = codes "work " ++ decimal units

-- `0` to `9`, as bounds
abbrev IsDigit : ℕ → Type 0
IsDigit b = (48 ≤ b) × (b ≤ 57)

-- digits that are read as this number
record AreDigits (n : ℕ) (ds : List ℕ) : Type 0 where
  digits : All IsDigit ds
  some : 0 < length ds
  value : digits_from 0 ds ≡ Some n

-- the test of the script language passes it
digit_passes : (b : ℕ) → IsDigit b → is_digit b ≡ true
digit_passes b (low, high) = rw (le-leb 48 b low, le-leb b 57 high) refl

-- one more digit after others
push : (ds : List ℕ) (m k d : ℕ) → digits_from m ds ≡ Some k → d < 10
    → digits_from m (ds ++ (48 + d) ∷ []) ≡ Some (10 * k + d)
push [] m k d same small =
    let value : 10 * m + (48 + d - 48) ≡ 10 * k + d = (let one : m ≡ k = cc in omega arith) in
    rw (digit_passes (48 + d) (omega arith, omega arith), value) refl
push (b ∷ ds) m k d same small =
    at (is_digit b) refl same (λ more. push ds (10 * m + (b - 48)) k d more small)
  where
    at : (digit : Bool) → is_digit b ≡ digit
        → (if digit then digits_from (10 * m + (b - 48)) ds else None) ≡ Some k
        → (digits_from (10 * m + (b - 48)) ds ≡ Some k
        → digits_from (10 * m + (b - 48)) (ds ++ (48 + d) ∷ []) ≡ Some (10 * k + d))
        → (if digit then digits_from (10 * m + (b - 48)) (ds ++ (48 + d) ∷ []) else None)
        ≡ Some (10 * k + d)
    at true is same more = more same
    at false is same more = cc

-- a number below ten is one digit
one_digit : (n : ℕ) → n < 10 → AreDigits n ((48 + n) ∷ [])
one_digit n small =
    let value : 10 * 0 + (48 + n - 48) ≡ n = omega arith in
    let digit : IsDigit (48 + n) = (omega arith, omega arith) in
    record {
      digits = All-cons IsDigit (48 + n) [] digit (All-nil IsDigit);
      some = omega arith;
      value = rw (digit_passes (48 + n) digit, value) refl;
    }

-- any other is its last digit after those of a tenth of it
more_digits : (n : ℕ) (ds : List ℕ) → 10 ≤ n → AreDigits (n / 10) ds
    → AreDigits n (ds ++ (48 + n % 10) ∷ [])
more_digits n ds large front =
    let small : n % 10 < 10 = omega arith in
    let value : 10 * (n / 10) + n % 10 ≡ n = omega arith in
    record {
      digits =
          All-append IsDigit ds ((48 + n % 10) ∷ []) front.digits
          (All-cons IsDigit (48 + n % 10) [] (omega arith, omega arith) (All-nil IsDigit));
      some = omega (arith, length-append ds ((48 + n % 10) ∷ []));
      value = rw value at (push ds 0 (n / 10) (n % 10) front.value small);
    }

-- so a number that is written in decimal is read back
decimal_digits : (n : ℕ) → n < 2 ^ 64 → AreDigits n (decimal n)
decimal_digits = decimal_by_steps AreDigits one_digit more_digits

-- digits are none of the bytes below them
others_than : (byte : ℕ) (ds : List ℕ) → byte < 48 → All IsDigit ds
    → All (λ b. (b == byte) ≡ false) ds
others_than byte ds low digits =
    All-weaker IsDigit (λ b. (b == byte) ≡ false) (λ b digit. ne_eqb b byte (λ e. omega arith)) ds
    digits

-- a work as it may stand in a script is written in decimal digits
digits_of_work : (n : ℕ) → n ≤ WORK → AreDigits n (decimal n)
digits_of_work n fits = decimal_digits n (omega arith)

-- no line feed stands in the line
pub no_feed : (n : ℕ) → n ≤ WORK → All (λ b. (b == 10) ≡ false) (work_words n)
no_feed n fits =
    All-append (λ b. (b == 10) ≡ false) (codes "work ") (decimal n)
    (All-from_recursion (λ b. (b == 10) ≡ false) (codes "work ")
    (refl, (refl, (refl, (refl, (refl, tt))))))
    (others_than 10 (decimal n) (omega arith) (digits_of_work n fits).digits)

-- digits are ASCII
digits_are_ascii : (ds : List ℕ) → All IsDigit ds → is_ascii ds ≡ true
digits_are_ascii [] digits = refl
digits_are_ascii (b ∷ ds) digits =
    let first = All-head IsDigit b ds digits in
    rw (lt-ltb b 128 (omega (arith, first.1)), digits_are_ascii ds (All-tail IsDigit b ds digits))
    refl

-- the words of the line
pub words_of_work : (n : ℕ) → n ≤ WORK
    → words_of (work_words n) ≡ Some (codes "work" ∷ decimal n ∷ [])
unfolding words_of
words_of_work n fits =
    let are = digits_of_work n fits in
    let some : (length (decimal n) == 0) ≡ false =
    ne_eqb (length (decimal n)) 0 (λ e. omega (arith, are.some)) in
    rw (
      digits_are_ascii (decimal n) are.digits,
      slice_split_none (λ b. b == 32) (decimal n)
          (others_than 32 (decimal n) (omega arith) are.digits),
      some,
    ) refl

-- what it says
pub work_says : (labels : List (List ℕ × ℕ)) (place n : ℕ) → n ≤ WORK
    → line_of labels place (work_words n) ≡ Some (Some (line.Work n))
unfolding line_with
work_says labels place n fits =
    let are = digits_of_work n fits in
    let some : (length (decimal n) == 0) ≡ false =
    ne_eqb (length (decimal n)) 0 (λ e. omega (arith, are.some)) in
    rw (words_of_work n fits, some, are.value, le-leb n WORK fits) refl

-- The numbers of bad lines: they are within the text, and the front of them is what is shown.
use Rattle.std.proofs.Common.{◌≡◌, ℕ, zero, suc, ◌+◌, ◌-◌, ◌<◌, ◌≤◌, min, List, [], ◌∷◌, length}
use Rattle.std.proofs.Common.{map, take, get_or, Option, Some, None, refl, ap, sym, ◌∙◌, inl, inr}
use Rattle.std.proofs.Common.{arith}
use Rattle.std.proofs.lemmas.List.{get_or-take, length-map, length-take, take_all}
use Rattle.std.proofs.lemmas.Bool.{cases_lt}
use Rattle.thread_scripts.specs.Grammar.{readings_from, readings_of}
use Rattle.thread_scripts.specs.Labels.{place_after}
use Rattle.thread_scripts.specs.Readings.{said}
use Rattle.thread_scripts.specs.Words.{words_of}
use Rattle.thread_scripts.specs.declared.line.Line.{Line}
use Rattle.thread_scripts.specs.declared.readings.LineReading.{LineReading}
use Rattle.script_checks.specs.Checks.{bad_from}

counted : (labels : List (List ℕ × ℕ)) (place : ℕ) (texts : List (List ℕ))
    → length (readings_from labels place texts) ≡ length texts
counted labels place [] = refl
counted labels place (text ∷ texts) =
    ap (λ n. suc n) (counted labels (place_after place (words_of text)) texts)

-- each line says something, or is bad
pub as_many : {T : Type 0} (now : T → List ℕ) (texts : List T) (readings : List LineReading)
    (lines : List (List ℕ)) → map said readings ≡ readings_of lines → map now texts ≡ lines
    → length readings ≡ length texts
as_many now texts readings lines says are =
    sym (length-map readings said) ∙ ap length says ∙ counted _ 0 lines ∙ sym (ap length are)
    ∙ length-map texts now

bad_within : (n : ℕ) (readings : List (Option (Option Line))) (k d : ℕ)
    → k < length (bad_from n readings)
    → (n ≤ get_or (bad_from n readings) k d)
    × (get_or (bad_from n readings) k d < n + length readings)
bad_within n [] k d h = absurd (omega arith)
bad_within n (None ∷ readings) zero d h = (omega arith, omega arith)
bad_within n (None ∷ readings) (suc k) d h = let more =
    bad_within (n + 1) readings k d (omega arith) in (omega (arith, more.0), omega (arith, more.1))
bad_within n ((Some r) ∷ readings) k d h = let more = bad_within (n + 1) readings k d h in
    (omega (arith, more.0), omega (arith, more.1))

-- the numbers in front of the bad ones are those of lines of the text
pub front_within : {T : Type 0} (now : T → List ℕ) (texts : List T) (readings : List LineReading)
    (lines : List (List ℕ)) (bad : List ℕ) (count : ℕ)
    → map said readings ≡ readings_of lines → map now texts ≡ lines
    → bad ≡ bad_from 1 (map said readings)
    → (k d : ℕ) → k < length (take count bad)
    → (1 ≤ get_or (take count bad) k d) × (get_or (take count bad) k d ≤ length texts)
front_within now texts readings lines bad count says are is k d h =
    let same : length readings ≡ length texts = as_many now texts readings lines says are in
    let in_front : k < count = omega (arith, length-take count bad) in
    let in_bad : k < length bad = omega (arith, length-take count bad) in
    let in_all : k < length (bad_from 1 (map said readings)) = rw is at in_bad in
    let at : get_or (take count bad) k d ≡ get_or (bad_from 1 (map said readings)) k d =
    get_or-take count bad k d in_front ∙ ap (λ (ns : List ℕ). get_or ns k d) is in
    let bounds = bad_within 1 (map said readings) k d in_all in
    rw at (bounds.0, omega (arith, bounds.1, length-map readings said))

-- as many as there are, or this many if there are more
pub front_of : (bad : List ℕ) (most : ℕ) → take (min (length bad) most) bad ≡ take most bad
front_of bad most = elim (cases_lt most (length bad)) [
  | inl more ↦ let is : min (length bad) most ≡ most = omega arith in ap (λ (n : ℕ). take n bad) is
  | inr fewer ↦ let is : min (length bad) most ≡ length bad = omega arith in
      rw is (take_all (length bad) bad (omega arith) ∙ sym (take_all most bad fewer))
]

pub left_of : (n most : ℕ) → n - min n most ≡ n - most
left_of n most = omega arith

pub shown_front : (shown bad all : List ℕ) (count n : ℕ) → shown ≡ take count bad → bad ≡ all
    → length bad ≡ n → count ≡ min n 20 → shown ≡ take 20 all
shown_front shown bad all count n front is long counts =
    let same : take count bad ≡ take (min (length bad) 20) bad =
    ap (λ (k : ℕ). take k bad) (counts ∙ ap (λ (k : ℕ). min k 20) (sym long)) in
    front ∙ same ∙ front_of bad 20 ∙ ap (λ (ns : List ℕ). take 20 ns) is

pub rest_left : (bad all : List ℕ) (count n m : ℕ) → bad ≡ all → length bad ≡ n → m ≡ n
    → count ≡ min n 20 → m - count ≡ length all - 20
rest_left bad all count n m is long again counts = let same : length bad ≡ length all =
    ap length is in omega arith

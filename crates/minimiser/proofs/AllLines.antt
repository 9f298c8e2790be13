-- Where all lines of a text are kept, it has the same lines, and a line the same number.
use Rattle.std.proofs.Common.{◌≡◌, ◌∙◌, ℕ, zero, suc, ◌+◌, ◌-◌, ◌<◌, Bool, true, false, List, []}
use Rattle.std.proofs.Common.{◌++◌, length, map, take, ap, refl, sym, subst, arith}
use Rattle.std.proofs.Common.{append_assoc, length-append, slice_get, Option, Some, None, Ok, Err}
use Rattle.std.proofs.Common.{Result, ◌∷◌}
use Rattle.std.proofs.Common.{option_map, count_by, filter_map, ◌==◌, ◌⊎◌, inl, inr, ◌≤◌}
use Rattle.std.specs.Prelude.{cond, if◌then◌else◌, is_some, slice_index_or}
use Rattle.std.specs.List.{cons_option, join_with_byte, range_with_len, slice_split}
use Rattle.std.proofs.lemmas.List.{length-take-le}
use Rattle.std.proofs.lemmas.List.{append-nil}
use Rattle.std.proofs.lemmas.List.Sums.{sum_by-cons}
use Rattle.std.proofs.lemmas.Option.{slice_get-map}
use Rattle.std.proofs.Math.Seq.{get_or-append_seam, take-append_seam}
use Rattle.std.proofs.lemmas.List.Splits.{join_with_byte-slice_split}
use Rattle.std.proofs.lemmas.Bool.{eqb-false}
use Rattle.std.proofs.lemmas.Bool.Decides.{nat_tests}
use Rattle.thread_scripts.specs.Words.{lines_of, without_last_feed, words_of}
use Rattle.expectations.specs.Expected.{AreExpectations, expectation_below, expected_at}
use Rattle.expectations.specs.Expected.{expected_below, last_counted, seen_of, words_expected}
use Rattle.expectations.specs.Words.{wanted_of}
use Rattle.expectations.specs.declared.above.Above.{Above}
use Rattle.expectations.specs.declared.fault.Reason.{Reason}
use Rattle.expectations.specs.declared.fault.Reason.TheVariants as reason
use Rattle.expectations.specs.declared.wanted.Wanted.{Wanted}
use Rattle.expectations.specs.declared.expected.Expectation.{Expectation}
use Rattle.minimiser.specs.Parts.{is_delay, is_there, kept_line, part_of, units_among}
use Rattle.minimiser.specs.declared.part.Part.{Part}
use Rattle.minimiser.specs.declared.part.Part.TheVariants as part
use Rattle.minimiser.specs.Reductions.{count_kept, kept_lines, kept_of, line_now, place_now}
use Rattle.minimiser.specs.Reductions.{with_lines}
use Rattle.minimiser.specs.Rounds.{all_of}
use Rattle.minimiser.specs.declared.target.Place.{Place}

-- ## Lines

whole_line : (line : List ℕ) → kept_line (part_of line) line ≡ line ++ 10 ∷ []
whole_line line = at (is_delay line) where
  at : (b : Bool) → kept_line (if b then part.Delay (units_among (words_of line)) else part.Line) line
      ≡ line ++ 10 ∷ []
  at true = refl
  at false = refl

-- all of some lines are these, each with its line feed
all_lines : (line : List ℕ) (lines : List (List ℕ))
    → kept_lines (map part_of (line ∷ lines)) (line ∷ lines)
    ≡ join_with_byte 10 (line ∷ lines) ++ 10 ∷ []
all_lines line [] = append-nil (kept_line (part_of line) line) ∙ whole_line line
all_lines line (next ∷ lines) =
    let rest = kept_lines (map part_of (next ∷ lines)) (next ∷ lines) in
    let joined = join_with_byte 10 (next ∷ lines) in
    ap (λ (first : List ℕ). first ++ rest) (whole_line line)
    ∙ append_assoc line (10 ∷ []) rest
    ∙ ap (λ (others : List ℕ). line ++ 10 ∷ others) (all_lines next lines)
    ∙ sym (append_assoc line (10 ∷ joined) (10 ∷ []))

without_fed : (text : List ℕ) → without_last_feed (text ++ 10 ∷ []) ≡ text
without_fed text =
    let last : length (text ++ 10 ∷ []) - 1 ≡ length text =
    omega (arith, length-append text (10 ∷ [])) in
    rw (last, get_or-append_seam text 10 [] 0) (take-append_seam text (10 ∷ []))

-- a text with a byte has the lines that it is cut into
some_lines : (b : ℕ) (rest : List ℕ)
    → lines_of (b ∷ rest) ≡ slice_split (λ b. b == 10) (without_last_feed (b ∷ rest))
some_lines b rest =
    let some : (length (b ∷ rest) == 0) ≡ false = grind (arith, nat_tests) in
    rw some refl

-- a text that a line feed ends has those that the rest is cut into
fed_lines : (text : List ℕ) → lines_of (text ++ 10 ∷ []) ≡ slice_split (λ b. b == 10) text
fed_lines [] = refl
fed_lines (b ∷ rest) =
    some_lines b (rest ++ 10 ∷ []) ∙ ap (slice_split (λ b. b == 10)) (without_fed (b ∷ rest))

all_same : (text : List ℕ) (lines : List (List ℕ)) → slice_split (λ b. b == 10) text ≡ lines
    → lines_of (kept_lines (map part_of lines) lines) ≡ lines
all_same text [] is = refl
all_same text (line ∷ lines) is =
    let whole : join_with_byte 10 (line ∷ lines) ≡ text =
    ap (join_with_byte 10) (sym is) ∙ join_with_byte-slice_split 10 text in
    ap lines_of (all_lines line lines ∙ ap (λ (all : List ℕ). all ++ 10 ∷ []) whole)
    ∙ fed_lines text ∙ is

-- where all lines of a text are kept, it has the same lines
pub lines_same : (text : List ℕ)
    → lines_of (kept_lines (map part_of (lines_of text)) (lines_of text)) ≡ lines_of text
lines_same [] = refl
lines_same (b ∷ rest) =
    all_same (without_last_feed (b ∷ rest)) (lines_of (b ∷ rest)) (sym (some_lines b rest))

-- ## The lines of expectations

-- the first of what is found for these numbers is for the first of them, or for a later one
first_or_more : {Y : Type 0} (first : Option Y) (others : List Y) (i : ℕ) (y : Y)
    → slice_get (cons_option first others) i ≡ Some y
    → (first ≡ Some y) ⊎ ((j : ℕ) × (slice_get others j ≡ Some y))
first_or_more None others i y at = inr (i, at)
first_or_more (Some z) others zero y at = inl at
first_or_more (Some z) others (suc i) y at = inr (i, at)

among : {Y : Type 0} (find : ℕ → Option Y) (from count i : ℕ) (y : Y)
    → slice_get (filter_map find (range_with_len from count)) i ≡ Some y
    → (k : ℕ) × (k < from + count) × (find k ≡ Some y)
among find from zero i y at = absurd (cc at)
among find from (suc count) i y at =
    elim (first_or_more (find from) (filter_map find (range_with_len (from + 1) count)) i y at) [
      | inl here ↦ (from, omega arith, here)
      | inr more ↦
          let later = among find (from + 1) count more.0 y more.1 in
          (later.0, omega (arith, later.1), later.2)
    ]

by_tests : {X : Type 0} (a b : Bool) (x e : X) (first second : Reason)
    → (if a then Err first else if b then Ok x else Err second) ≡ Ok e → (a ≡ false) × (x ≡ e)
by_tests true b x e first second is = absurd (cc is)
by_tests false true x e first second is = (refl, cc is)
by_tests false false x e first second is = absurd (cc is)

-- an expectation below these lines, and that of a call among them
pub record IsBelow (above : Above) (e : Expectation) : Type 0 where
  pub line : e.line ≡ above.lines + 1
  pub call : e.call ≡ above.last
  pub some : (above.last == 0) ≡ false

line_below : (above : Above) (wanted : Option Wanted) (e : Expectation)
    → expectation_below above wanted ≡ Ok e → IsBelow above e
line_below above None e is = absurd (cc is)
line_below above (Some wanted) e is =
    let made : Expectation = record {
      line = above.lines + 1;
      call = above.last;
      place = above.place;
      wanted = wanted;
    } in
    let tests =
    by_tests (above.last == 0) above.is_call made e reason.NothingAbove reason.NotACall is in
    record {
      line = ap (λ (e : Expectation). e.line) (sym tests.1);
      call = ap (λ (e : Expectation). e.call) (sym tests.1);
      some = tests.0;
    }

expected_is_below : (above : Above) (words : Option (List (List ℕ))) (e : Expectation)
    → expected_below above words ≡ Some (Ok e) → IsBelow above e
expected_is_below above None e is = absurd (cc is)
expected_is_below above (Some words) e is = line_below above (wanted_of words) e (cc is)

-- a number from 1 to this one
abbrev pub IsNumber : ℕ → ℕ → Type 0
IsNumber count n = (k : ℕ) × (k < count) × (n ≡ k + 1)

numbers : (texts : List (List ℕ)) (k : ℕ) (e : Expectation) → k < length texts
    → IsBelow (seen_of (take k texts)) e
    → IsNumber (length texts) e.call × IsNumber (length texts) e.line
numbers texts k e inside below =
    let last = last_counted (take k texts) in
    let some : last ≡ 0 → ⊥ = eqb-false last 0 below.some in
    let within : k ≤ length texts = omega (arith, inside) in
    let count = length-take-le k texts within in (
      (last - 1, omega (arith, some, count, inside), omega (arith, some, below.call)),
      (k, inside, omega (arith, below.line, count)),
    )

pub lines_within : (texts : List (List ℕ)) (all : List Expectation) (i : ℕ) (e : Expectation)
    → AreExpectations texts all → slice_get all i ≡ Some e
    → IsNumber (length texts) e.call × IsNumber (length texts) e.line
lines_within texts all i e are at =
    let ok : Expectation → Result Expectation Reason = λ (e : Expectation). Ok e in
    let mapped : slice_get (map ok all) i ≡ Some (Ok e) =
    slice_get-map ok all i ∙ ap (option_map ok) at in
    let here : slice_get (filter_map (expected_at texts) (range_with_len 0 (length texts))) i
    ≡ Some (Ok e) =
    ap (λ (es : List (Result Expectation Reason)). slice_get es i) are ∙ mapped in
    let found = among (expected_at texts) 0 (length texts) i (Ok e) here in
    let k = found.0 in
    let words = words_expected (slice_index_or texts k []) in
    let below = expected_is_below (seen_of (take k texts)) words e found.2 in
    numbers texts k e (omega (arith, found.1)) below

-- ## Where a line stands among all

kept_at : (texts : List (List ℕ)) (thread : ℕ) (text : List ℕ) → slice_get texts thread ≡ Some text
    → kept_of (all_of texts) thread ≡ Some (map part_of (lines_of text))
kept_at [] thread text at = absurd (cc at)
kept_at (first ∷ texts) zero text at =
    let same : first ≡ text = cc at in
    ap (λ (t : List ℕ). Some (map part_of (lines_of t))) same
kept_at (first ∷ texts) (suc thread) text at = kept_at texts thread text at

threads_before : (texts : List (List ℕ)) (thread : ℕ) (text : List ℕ)
    → slice_get texts thread ≡ Some text → count_by is_some (take thread (all_of texts)) ≡ thread
threads_before [] thread text at = absurd (cc at)
threads_before (first ∷ texts) zero text at = refl
threads_before (first ∷ texts) (suc thread) text at =
    let one : Option (List Part) → ℕ = λ (t : Option (List Part)). cond (is_some t) 1 0 in
    let here : Option (List Part) = Some (map part_of (lines_of first)) in
    omega (
      arith,
      sum_by-cons one here (take thread (all_of texts)),
      threads_before texts thread text at,
    )

there_of : (line : List ℕ) → is_there (part_of line) ≡ true
there_of line = at (is_delay line) where
  at : (b : Bool)
      → is_there (if b then part.Delay (units_among (words_of line)) else part.Line) ≡ true
  at true = refl
  at false = refl

there_at : (lines : List (List ℕ)) (k : ℕ) → k < length lines
    → is_there (slice_index_or (map part_of lines) k part.Gone) ≡ true
there_at [] k inside = absurd (omega (arith, inside))
there_at (line ∷ lines) zero inside = there_of line
there_at (line ∷ lines) (suc k) inside = there_at lines k (omega (arith, inside))

count_all : (lines : List (List ℕ)) (n : ℕ) → n ≤ length lines
    → count_kept (take n (map part_of lines)) ≡ n
count_all lines zero few = refl
count_all [] (suc n) few = absurd (omega (arith, few))
count_all (line ∷ lines) (suc n) few =
    let one : Part → ℕ = λ (p : Part). cond (is_there p) 1 0 in
    let here : one (part_of line) ≡ 1 = ap (λ (b : Bool). cond b 1 0) (there_of line) in
    omega (
      arith,
      sum_by-cons one (part_of line) (take n (map part_of lines)),
      here,
      count_all lines n (omega (arith, few)),
    )

line_among : (lines : List (List ℕ)) (line : ℕ) → IsNumber (length lines) line
    → line_now (map part_of lines) line ≡ Some line
line_among lines line (k, inside, is) =
    subst (λ (m : ℕ). line_now (map part_of lines) m ≡ Some m) (sym is) now
  where
    now : line_now (map part_of lines) (k + 1) ≡ Some (k + 1)
    now =
        let back : k + 1 - 1 ≡ k = omega arith in
        let few : k + 1 ≤ length lines = omega (arith, inside) in
        rw (back, there_at lines k inside) (ap Some (count_all lines (k + 1) few))

pub all_kept : (texts : List (List ℕ)) (place : Place) (text : List ℕ)
    → slice_get texts place.thread ≡ Some text
    → IsNumber (length (lines_of text)) place.call × IsNumber (length (lines_of text)) place.line
    → place_now (all_of texts) place ≡ Some place
all_kept texts place text at within =
    let lines = lines_of text in
    let call = line_among lines place.call within.0 in
    let line = line_among lines place.line within.1 in
    rw (kept_at texts place.thread text at, threads_before texts place.thread text at)
    (ap (λ (o : Option ℕ).
    with_lines place.thread o (line_now (map part_of lines) place.line)) call
    ∙ ap (with_lines place.thread (Some place.call)) line)

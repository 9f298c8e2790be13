-- That expectations stand for lines of a script that make calls.
use Rattle.std.proofs.Common.{◌≡◌, ◌∙◌, ap, ℕ, zero, suc, ◌+◌, ◌-◌, ◌<◌, ◌≤◌, Bool, true, false, All, List, [], ◌∷◌}
use Rattle.std.proofs.Common.{codes, bytes_eq, length, map, take, filter_map, count_by, slice_get, slice_index_or}
use Rattle.std.proofs.Common.{Option, Some, None, option_and_then, option_map, if◌then◌else◌, Result, Ok, Err, refl}
use Rattle.std.proofs.Common.{sym, arith, add-one, nat_lt, ◌==◌}
use Rattle.std.proofs.lemmas.Bool.{ltb-false, ltb-true}
use Rattle.std.proofs.lemmas.List.Elements.{All-cons}
use Rattle.std.proofs.lemmas.List.{get_or-take, get_or_past, length-take-le}
use Rattle.std.proofs.lemmas.List.Sums.{sum_by-cons}
use Rattle.std.proofs.lemmas.Slice.Eq.{bytes_eq-Decides}
use Rattle.std.specs.Option.{is_some}
use Rattle.std.specs.List.{cons_option}
use Rattle.posix_terms.specs.declared.call.CallKind.{CallKind}
use Rattle.thread_scripts.specs.CallLines.{CallLine}
use Rattle.thread_scripts.specs.Calls.{call_line, kind_named}
use Rattle.thread_scripts.specs.Grammar.{readings_from, readings_of}
use Rattle.thread_scripts.specs.Labels.{labels_from, place_after}
use Rattle.thread_scripts.specs.Laws.{AreGood, spoken, words_read}
use Rattle.thread_scripts.specs.Lines.{line_of, line_with, words_say}
use Rattle.thread_scripts.specs.Words.{words_of}
use Rattle.thread_scripts.specs.declared.line.Line.{Line}
use Rattle.thread_scripts.specs.declared.line.Line.TheVariants as line
use Rattle.expectations.specs.Expected.{call_first, counts, expectation_below, expected_at, expected_below, is_call}
use Rattle.expectations.specs.Expected.{is_quiet, last_counted, seen_of, with_line, words_expected}
use Rattle.expectations.specs.Laws.{IsOfCall}
use Rattle.expectations.specs.Words.{wanted_of}
use Rattle.expectations.specs.declared.above.Above.{Above}
use Rattle.expectations.specs.declared.expected.Expectation.{Expectation}
use Rattle.expectations.specs.declared.fault.Reason.{Reason}
use Rattle.expectations.specs.declared.fault.Reason.TheVariants as reason
use Rattle.expectations.specs.declared.wanted.Wanted.{Wanted}
use Rattle.expectations.proofs.Lines.{one_line}

-- a word that names a call is none of the others
other_word : (text other : List ℕ) (kind : CallKind) → kind_named other ≡ None → kind_named text ≡ Some kind
    → bytes_eq text other ≡ false
other_word text other kind none some = at (bytes_eq text other) refl where
  at : (b : Bool) → bytes_eq text other ≡ b → b ≡ false
  at false e = refl
  at true e =
      let same : text ≡ other = (bytes_eq-Decides text other).0 e in
      let both : kind_named text ≡ None = ap kind_named same ∙ none in
      cc

-- what the line of a call says, where it is good
call_said : (labels : List (List ℕ × ℕ)) (place : ℕ) (text : List ℕ) (operands : List (List ℕ)) (kind : CallKind)
    (said : Option Line) → kind_named text ≡ Some kind → words_say labels place (text ∷ operands) ≡ Some said
    → (call : CallLine) × (said ≡ Some (line.Call call))
unfolding line_with
call_said labels place text operands kind said some good = at (call_line kind operands) (rw (
  other_word text (codes "work") kind refl some,
  other_word text (codes "end") kind refl some,
  other_word text (codes "set") kind refl some,
  other_word text (codes "add") kind refl some,
  other_word text (codes "setb") kind refl some,
  other_word text (codes "label") kind refl some,
  other_word text (codes "jump") kind refl some,
  other_word text (codes "jzero") kind refl some,
  other_word text (codes "jfail") kind refl some,
  some,
) at good) where
  at : (call : Option CallLine) → option_map Some (option_map line.Call call) ≡ Some said → (call : CallLine)
      × (said ≡ Some (line.Call call))
  at None bad = cc
  at (Some call) good = (call, cc)

-- what a line says that makes a call, and its words
record SaysCall (said : Option Line) (words : Option (List (List ℕ))) : Type 0 where
  call : CallLine
  line : said ≡ Some (line.Call call)
  seen : List (List ℕ)
  all : words ≡ Some seen
  spoke : spoken words ≡ Some seen

first_said : (labels : List (List ℕ × ℕ)) (place : ℕ) (words : Option (List (List ℕ))) (said : Option Line)
    → option_and_then (words_say labels place) words ≡ Some said → call_first words ≡ true → SaysCall said words
first_said labels place None said good first = cc
first_said labels place (Some []) said good first = cc
first_said labels place (Some (text ∷ operands)) said good first = at (kind_named text) refl first where
  at : (kind : Option CallKind) → kind_named text ≡ kind → is_some kind ≡ true → SaysCall said (Some (text ∷ operands))
  at None named some = cc
  at (Some kind) named some =
      let found = call_said labels place text operands kind said named good in
      record { call = found.0; line = found.1; seen = text ∷ operands; all = refl; spoke = refl }

abbrev weight : List ℕ → ℕ
weight text = if counts text then 1 else 0

count_loud : (text : List ℕ) (texts : List (List ℕ)) → is_quiet text ≡ false
    → count_by counts (text ∷ texts) ≡ suc (count_by counts texts)
count_loud text texts loud =
    let one : weight text ≡ 1 = rw loud refl in
    omega (arith, sum_by-cons weight text texts, one)

count_quiet : (text : List ℕ) (texts : List (List ℕ)) → is_quiet text ≡ true
    → count_by counts (text ∷ texts) ≡ count_by counts texts
count_quiet text texts quiet =
    let none : weight text ≡ 0 = rw quiet refl in
    omega (arith, sum_by-cons weight text texts, none)

-- a line that makes a call, and the words from which it was read
pub record MakesCall (script : List Line) (read : List (List (List ℕ))) (n : ℕ) (words : Option (List (List ℕ))) : Type
    0 where
  pub call : CallLine
  pub line : slice_get script n ≡ Some (line.Call call)
  pub seen : slice_get read n ≡ words

spoken_line : {X : Type 0} (said : Option X) (first : Option X) → option_map Some said ≡ Some first → (l : X)
    × (first ≡ Some l)
spoken_line None first same = cc
spoken_line (Some l) first same = (l, cc)

first_line : (said : Option Line) (words : Option (List (List ℕ))) (lines : List Line) (read : List (List (List ℕ)))
    → SaysCall said words → MakesCall (cons_option said lines) (cons_option (spoken words) read) 0 words
first_line said words lines read says =
    record { call = says.call; line = rw says.line refl; seen = rw says.spoke (sym says.all) }

-- the lines of a script, and those of its text
pub stands : (labels : List (List ℕ × ℕ)) (place : ℕ) (texts : List (List ℕ)) (said : List (Option Line)) (j : ℕ)
    → readings_from labels place texts ≡ map Some said → j < length texts → is_call (slice_index_or texts j []) ≡ true
    → MakesCall (filter_map (λ l. l) said) (words_read texts) (count_by counts (take j texts))
    (words_of (slice_index_or texts j []))
stands labels place [] said j good inside call = absurd (omega arith)
stands labels place (text ∷ texts) [] j good inside call = cc
stands labels place (text ∷ texts) (first ∷ said) zero good inside call =
    let head : line_of labels place text ≡ Some first = cc in
    first_line first (words_of text) (filter_map (λ l. l) said) (words_read texts)
    (first_said labels place (words_of text) first head call)
stands labels place (text ∷ texts) (first ∷ said) (suc j) good inside call =
    let head : line_of labels place text ≡ Some first = cc in
    let rest : readings_from labels (place_after place (words_of text)) texts ≡ map Some said = cc in
    at (words_of text) refl head (stands labels (place_after place (words_of text)) texts said j rest (omega arith)
    call) where
      at : (words : Option (List (List ℕ))) → words_of text ≡ words
          → option_and_then (words_say labels place) words ≡ Some first
          → MakesCall (filter_map (λ l. l) said) (words_read texts) (count_by counts (take j texts))
          (words_of (slice_index_or texts j []))
          → MakesCall (filter_map (λ l. l) (first ∷ said)) (words_read (text ∷ texts))
          (count_by counts (text ∷ take j texts)) (words_of (slice_index_or texts j []))
      at None is head later = cc
      at (Some []) is head later =
          let none : first ≡ None = cc in
          let count = count_quiet text (take j texts) (rw is refl) in
          record { call = later.call; line = rw (none, count) later.line; seen = rw (is, count) later.seen }
      at (Some (word ∷ operands)) is head later =
          let some = spoken_line _ first head in
          let count = count_loud text (take j texts) (rw is refl) in
          record { call = later.call; line = rw (some.1, count) later.line; seen = rw (is, count) later.seen }

-- how many lines are counted, by the last that is
counted : (texts : List (List ℕ)) (k : ℕ) → k ≤ length texts → 0 < last_counted (take k texts)
    → count_by counts (take k texts) ≡ suc (count_by counts (take (last_counted (take k texts) - 1) texts))
counted texts zero inside some = absurd (omega arith)
counted texts (suc k) inside some =
    let line : seen_of (take (suc k) texts) ≡ with_line (seen_of (take k texts)) (slice_index_or texts k []) =
    rw add-one at (one_line texts k (omega arith)) in
    at (is_quiet (slice_index_or texts k [])) refl line (length-take-le k texts (omega arith))
    (counted texts k (omega arith)) where
      at : (quiet : Bool) → is_quiet (slice_index_or texts k []) ≡ quiet
          → seen_of (take (suc k) texts) ≡ with_line (seen_of (take k texts)) (slice_index_or texts k [])
          → length (take k texts) ≡ k
          → (0 < last_counted (take k texts)
          → count_by counts (take k texts) ≡ suc (count_by counts (take (last_counted (take k texts) - 1) texts)))
          → count_by counts (take (suc k) texts)
          ≡ suc (count_by counts (take (last_counted (take (suc k) texts) - 1) texts))
      at true quiet line long before =
          let same = rw quiet at line in
          let last : last_counted (take (suc k) texts) ≡ last_counted (take k texts) =
          ap (λ (a : Above). a.last) same in
          let place : count_by counts (take (suc k) texts) ≡ count_by counts (take k texts) =
          ap (λ (a : Above). a.place) same in
          rw (place, last) (before (omega arith))
      at false loud line long before =
          let same = rw loud at line in
          let last : last_counted (take (suc k) texts) ≡ length (take k texts) + 1 = ap (λ (a : Above). a.last) same in
          let place : count_by counts (take (suc k) texts) ≡ count_by counts (take k texts) + 1 =
          ap (λ (a : Above). a.place) same in
          let here : last_counted (take (suc k) texts) - 1 ≡ k = omega arith in
          rw (place, here) (omega arith)

-- what a good expectation has of the lines above it
record IsGood (above : Above) (e : Expectation) : Type 0 where
  some : 0 < above.last
  call : above.last ≡ e.call
  place : above.place ≡ e.place
  is_call : above.is_call ≡ true

positive : (n : ℕ) → (n == 0) ≡ false → 0 < n
positive zero same = cc
positive (suc n) same = omega arith

abbrev made : Above → Wanted → Expectation
made above wanted = record { line = above.lines + 1; call = above.last; place = above.place; wanted = wanted }

good_below : (above : Above) (words : Option (List (List ℕ))) (e : Expectation)
    → expected_below above words ≡ Some (Ok e) → IsGood above e
good_below above None e good = cc
good_below above (Some words) e good = at (wanted_of words) good where
  picked : (wanted : Wanted) (zero call : Bool) → (above.last == 0) ≡ zero → above.is_call ≡ call
      → Some (if zero then Err reason.NothingAbove else if call then Ok (made above wanted) else Err reason.NotACall)
      ≡ Some (Ok e) → IsGood above e
  picked wanted true call none is good = cc
  picked wanted false false some is good = cc
  picked wanted false true some is good =
      let same : made above wanted ≡ e = cc in
      record {
        some = positive above.last some;
        call = ap (λ (x : Expectation). x.call) same;
        place = ap (λ (x : Expectation). x.place) same;
        is_call = is;
      }

  at : (wanted : Option Wanted) → Some (expectation_below above wanted) ≡ Some (Ok e) → IsGood above e
  at None good = cc
  at (Some wanted) good = picked wanted (above.last == 0) above.is_call refl refl good

-- a line with a good expectation is one of the text's
inside_text : (texts : List (List ℕ)) (k : ℕ) (e : Expectation) → expected_at texts k ≡ Some (Ok e) → k < length texts
inside_text texts k e good = at (nat_lt k (length texts)) refl where
  at : (less : Bool) → nat_lt k (length texts) ≡ less → k < length texts
  at true less = ltb-true k (length texts) less
  at false more =
      let past : slice_index_or texts k [] ≡ [] = get_or_past texts k [] (ltb-false k (length texts) more) in
      let none = rw past at good in
      absurd cc

pub of_call : (texts : List (List ℕ)) (script : List Line) (k : ℕ) (e : Expectation)
    → AreGood (readings_of texts) script → expected_at texts k ≡ Some (Ok e) → IsOfCall texts script e
of_call texts script k e readings good =
    let inside = inside_text texts k e good in
    let found = good_below (seen_of (take k texts)) (words_expected (slice_index_or texts k [])) e good in
    let long : length (take k texts) ≡ k = length-take-le k texts (omega arith) in
    let within : last_counted (take k texts) - 1 < k = omega (arith, found.some) in
    let line : is_call (slice_index_or texts (last_counted (take k texts) - 1) []) ≡ true =
    rw (get_or-take k texts (last_counted (take k texts) - 1) [] within) at found.is_call in
    let makes = stands (labels_from 0 texts) 0 texts readings.said (last_counted (take k texts) - 1) readings.good
    (omega arith) line in
    let count = counted texts k (omega arith) found.some in
    let place : e.place - 1 ≡ count_by counts (take (last_counted (take k texts) - 1) texts) =
    omega (arith, found.place, count) in
    let call : e.call - 1 ≡ last_counted (take k texts) - 1 = omega (arith, found.call) in
    record {
      place = record {
        from_one = omega (arith, found.place, count);
        call = makes.call;
        line = rw (readings.kept, place) makes.line;
      };
      from_one = omega (arith, found.call, found.some);
      read = rw (place, call) makes.seen;
    }

-- what holds of each that a line gives holds of all
pub all_given : (P : Expectation → Type 0) (f : ℕ → Option (Result Expectation Reason)) (ks : List ℕ)
    (es : List Expectation) → filter_map f ks ≡ map (λ e. Ok e) es
    → ((k : ℕ) (e : Expectation) → f k ≡ Some (Ok e) → P e) → All P es
all_given P f [] [] same each = λ n d inside. absurd (omega arith)
all_given P f [] (e ∷ es) same each = cc
all_given P f (k ∷ ks) es same each = at (f k) refl same (λ es same. all_given P f ks es same each) where
  at : (given : Option (Result Expectation Reason)) → f k ≡ given
      → cons_option given (filter_map f ks) ≡ map (λ e. Ok e) es
      → ((es : List Expectation) → filter_map f ks ≡ map (λ e. Ok e) es → All P es) → All P es
  at None is same others = others es same
  at (Some one) is same others = split es same where
    split : (es : List Expectation) → one ∷ filter_map f ks ≡ map (λ e. Ok e) es → All P es
    split [] same = cc
    split (e ∷ es) same =
        let first : one ≡ Ok e = cc in
        let rest : filter_map f ks ≡ map (λ e. Ok e) es = cc in
        All-cons P e es (each k e (rw first at is)) (others es rest)

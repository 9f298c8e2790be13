-- What an expectation sees of the lines above it, line by line.
use Rattle.std.proofs.Common.{◌≡◌, ◌∙◌, ap, ℕ, zero, suc, ◌+◌, ◌-◌, ◌<◌, ◌≤◌, Bool, true, false, not, List, [], ◌∷◌}
use Rattle.std.proofs.Common.{◌++◌, length, map, take, slice_index_or, count_by, filter_map, Bor, Option, Some, None}
use Rattle.std.proofs.Common.{option_map, Result, Ok, Err, refl, sym, arith, add-one, add-zero, zero-add}
use Rattle.std.specs.List.{cons_option, range_with_len, suffix_len}
use Rattle.std.proofs.lemmas.List.{append-nil, get_or-map, get_or-take, length-take-le, map-append}
use Rattle.std.proofs.lemmas.List.Elements.{filter_map-append}
use Rattle.std.proofs.lemmas.List.Sums.{count_by_more_no, count_by_more_yes, suffix_len-take_no, suffix_len-take_yes}
use Rattle.thread_scripts.specs.Words.{words_of}
use Rattle.expectations.specs.Expected.{IsFault, IsFaultBelow, call_first, counts, expected_at, expected_before}
use Rattle.expectations.specs.Expected.{expected_below, is_call, is_quiet, last_counted, no_words, seen_of, with_line}
use Rattle.expectations.specs.Expected.{words_expected}
use Rattle.expectations.specs.declared.above.Above.{Above}
use Rattle.expectations.specs.declared.expected.Expectation.{Expectation}
use Rattle.expectations.specs.declared.fault.ExpectationFault.{ExpectationFault}
use Rattle.expectations.specs.declared.fault.ExpectationFault.TheVariants as fault
use Rattle.expectations.specs.declared.fault.Reason.{Reason}

abbrev made : ℕ → ℕ → Bool → ℕ → Above
made lines last call place = record { lines = lines; last = last; is_call = call; place = place }

same : (l l' n n' p p' : ℕ) (c c' : Bool) → l ≡ l' → n ≡ n' → c ≡ c' → p ≡ p' → made l n c p ≡ made l' n' c' p'
same l l' n n' p p' c c' e1 e2 e3 e4 = λ i. record { lines = e1 i; last = e2 i; is_call = e3 i; place = e4 i }

quiet_no_call : (words : Option (List (List ℕ))) → no_words words ≡ true → call_first words ≡ false
quiet_no_call None quiet = refl
quiet_no_call (Some []) quiet = refl
quiet_no_call (Some (word ∷ words)) quiet = cc

nothing_no_call : is_call [] ≡ false
unfolding words_of
nothing_no_call = refl

-- the last counted line stays the same, and so does whether it is a call's
last_call : (texts : List (List ℕ)) (i last : ℕ) → i < length texts → last ≤ i
    → is_quiet (slice_index_or texts i []) ≡ true → is_call (slice_index_or (take (i + 1) texts) (last - 1) [])
    ≡ is_call (slice_index_or (take i texts) (last - 1) [])
last_call texts zero last inside behind quiet =
    let first : last - 1 ≡ 0 = omega arith in
    rw (first, get_or-take 1 texts 0 [] (omega arith)) (quiet_no_call (words_of (slice_index_or texts 0 [])) quiet
    ∙ sym nothing_no_call)
last_call texts (suc i) last inside behind quiet =
    rw (
      get_or-take (suc i + 1) texts (last - 1) [] (omega arith),
      get_or-take (suc i) texts (last - 1) []
          (omega arith),
    ) refl

-- one more line
pub one_line : (texts : List (List ℕ)) (i : ℕ) → i < length texts
    → seen_of (take (i + 1) texts) ≡ with_line (seen_of (take i texts)) (slice_index_or texts i [])
one_line texts i inside = at (is_quiet (slice_index_or texts i [])) refl (length-take-le i texts (omega arith))
    (length-take-le (i + 1) texts (omega arith)) (omega arith) where
      at : (quiet : Bool) → is_quiet (slice_index_or texts i []) ≡ quiet → length (take i texts) ≡ i
          → length (take (i + 1) texts) ≡ i + 1 → i + 1 - 1 ≡ i
          → seen_of (take (i + 1) texts) ≡ with_line (seen_of (take i texts)) (slice_index_or texts i [])
      at true quiet before after back =
          let more : suffix_len is_quiet (take (i + 1) texts) ≡ 1 + suffix_len is_quiet (take i texts) =
          rw back at (suffix_len-take_yes is_quiet texts (i + 1) [] (omega arith) (omega arith) (rw back quiet))
          in
          let last : last_counted (take (i + 1) texts) ≡ last_counted (take i texts) = omega arith in
          let call : is_call (slice_index_or (take (i + 1) texts) (last_counted (take (i + 1) texts) - 1) [])
          ≡ is_call (slice_index_or (take i texts) (last_counted (take i texts) - 1) []) =
          rw last (last_call texts i (last_counted (take i texts)) inside (omega arith) quiet) in
          let place : count_by counts (take (i + 1) texts) ≡ count_by counts (take i texts) =
          count_by_more_no counts texts i [] inside (ap not quiet) in
          rw quiet (same _ _ _ _ _ _ _ _ (omega arith) last call place)
      at false speaks before after back =
          let none : suffix_len is_quiet (take (i + 1) texts)
          ≡ 0 = suffix_len-take_no is_quiet texts (i + 1) [] (omega arith) (omega arith) (rw back speaks) in
          let last : last_counted (take (i + 1) texts) ≡ length (take i texts) + 1 = omega arith in
          let at : last_counted (take (i + 1) texts) - 1 ≡ i = omega arith in
          let call : is_call (slice_index_or (take (i + 1) texts) (last_counted (take (i + 1) texts) - 1) [])
          ≡ is_call (slice_index_or texts i []) = rw (at, get_or-take (i + 1) texts i [] (omega arith)) refl in
          let place : count_by counts (take (i + 1) texts) ≡ count_by counts (take i texts) + 1 =
          count_by_more_yes counts texts i [] inside (ap not speaks) in
          rw speaks (same _ _ _ _ _ _ _ _ (omega arith) last call place)

-- before the first line
pub no_lines : record { lines = 0; last = 0; is_call = false; place = 0 } ≡ seen_of []
no_lines = same 0 0 0 0 0 0 false (is_call []) refl refl (sym nothing_no_call) refl

-- the line of a text, from which it was read
pub text_at : (lines : List (Bor (List ℕ))) (i : ℕ) (line : Bor (List ℕ)) → i < length lines
    → line ≡ slice_index_or lines i line → slice_index_or (map (λ l. l.now) lines) i [] ≡ line.now
text_at lines i line inside is = get_or-map (λ l. l.now) lines i line [] inside
    ∙ ap (λ (l : Bor (List ℕ)). l.now) (sym is)

range_suc : (a n : ℕ) → range_with_len a (suc n) ≡ range_with_len a n ++ (a + n) ∷ []
range_suc a zero = rw add-zero refl
range_suc a (suc n) =
    let same : a + 1 + n ≡ a + suc n = omega arith in
    ap (λ (ns : List ℕ). a ∷ ns) (range_suc (a + 1) n ∙ ap (λ (m : ℕ). range_with_len (a + 1) n ++ m ∷ []) same)

-- what is expected before the next line
pub before_more : (texts : List (List ℕ)) (i : ℕ) → expected_before texts (i + 1) ≡ expected_before texts i
    ++ cons_option (expected_at texts i) []
before_more texts i =
    let more : range_with_len 0 (i + 1) ≡ range_with_len 0 i ++ i
    ∷ [] = rw add-one (rw (zero-add i) at (range_suc 0 i)) in
    ap (filter_map (expected_at texts)) more ∙ filter_map-append (expected_at texts) (range_with_len 0 i) (i ∷ [])

pub before_none : (texts : List (List ℕ)) (i : ℕ) (so_far : List Expectation) → expected_at texts i ≡ None
    → expected_before texts i ≡ map (λ e. Ok e) so_far → expected_before texts (i + 1) ≡ map (λ e. Ok e) so_far
before_none texts i so_far none same = before_more texts i ∙ rw (none, same) (append-nil (map (λ e. Ok e) so_far))

pub before_some : (texts : List (List ℕ)) (i : ℕ) (so_far : List Expectation) (one : Expectation)
    → expected_at texts i ≡ Some (Ok one) → expected_before texts i ≡ map (λ e. Ok e) so_far
    → expected_before texts (i + 1) ≡ map (λ e. Ok e) (so_far ++ one ∷ [])
before_some texts i so_far one some same = before_more texts i
    ∙ rw (some, same) (sym (map-append (λ e. Ok e) so_far (one ∷ [])))

-- a line with a good expectation, or none, is not a bad one
pub is_good : (expected : Option (Result Expectation Reason)) (one : Option Expectation)
    → expected ≡ option_map (λ e. Ok e) one → (why : Reason) → expected ≡ Some (Err why) → ⊥
is_good expected None good why bad = let wrong = sym good ∙ bad in cc
is_good expected (Some one) good why bad = let wrong = sym good ∙ bad in cc

-- the line at which the first bad expectation was found
pub bad_here : (texts : List (List ℕ)) (i : ℕ) (above : Above) (line : List ℕ) (fault : ExpectationFault)
    → i < length texts → above ≡ seen_of (take i texts) → slice_index_or texts i [] ≡ line
    → ((j : ℕ) → j < i → (why : Reason) → expected_at texts j ≡ Some (Err why) → ⊥)
    → IsFaultBelow above (expected_below above (words_expected line)) fault → IsFault texts fault
bad_here texts i above line (fault.Bad n why) inside seen is good (at, bad) =
    let count : above.lines ≡ i = ap (λ (a : Above). a.lines) seen ∙ length-take-le i texts (omega arith) in
    (i, omega arith, record { inside = inside; bad = rw (← seen, is) bad; good = good })
bad_here texts i above line fault.Memory inside seen is good _ = tt

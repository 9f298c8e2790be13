-- Believed: a contract of a command stands on it.
-- The expectations of a text: which lines have one, of which call, and which is the first bad one.
use Rattle.std.specs.Prelude.{◌≡◌, ◌≢◌, ℕ, ◌+◌, ◌-◌, ◌<◌, Bool, true, false, not, ◌&&◌, List, []}
use Rattle.std.specs.Prelude.{◌∷◌, length, map, take, count_by, filter_map, slice_index_or, ◌==◌}
use Rattle.std.specs.Prelude.{if◌then◌else◌, Option, Some, None, option_map, Result, Ok, Err}
use Rattle.std.specs.List.{range_with_len, suffix_len}
use Rattle.std.specs.Option.{is_some}
use Rattle.posix_terms.specs.Text.{pieces_of}
use Rattle.thread_scripts.specs.Calls.{kind_named}
use Rattle.thread_scripts.specs.Words.{words_of}
use Rattle.expectations.specs.Words.{wanted_of}
use Rattle.expectations.specs.declared.above.Above.{Above}
use Rattle.expectations.specs.declared.expected.Expectation.{Expectation}
use Rattle.expectations.specs.declared.fault.ExpectationFault.{ExpectationFault}
use Rattle.expectations.specs.declared.fault.ExpectationFault.TheVariants as fault
use Rattle.expectations.specs.declared.fault.Reason.{Reason}
use Rattle.expectations.specs.declared.fault.Reason.TheVariants as reason
use Rattle.expectations.specs.declared.wanted.Wanted.{Wanted}

-- the words of an expectation: those after `#=`, if the line begins with it
abbrev pub words_expected : List ℕ → Option (List (List ℕ))
words_expected (a ∷ b ∷ rest) = if a == 35 && b == 61 then Some (pieces_of 32 rest) else None
words_expected _ = None

-- there is no word
abbrev pub no_words : Option (List (List ℕ)) → Bool
no_words (Some []) = true
no_words _ = false

-- a line that is not counted: a comment, an empty line or one of spaces
abbrev pub is_quiet : List ℕ → Bool
is_quiet text = no_words (words_of text)

-- a line that is counted: one with words
abbrev pub counts : List ℕ → Bool
counts text = not (is_quiet text)

-- the first word names a call
abbrev pub call_first : Option (List (List ℕ)) → Bool
call_first (Some (word ∷ operands)) = is_some (kind_named word)
call_first _ = false

-- a line whose first word names a call
abbrev pub is_call : List ℕ → Bool
is_call text = call_first (words_of text)

-- the number, from 1, of the last of these lines that is counted, and 0 where none is
abbrev pub last_counted : List (List ℕ) → ℕ
last_counted texts = length texts - suffix_len is_quiet texts

-- what an expectation sees of the lines above it: how many they are, the last that is counted,
-- whether that is a call's, and how many are counted
abbrev pub seen_of : List (List ℕ) → Above
seen_of texts = record {
  lines = length texts;
  last = last_counted texts;
  is_call = is_call (slice_index_or texts (last_counted texts - 1) []);
  place = count_by counts texts;
}

-- the expectation below these lines: it stands for the call of the last that is counted
abbrev pub expectation_below : Above → Option Wanted → Result Expectation Reason
expectation_below above None = Err reason.Words
expectation_below above (Some wanted) =
    if above.last == 0 then Err reason.NothingAbove
    else if above.is_call then Ok (record {
      line = above.lines + 1;
      call = above.last;
      place = above.place;
      wanted = wanted;
    })
    else Err reason.NotACall

-- what is expected on a line below these, if it has the words of an expectation
abbrev pub expected_below : Above → Option (List (List ℕ)) → Option (Result Expectation Reason)
expected_below above words = option_map (λ words. expectation_below above (wanted_of words)) words

-- what is expected on line k, counted from 0
abbrev pub expected_at : List (List ℕ) → ℕ → Option (Result Expectation Reason)
expected_at texts k =
    expected_below (seen_of (take k texts)) (words_expected (slice_index_or texts k []))

-- what is expected on each line before line n, in order
abbrev pub expected_before : List (List ℕ) → ℕ → List (Result Expectation Reason)
expected_before texts n = filter_map (expected_at texts) (range_with_len 0 n)

-- all expectations of a text's lines are good, and these are they, in order
abbrev pub AreExpectations : List (List ℕ) → List Expectation → Type 0
AreExpectations texts expectations =
    expected_before texts (length texts) ≡ map (λ e. Ok e) expectations

-- line k, counted from 0, is the first bad one, for this reason
pub record IsFirstBad (texts : List (List ℕ)) (k : ℕ) (why : Reason) : Type 0 where
  pub inside : k < length texts
  pub bad : expected_at texts k ≡ Some (Err why)
  pub good : (j : ℕ) → j < k → (other : Reason) → expected_at texts j ≢ Some (Err other)

-- why the expectations of a text were not read. Where memory ran out nothing is said
abbrev pub IsFault : List (List ℕ) → ExpectationFault → Type 0
IsFault texts (fault.Bad line why) = (k : ℕ) × (line ≡ k + 1) × IsFirstBad texts k why
IsFault texts fault.Memory = Unit {0}

-- ## One line

-- the lines above with one more below them
abbrev pub with_line : Above → List ℕ → Above
with_line above text =
    if is_quiet text then record above { lines = above.lines + 1 }
    else record {
      lines = above.lines + 1;
      last = above.lines + 1;
      is_call = is_call text;
      place = above.place + 1;
    }

-- why the expectation of a line below these was not read
abbrev pub IsFaultBelow : Above → Option (Result Expectation Reason) → ExpectationFault → Type 0
IsFaultBelow above expected (fault.Bad line why) =
    (line ≡ above.lines + 1) × (expected ≡ Some (Err why))
IsFaultBelow above expected fault.Memory = Unit {0}

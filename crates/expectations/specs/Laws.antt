-- Internal: no contract of the headline or of a command stands on it.
-- What expectations and places keep to.
use Rattle.std.specs.Prelude.{◌≡◌, ℕ, ◌-◌, ◌<◌, ◌^◌, ℤ, pos, negsuc, IfSome, All, List, slice_get}
use Rattle.std.specs.Prelude.{slice_index_or, [], Some, Ok}
use Rattle.posix_terms.specs.Errors.{name_of}
use Rattle.posix_terms.specs.Text.{pieces_of}
use Rattle.posix_terms.specs.Replies.{kind_code}
use Rattle.posix_terms.specs.declared.errno.Errno.{Errno}
use Rattle.posix_terms.specs.declared.reply.ObjectKind.{ObjectKind}
use Rattle.posix_terms.specs.declared.reply.Reply.{Reply}
use Rattle.thread_scripts.specs.CallLines.{CallLine}
use Rattle.thread_scripts.specs.Grammar.{script_of}
use Rattle.thread_scripts.specs.Laws.{words_read}
use Rattle.thread_scripts.specs.Words.{lines_of, words_of}
use Rattle.thread_scripts.specs.declared.line.Line.{Line}
use Rattle.thread_scripts.specs.declared.line.Line.TheVariants as line
use Rattle.expectations.specs.Expected.{AreExpectations, IsFirstBad}
use Rattle.expectations.specs.Places.{calls_of}
use Rattle.expectations.specs.Printing.{wanted_text}
use Rattle.expectations.specs.Unmet.{AreMet, IsFirstUnmet}
use Rattle.expectations.specs.Words.{error_of, kind_numbered, wanted_of}
use Rattle.expectations.specs.declared.expected.Expectation.{Expectation}
use Rattle.expectations.specs.declared.fault.Reason.{Reason}
use Rattle.expectations.specs.declared.pattern.Pattern.{Pattern}
use Rattle.expectations.specs.declared.pattern.Pattern.TheVariants as pattern
use Rattle.expectations.specs.declared.unmet.Unmet.{Unmet}
use Rattle.expectations.specs.declared.wanted.Wanted.{Wanted}
use Rattle.expectations.specs.declared.wanted.Wanted.TheVariants as want

-- the error of an error's name is that error
abbrev pub NamesLeadBack : Type 0
NamesLeadBack = (error : Errno) → error_of (name_of error) ≡ Some error

-- the kind of a kind's number is that kind
abbrev pub NumbersLeadBack : Type 0
NumbersLeadBack = (kind : ObjectKind) → kind_numbered (kind_code kind) ≡ Some kind

-- the line of a script with this place, counted from 1, makes a call
pub record IsCallPlace (script : List Line) (place : ℕ) : Type 0 where
  pub from_one : 0 < place
  pub call : CallLine
  pub line : slice_get script (place - 1) ≡ Some (line.Call call)

-- an expectation's place is that of a call's line, which was read from its call's line in the text
pub record IsOfCall
    (texts : List (List ℕ)) (script : List Line) (expectation : Expectation) : Type 0 where
  pub place : IsCallPlace script expectation.place
  pub from_one : 0 < expectation.call
  pub read : slice_get (words_read texts) (expectation.place - 1)
      ≡ words_of (slice_index_or texts (expectation.call - 1) [])

-- where a text is a script, its expectations stand for calls of it
abbrev pub StandForCalls : Type 0
StandForCalls =
    (text : List ℕ) (script : List Line) (expectations : List Expectation)
    → script_of text ≡ Ok script
    → AreExpectations (lines_of text) expectations
    → All (IsOfCall (lines_of text) script) expectations

-- each call of a script has the place of a line that makes a call
abbrev pub CallsHavePlaces : Type 0
CallsHavePlaces =
    (script : List Line) (replies : List Reply)
    → All (λ call. IsCallPlace script call.0) (calls_of script replies)

-- a number of 64 bits with a sign
abbrev pub IsSigned : ℤ → Type 0
IsSigned (pos n) = n < 2 ^ 63
IsSigned (negsuc n) = n < 2 ^ 63

-- a number of 64 bits without a sign
abbrev pub IsSize : ℕ → Type 0
IsSize n = n < 2 ^ 64

-- a number that is a byte
abbrev pub IsByte : ℕ → Type 0
IsByte b = b < 256

-- the operands are values of their types
abbrev pub HasOperands : Pattern → Type 0
HasOperands (pattern.Count n) = IfSome n IsSize
HasOperands (pattern.Data bytes) = IfSome bytes (All IsByte)
HasOperands (pattern.Number n) = IfSome n IsSigned
HasOperands (pattern.Pair first second) = IfSome first IsSigned × IfSome second IsSigned
HasOperands (pattern.Stat kind number links) = IfSome number IsSize × IfSome links IsSize
HasOperands _ = Unit {0}

-- and so are those of its pattern
abbrev pub HasValues : Wanted → Type 0
HasValues (want.Match pattern) = HasOperands pattern
HasValues (want.Not pattern) = HasOperands pattern

-- what is written is read back
abbrev pub TextsReadBack : Type 0
TextsReadBack =
    (wanted : Wanted) → HasValues wanted
    → wanted_of (pieces_of 32 (wanted_text wanted)) ≡ Some wanted

-- the lines of a text have one list of expectations at most
abbrev pub OneList : Type 0
OneList =
    (texts : List (List ℕ)) (some others : List Expectation)
    → AreExpectations texts some → AreExpectations texts others → some ≡ others

-- and one first bad one at most
abbrev pub OneFirstBad : Type 0
OneFirstBad =
    (texts : List (List ℕ)) (j k : ℕ) (one other : Reason)
    → IsFirstBad texts j one → IsFirstBad texts k other → (j ≡ k) × (one ≡ other)

-- and not both
abbrev pub NotBoth : Type 0
NotBoth =
    (texts : List (List ℕ)) (expectations : List Expectation) (k : ℕ) (why : Reason)
    → AreExpectations texts expectations → ¬ (IsFirstBad texts k why)

-- where all are met there is no first that is not
abbrev pub NoneWhereMet : Type 0
NoneWhereMet =
    (expectations : List Expectation) (calls : List (ℕ × Reply)) (first : Unmet)
    → All (AreMet expectations) calls → ¬ (IsFirstUnmet expectations calls first)

-- and there is one first at most
abbrev pub OneFirst : Type 0
OneFirst =
    (expectations : List Expectation) (calls : List (ℕ × Reply)) (v w : Unmet)
    → IsFirstUnmet expectations calls v → IsFirstUnmet expectations calls w → v ≡ w

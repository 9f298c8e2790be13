-- Believed: a contract of a command stands on it.
-- Which of the texts of scripts has the first bad expectation, and what is printed of expectations:
-- the line of that fault, and the line of a reply that is not as expected.
use Rattle.std.specs.Prelude.{◌≡◌, ℕ, All, List, ◌++◌, take, slice_get, Some, codes}
use Rattle.std.specs.Prelude.{if◌then◌else◌, ◌==◌}
use Rattle.std.specs.Fmt.{decimal}
use Rattle.posix_terms.specs.declared.reply.Reply.{Reply}
use Rattle.thread_scripts.specs.Words.{lines_of}
use Rattle.expectations.specs.Expected.{AreExpectations, IsFault}
use Rattle.expectations.specs.Printing.{wanted_text}
use Rattle.expectations.specs.declared.expected.Expectation.{Expectation}
use Rattle.expectations.specs.declared.fault.ExpectationFault.TheVariants as fault
use Rattle.expectations.specs.declared.fault.Reason.{Reason}
use Rattle.expectations.specs.declared.fault.Reason.TheVariants as reason
use Rattle.command_texts.specs.Printing.{fault_printed}
use Rattle.command_texts.specs.Transcripts.{◌+++◌, reply_text}
use Rattle.command_texts.specs.declared.expecting.BadExpectation.{BadExpectation}
use Rattle.command_texts.specs.declared.printed.Printed.{Printed}

-- all expectations of a text are good
pub record IsGood (text : List ℕ) : Type 0 where
  pub expectations : List Expectation
  pub are : AreExpectations (lines_of text) expectations

-- this is the first bad one of the first text that has any
pub record IsFirstBad (texts : List (List ℕ)) (bad : BadExpectation) : Type 0 where
  pub before : All IsGood (take bad.script texts)
  pub text : List ℕ
  pub at : slice_get texts bad.script ≡ Some text
  pub here : IsFault (lines_of text) (fault.Bad bad.line bad.reason)

-- what is wrong with an expectation
abbrev pub reason_text : Reason → List ℕ
reason_text reason.Words = codes "not the words of a reply"
reason_text reason.NothingAbove = codes "no call above"
reason_text reason.NotACall = codes "the line above is not a call"

-- script, line, and what is wrong
abbrev pub expectation_line : BadExpectation → List ℕ
expectation_line bad =
    codes "script " +++ decimal bad.script +++ codes ": bad expectation on line "
    +++ decimal bad.line +++ codes ": " +++ reason_text bad.reason +++ codes "\n"

-- what is printed for a bad expectation, and status 3
abbrev pub expectation_fault : BadExpectation → Printed
expectation_fault bad = fault_printed 3 (expectation_line bad)

-- thread, line of the call, what is wanted and what came
unfoldable pub unmet_line : ℕ → Expectation → Reply → List ℕ
unmet_line thread expectation reply =
    codes "expected " +++ decimal thread +++ codes " " +++ decimal expectation.call
    +++ codes " " +++ wanted_text expectation.wanted +++ codes " " +++ reply_text reply
    +++ codes "\n"

-- a run with such a line after its own last one. Its status is 1, unless it was another than 0
abbrev pub with_unmet : Printed → List ℕ → Printed
with_unmet run line = record {
  status = if run.status == 0 then 1 else run.status;
  output = run.output ++ line;
  errors = run.errors;
}

-- Believed: a contract of a command stands on it.
-- How the cases of a log's outcomes are printed.
use Rattle.std.specs.Prelude.{ℕ, List, [], length, slice_get, slice_index_or}
use Rattle.std.specs.Prelude.{Option, Some, None, codes}
use Rattle.std.specs.Fmt.{decimal}
use Rattle.posix_terms.specs.Errors.{name_of}
use Rattle.posix_terms.specs.declared.outcome.Given.{Given}
use Rattle.fault_injection.specs.declared.cases.FaultCase.{FaultCase}
use Rattle.fault_injection.specs.declared.injected.Injected.{Injected}
use Rattle.fault_injection.specs.declared.injected.Injected.TheVariants as injected
use Rattle.command_texts.specs.LogTexts.{request_word}
use Rattle.command_texts.specs.Transcripts.{◌+++◌}
use Rattle.explore_texts.specs.Found.{counts_text}
use Rattle.explore_texts.specs.declared.finding.Finding.{Finding}

-- what comes in place of an outcome
abbrev pub injected_text : Injected → List ℕ
injected_text (injected.Fail error) = codes "fail " +++ name_of error
injected_text (injected.Short count) = codes "short " +++ decimal count

-- the kind of request of an outcome
abbrev pub kind_text : Option Given → List ℕ
kind_text None = []
kind_text (Some given) = request_word given.kind +++ codes " "

-- the thread and the number of the outcome, the kind of its request, and what comes in its place
unfoldable pub case_text : List (List Given) → FaultCase → List ℕ
case_text outcomes case =
    decimal case.thread +++ codes " " +++ decimal case.number +++ codes " "
    +++ kind_text (slice_get (slice_index_or outcomes case.thread []) case.number)
    +++ injected_text case.injected +++ codes " "

-- how many cases there are, and what they came to
unfoldable pub case_sums : List Finding → List ℕ
case_sums findings =
    codes "cases " +++ decimal (length findings) +++ counts_text findings +++ codes "\n"

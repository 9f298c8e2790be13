use Rattle.std.proofs.Common.{length}
use Rattle.posix_terms.specs.declared.limits.TheConstants.Limits.{SCRIPT_LINES}
use Rattle.thread_scripts.specs.Grammar.{gathered, readings_of, script_of}
use Rattle.thread_scripts.specs.Words.{lines_of}
use Rattle.thread_scripts.proofs.Gathering.{counted, never_too_long}
use Rattle.thread_scripts.proofs.laws.too_long_is_counted.Goals as goal

pub returns : goal.returns
unfolding script_of
returns c = λ text. counted SCRIPT_LINES (length (lines_of text)) (gathered 1 (readings_of (lines_of text)))
    (never_too_long 1 (readings_of (lines_of text)))

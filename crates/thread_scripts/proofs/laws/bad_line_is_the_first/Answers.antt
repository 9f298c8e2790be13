use Rattle.std.proofs.Common.{◌+◌, length, Err}
use Rattle.posix_terms.specs.declared.limits.TheConstants.Limits.{SCRIPT_LINES}
use Rattle.thread_scripts.specs.Faults.{bad_line}
use Rattle.thread_scripts.specs.Grammar.{gathered, readings_of, script_of}
use Rattle.thread_scripts.specs.Words.{lines_of}
use Rattle.thread_scripts.proofs.Gathering.{first_told_at, told_first_at, within}
use Rattle.thread_scripts.proofs.laws.bad_line_is_the_first.Goals as goal

pub returns : goal.returns
unfolding script_of
returns c = λ text k.
    let texts = lines_of text in
    let read = gathered 1 (readings_of texts) in
    let both = within SCRIPT_LINES (length texts) read (Err (bad_line (k + 1))) (λ e. cc) in (
      λ e. let (short, told) = both.0 e in (short, told_first_at (readings_of texts) k told),
      λ first. both.1 (first.0, first_told_at (readings_of texts) k first.1),
    )

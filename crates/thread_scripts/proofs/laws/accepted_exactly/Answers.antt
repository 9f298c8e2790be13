use Rattle.std.proofs.Common.{length, Ok}
use Rattle.posix_terms.specs.declared.limits.TheConstants.Limits.{SCRIPT_LINES}
use Rattle.thread_scripts.specs.Grammar.{gathered, readings_of, script_of}
use Rattle.thread_scripts.specs.Words.{lines_of}
use Rattle.thread_scripts.proofs.Gathering.{good_gathered, is_good, within}
use Rattle.thread_scripts.proofs.laws.accepted_exactly.Goals as goal

pub returns : goal.returns
unfolding script_of
returns c = λ text lines.
    let texts = lines_of text in
    let both = within SCRIPT_LINES (length texts) (gathered 1 (readings_of texts)) (Ok lines) (λ e. cc) in (
      λ e. let (short, ok) = both.0 e in (short, good_gathered 1 (readings_of texts) lines ok),
      λ good. both.1 (good.0, is_good 1 (readings_of texts) lines good.1),
    )

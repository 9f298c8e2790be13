use Rattle.std.proofs.Common.{length, Ok}
use Rattle.posix_terms.specs.declared.limits.TheConstants.Limits.{SCRIPT_LINES}
use Rattle.thread_scripts.specs.Grammar.{gathered, readings_of, script_of}
use Rattle.thread_scripts.specs.Words.{lines_of}
use Rattle.thread_scripts.proofs.Gathering.{within}
use Rattle.thread_scripts.proofs.Jumps.{jumps_to_label}
use Rattle.thread_scripts.proofs.laws.jumps_lead_to_labels.Goals as goal

pub returns-clause-labels : goal.returns-clause-labels
unfolding script_of
returns-clause-labels c = λ text lines k place e t.
    let texts = lines_of text in
    let both = within SCRIPT_LINES (length texts) (gathered 1 (readings_of texts)) (Ok lines) (λ e. cc) in
    (jumps_to_label texts lines k place (both.0 e).1 t).0

pub returns-clause-named : goal.returns-clause-named
unfolding script_of
returns-clause-named c = λ text lines k place e t.
    let texts = lines_of text in
    let both = within SCRIPT_LINES (length texts) (gathered 1 (readings_of texts)) (Ok lines) (λ e. cc) in
    (jumps_to_label texts lines k place (both.0 e).1 t).1

use Rattle.std.proofs.Common.{◌≤◌, length, Ok, arith}
use Rattle.posix_terms.specs.declared.limits.TheConstants.Limits.{SCRIPT_LINES}
use Rattle.thread_scripts.specs.Grammar.{gathered, readings_of, script_of}
use Rattle.thread_scripts.specs.Labels.{labels_from}
use Rattle.thread_scripts.specs.Words.{lines_of}
use Rattle.thread_scripts.proofs.Gathering.{within}
use Rattle.thread_scripts.proofs.Jumps.{jumps_to_label}
use Rattle.thread_scripts.proofs.Keeping.{all_keep, both, with_jumps}
use Rattle.thread_scripts.proofs.laws.read_scripts_keep_rules.Goals as goal

pub returns : goal.returns
unfolding script_of
returns c = λ text lines e.
    let texts = lines_of text in
    let (short, read) = (within SCRIPT_LINES (length texts) (gathered 1 (readings_of texts)) (Ok lines) (λ e. cc)).0
    e in
    let (keep, few) = all_keep (labels_from 0 texts) texts 0 1 lines read in
    let few_enough : length lines ≤ SCRIPT_LINES = omega arith in
    both _ _ (grind (arith, few_enough))
    (with_jumps lines lines keep (λ k p t. (jumps_to_label texts lines k p read t).0))

use Rattle.std.proofs.Common.{length}
use Rattle.std.specs.List.{range_with_len}
use Rattle.thread_scripts.specs.Words.{lines_of}
use Rattle.expectations.specs.Expected.{expected_at}
use Rattle.expectations.specs.Laws.{IsOfCall}
use Rattle.expectations.proofs.Standing.{all_given, of_call}
use Rattle.expectations.proofs.laws.expectations_stand_for_calls.Goals as goal

pub returns : goal.returns
returns c = λ text script expectations is are.
    let texts = lines_of text in
    let good = ((c.accepted_exactly.ensures text script).0 is).1 in
    all_given (IsOfCall texts script) (expected_at texts) (range_with_len 0 (length texts)) expectations are
    (λ k e here. of_call texts script k e good here)

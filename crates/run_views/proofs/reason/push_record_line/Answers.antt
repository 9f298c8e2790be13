use Rattle.std.proofs.Common.{append_assoc}
use Rattle.run_views.specs.Reasons.{record_words}
use Rattle.run_views.proofs.reason.push_record_line.Goals as goal

pub returns : goal.returns
unfolding record_words
returns c = simp (append_assoc, c.in_ok-push_word.ensures) at c.push_record.ensures

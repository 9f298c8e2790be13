use Rattle.std.proofs.Common.{append_assoc}
use Rattle.run_views.specs.Reasons.{no_record_words}
use Rattle.run_views.proofs.reason.push_no_record.Goals as goal

pub returns : goal.returns
unfolding no_record_words
returns c =
    simp (
      append_assoc,
      c.in_ok-push_word.ensures,
      c.in_ok-push_number.ensures,
      c.in_ok-push_word-2.ensures,
      c.in_ok-push_number-2.ensures,
    )
    at c.push_word-3.ensures

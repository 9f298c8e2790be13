use Rattle.std.proofs.Common.{append_assoc}
use Rattle.explore_texts.specs.Found.{causes_text}
use Rattle.explore_texts.proofs.explored_text.push_causes.Goals as goal

pub returns : goal.returns
unfolding causes_text
returns c =
    simp (
      append_assoc,
      c.in_ok-push_cause.ensures,
      c.in_ok-push_cause-2.ensures,
      c.tallied.ensures,
      c.tallied-2.ensures,
      c.tallied-3.ensures,
    )
    at c.push_cause-3.ensures

use Rattle.std.proofs.Common.{append_assoc}
use Rattle.run_pictures.specs.Picture.{run_text}
use Rattle.run_pictures.proofs.picture.push_run.Goals as goal

pub returns : goal.returns
unfolding run_text
returns c =
    simp (
      append_assoc,
      c.in_ok-push_run_front.ensures,
      c.in_ok-push_ticks.ensures,
      c.in_ok-push_word.ensures,
      c.in_ok-push_boxes.ensures,
      c.deref.ensures.value,
    )
    at c.push_word-2.ensures

use Rattle.std.proofs.Common.{append_assoc}
use Rattle.run_pictures.specs.Picture.{picture_text}
use Rattle.run_pictures.proofs.picture.push_picture.Goals as goal

pub returns : goal.returns
unfolding picture_text
returns c =
    simp (
      append_assoc,
      c.in_ok-push_word.ensures,
      c.in_ok-push_number.ensures,
      c.in_ok-push_word-2.ensures,
      c.in_ok-push_names.ensures,
      c.in_ok-push_chart.ensures,
      c.in_ok-push_runs.ensures,
      c.deref.ensures.value,
      c.deref-2.ensures.value,
      c.deref-3.ensures.value,
    )
    at c.push_word-3.ensures

use Rattle.std.proofs.Common.{append_assoc}
use Rattle.run_pictures.specs.Picture.{names_text}
use Rattle.run_pictures.proofs.picture.push_run_names.Goals as goal

pub returns : goal.returns
unfolding names_text
returns c =
    simp (
      append_assoc,
      c.in_ok-push_word.ensures,
      c.in_ok-push_number.ensures,
      c.in_ok-push_word-2.ensures,
      c.in_ok-push_lanes.ensures,
      c.deref.ensures.value,
    )
    at c.push_word-3.ensures

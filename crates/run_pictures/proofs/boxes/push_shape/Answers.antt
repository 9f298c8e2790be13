use Rattle.std.proofs.Common.{append_assoc}
use Rattle.run_pictures.specs.Boxes.{shape_text}
use Rattle.run_pictures.proofs.boxes.push_shape.Goals as goal

pub returns : goal.returns
unfolding shape_text
returns c =
    simp (
      append_assoc,
      c.in_ok-push_line.ensures,
      c.in_ok-push_early.ensures,
      c.in_ok-push_shape_front.ensures,
      c.in_ok-push_wait.ensures,
      c.in_ok-push_word.ensures,
      c.word.ensures,
      c.kind.ensures,
    )
    at c.push_word-2.ensures

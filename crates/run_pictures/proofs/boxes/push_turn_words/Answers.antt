use Rattle.std.proofs.Common.{append_assoc}
use Rattle.run_pictures.specs.Boxes.{turn_words}
use Rattle.run_pictures.proofs.boxes.push_turn_words.Goals as goal

pub returns : goal.returns
unfolding turn_words
returns c =
    simp (
      append_assoc,
      c.in_ok-push_word.ensures,
      c.in_ok-push_number.ensures,
      c.in_ok-push_word-2.ensures,
      c.in_ok-push_number-2.ensures,
      c.in_ok-push_word-3.ensures,
      c.in_ok-push_number-3.ensures,
      c.in_ok-push_word-4.ensures,
      c.in_ok-push_number-4.ensures,
    )
    at c.push_word-5.ensures

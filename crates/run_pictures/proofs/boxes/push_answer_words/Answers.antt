use Rattle.std.proofs.Common.{append_assoc}
use Rattle.run_pictures.specs.Boxes.{answer_words}
use Rattle.run_pictures.proofs.boxes.push_answer_words.Goals as goal

pub returns : goal.returns
unfolding answer_words
returns c =
    simp (
      append_assoc,
      c.in_ok-push_word.ensures,
      c.in_ok-push_number.ensures,
      c.in_ok-push_word-2.ensures,
    )
    at c.push_number-2.ensures

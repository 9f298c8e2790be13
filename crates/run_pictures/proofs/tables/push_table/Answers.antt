use Rattle.std.proofs.Common.{append_assoc}
use Rattle.run_pictures.specs.Tables.{table_text}
use Rattle.run_pictures.proofs.tables.push_table.Goals as goal

pub returns : goal.returns
unfolding table_text
returns c =
    simp (
      append_assoc,
      c.in_ok-push_word.ensures,
      c.in_ok-push_escaped.ensures,
      c.in_ok-push_word-2.ensures,
      c.in_ok-push_end.ensures,
      c.in_ok-push_waits.ensures,
      c.in_ok-push_word-3.ensures,
      c.in_ok-push_rows.ensures,
      c.deref.ensures.value,
      c.deref-2.ensures.value,
    )
    at c.push_word-4.ensures

use Rattle.explore_commands.proofs.minimise.kept_written.Goals as goal

pub returns : goal.returns
returns c = record {
  writes = rw (
    c.in_ok-texts.ensures,
    c.deref-2.ensures.value,
    c.in_ok-outcomes.ensures,
  ) at c.in_ok-to_write.ensures;
  taken = rw (
    c.in_ok-measure.ensures,
    c.in_ok-measure-2.ensures,
    c.deref.ensures.value,
    c.in_ok-texts.ensures,
  ) at c.in_ok-taken.ensures;
}

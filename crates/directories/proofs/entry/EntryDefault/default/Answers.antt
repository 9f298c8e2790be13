use Rattle.std.proofs.Common.{◌∙◌, ap, length, sym}
use Rattle.std.specs.Hash.FoldHasher.{finish}
use Rattle.sequential_object.specs.Paths.{components_of}
use Rattle.directories.specs.Hashes.{hash_from, hash_of}
use Rattle.directories.proofs.entry.EntryDefault.default.Goals as goal

pub invariant_of-result : goal.invariant_of-result
unfolding hash_from
invariant_of-result c = record {
  hashed =
      c.finish.ensures
      ∙ ap finish c.default.ensures
      ∙ sym (ap (λ path. hash_of (components_of path)) c.new.ensures);
  counted = sym (ap (λ path. length (components_of path)) c.new.ensures);
}

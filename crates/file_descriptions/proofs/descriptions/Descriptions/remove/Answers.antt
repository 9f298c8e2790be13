use Rattle.std.proofs.Common.{arith}
use Rattle.file_descriptions.specs.Descriptions.{DescriptionMap, described}
use Rattle.file_descriptions.proofs.SlotLemmas.{described-remove}
use Rattle.file_descriptions.proofs.SoundLemmas.{AreSound-removed}
use Rattle.file_descriptions.proofs.descriptions.Descriptions.remove.Goals as goal

pub invariant_of-self : goal.invariant_of-self
invariant_of-self c =
    let inside = c.self.inside in
    let before : DescriptionMap = record { by_key = described inside.slots.slots; made = inside.made } in (
      rw (described-remove c.self.inside.slots c.remove.new.self c.args.key c.remove.ensures.updates)
          (AreSound-removed before c.args.key c.self.invariant.0),
      omega arith,
    )

use Rattle.std.proofs.Common.{arith}
use Rattle.file_descriptions.specs.Descriptions.{DescriptionMap, described, description_at}
use Rattle.file_descriptions.proofs.SlotLemmas.{described-insert}
use Rattle.file_descriptions.proofs.SoundLemmas.{AreSound-changed, known_at}
use Rattle.file_descriptions.proofs.descriptions.Descriptions.replace.Goals as goal

pub invariant_of-self : goal.invariant_of-self
invariant_of-self c =
    let before : DescriptionMap = record { by_key = described c.self.inside.slots.slots; made = c.self.inside.made } in
    let known = rw (← c.self.view_is) at c.requires.known in
    let birth = rw (← c.self.view_is) at c.requires.same_birth in
    let kept = AreSound-changed before c.args.key (description_at before c.args.key) c.args.description
    c.self.invariant.0 (known_at before c.args.key known) c.requires.held birth in (
      rw (described-insert c.self.inside.slots c.put.new.slots c.args.key c.args.description c.put.ensures.updates)
          kept,
      omega arith,
    )

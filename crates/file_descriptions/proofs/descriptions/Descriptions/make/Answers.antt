use Rattle.std.proofs.Common.{◌≡◌, ◌<◌, ◌∙◌, refl, arith, None}
use Rattle.std.specs.FinMap as fin
use Rattle.file_descriptions.specs.Descriptions.{DescriptionMap, described, new_description}
use Rattle.file_descriptions.specs.declared.description.Description.{Description}
use Rattle.file_descriptions.proofs.SlotLemmas.{described-insert, get-described, len-described}
use Rattle.file_descriptions.proofs.SoundLemmas.{AreSound-new}
use Rattle.file_descriptions.proofs.descriptions.Descriptions.make.Goals as goal

pub invariant_of-self : goal.invariant_of-self
invariant_of-self c =
    let before : DescriptionMap = record { by_key = described c.self.inside.slots.slots; made = c.self.inside.made } in
    let new : Description = new_description c.args.node c.args.end c.args.access c.args.flags c.self.inside.made in
    let key = c.insert_reserved.result in
    let free : fin.get before.by_key key ≡ None = get-described c.self.inside.slots.slots key
    ∙ c.insert_reserved.ensures.was_vacant in
    let room : fin.len before.by_key < 32 = omega (arith, len-described c.self.inside.slots.slots) in (
      rw (described-insert c.self.inside.slots c.insert_reserved.new.self key new c.insert_reserved.ensures.updates)
          (AreSound-new before key new c.self.invariant.0 free room refl refl),
      omega arith,
    )

use Rattle.std.proofs.Common.{◌≡◌, ◌∙◌, ap, sym, zero-add}
use Rattle.std.specs.FinMap as fin
use Rattle.file_descriptions.specs.Descriptions.{DescriptionMap}
use Rattle.file_descriptions.proofs.SlotLemmas.{entries-described}
use Rattle.file_descriptions.proofs.SoundLemmas.{few_values}
use Rattle.file_descriptions.proofs.descriptions.Descriptions.ends.Goals as goal

pub loop-description-init : goal.loop-description-init
loop-description-init c =
    let whole : c.into_iter-description-iterator.result ≡ fin.entries c.args.self.now.by_key =
    c.into_iter-description-iterator.ensures.into_iter_gives ∙ c.iter-description-items.ensures.rest
    ∙ sym (entries-described c.self.inside.slots.slots)
    ∙ ap (λ (m : DescriptionMap). fin.entries m.by_key) c.self.view_is in
    record {
      can_next = tt;
      is_finite = tt;
      first = rw whole (zero-add _);
      second = rw whole (zero-add _);
      few = rw (← c.self.view_is) (few_values _ c.self.invariant.0);
    }

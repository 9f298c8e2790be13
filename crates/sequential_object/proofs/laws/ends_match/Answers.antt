use Rattle.sequential_object.proofs.Matching.{starts_matched, steps_keep_matched}
use Rattle.sequential_object.proofs.laws.ends_match.Goals as goal

pub returns : goal.returns
returns c = record { starts = starts_matched; steps = steps_keep_matched }

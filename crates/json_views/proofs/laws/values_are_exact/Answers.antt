use Rattle.json_views.proofs.Exact.{array_exact, object_exact, optional_exact, text_exact}
use Rattle.json_views.proofs.ExactEnds.{unmet_exact}
use Rattle.json_views.proofs.ExactSides.{seen_exact}
use Rattle.json_views.proofs.laws.values_are_exact.Goals as goal

pub returns : goal.returns
returns c = record {
  objects = object_exact;
  arrays = array_exact;
  numbers = optional_exact;
  texts = text_exact;
  unmet = unmet_exact;
  rows = seen_exact;
}

-- No float is in the last line of a run.
use Rattle.std.proofs.Common.{◌≡◌, ℕ, false, List, [], ◌∷◌, Option, Some, None, codes, refl}
use Rattle.serde_json.specs.Data.{string}
use Rattle.serde_json.specs.Written.{has_float}
use Rattle.machine.specs.declared.stop.Stop.{Stop}
use Rattle.json_views.specs.Ends.{end_value, end_words, outcome_stopped, thread_stopped, unmet_value}
use Rattle.json_views.specs.Objects.{count_value, optional_value}
use Rattle.json_views.proofs.Exact.{object_exact, optional_exact, text_exact}

pub unmet_exact : (unmet : Option (List ℕ)) → has_float (unmet_value unmet) ≡ false
unmet_exact None = refl
unmet_exact (Some line) = text_exact line

pub end_exact : (stop : Option Stop) (status : ℕ) (unmet : Option (List ℕ))
    → has_float (end_value stop status unmet) ≡ false
end_exact stop status unmet = object_exact (
    (codes "end", string (end_words stop))
    ∷ (codes "thread", optional_value (thread_stopped stop))
    ∷ (codes "outcome", optional_value (outcome_stopped stop))
    ∷ (codes "status", count_value status)
    ∷ (codes "unmet", unmet_value unmet)
    ∷ []) (
      refl,
      (
        optional_exact (thread_stopped stop),
        (
          optional_exact (outcome_stopped stop),
          (refl, (unmet_exact unmet, tt)),
        ),
      ),
    )

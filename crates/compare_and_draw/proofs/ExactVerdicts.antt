-- No float is in the line of a verdict.
use Rattle.std.proofs.Common.{◌≡◌, false, [], ◌∷◌, codes, refl}
use Rattle.serde_json.specs.Data.{string}
use Rattle.serde_json.specs.Written.{has_float}
use Rattle.comparator.specs.declared.verdict.Verdict.{Verdict}
use Rattle.json_views.specs.Exact.{ValuesAreExact}
use Rattle.json_views.specs.Objects.{count_value, optional_value}
use Rattle.compare_and_draw.specs.Differences.{verdict_status}
use Rattle.compare_and_draw.specs.Json.{verdict_row, verdict_thread, verdict_value, verdict_word}

pub verdict_exact : ValuesAreExact → (verdict : Verdict) → has_float (verdict_value verdict) ≡ false
verdict_exact exact verdict = exact.objects (
    (codes "verdict", string (verdict_word verdict))
    ∷ (codes "thread", optional_value (verdict_thread verdict))
    ∷ (codes "row", optional_value (verdict_row verdict))
    ∷ (codes "status", count_value (verdict_status verdict))
    ∷ [])
    (refl, (exact.numbers (verdict_thread verdict), (exact.numbers (verdict_row verdict), (refl, tt))))

use Rattle.std.proofs.Common.{◌≡◌, map, take}
use Rattle.serde_json.specs.View.{view}
use Rattle.explore_texts.specs.FoundJson.{blocked_value}
use Rattle.explore_texts.proofs.json_lines.waits_value.Given as goal

abbrev pub invariant-loop-line : goal.invariant-loop-line
invariant-loop-line l = map view l.values.items ≡ map blocked_value (take l.line-index l.waits)

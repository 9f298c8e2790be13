use Rattle.std.proofs.Common.{◌≡◌, map, take}
use Rattle.serde_json.specs.View.{view}
use Rattle.json_views.specs.Objects.{count_value}
use Rattle.explore_texts.proofs.json_lines.threads_value.Given as goal

abbrev pub invariant-loop-thread : goal.invariant-loop-thread
invariant-loop-thread l = map view l.values.items ≡ map count_value (take l.thread-index l.threads)

use Rattle.serde_json.specs.View.{view}
use Rattle.explore_texts.proofs.ExactFound.{found_exact}
use Rattle.explore_texts.proofs.json_lines.push_found_json.Goals as goal

pub push_line-requires : goal.push_line-requires
push_line-requires c =
    rw c.in_ok-value.ensures
    (found_exact c.values_are_exact.ensures (view c.args.case) c.args.runs c.args.before.observation.now
    c.args.now.observation.now c.args.now.looked.now c.args.cut.now c.args.waits.now c.args.difference.verdict
    c.args.difference.ends_alike c.requires)

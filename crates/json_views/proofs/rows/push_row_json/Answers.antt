use Rattle.answered_calls.specs.Seen.{seen}
use Rattle.json_views.proofs.ExactRows.{row_exact}
use Rattle.json_views.proofs.rows.push_row_json.Goals as goal

pub push_line-requires : goal.push_line-requires
push_line-requires c = rw c.in_ok-value.ensures (row_exact (seen c.args.call.now))

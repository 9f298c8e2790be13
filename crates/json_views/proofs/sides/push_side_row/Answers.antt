use Rattle.std.specs.Prelude.{option_copied}
use Rattle.json_views.proofs.ExactSides.{side_row_exact}
use Rattle.json_views.proofs.sides.push_side_row.Goals as goal

pub push_line-requires : goal.push_line-requires
push_line-requires c =
    rw c.in_ok-value.ensures
    (side_row_exact c.args.by.now c.args.turns c.args.thread c.args.number (option_copied c.args.row))

use Rattle.std.proofs.Common.{◌≡◌, ◌++◌, drop}
use Rattle.comparator.specs.Renaming.{renamed_rows}
use Rattle.comparator.proofs.naming.Names.in_rows.Given as goal

abbrev pub invariant-loop-row : goal.invariant-loop-row
invariant-loop-row l =
    ((renamed_rows l.self (drop l.row-index l.rows)).0 ≡ (renamed_rows l.initial.self l.rows).0)
    × (l.renamed.items ++ (renamed_rows l.self (drop l.row-index l.rows)).1
    ≡ (renamed_rows l.initial.self l.rows).1)

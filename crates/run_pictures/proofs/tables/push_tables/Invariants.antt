use Rattle.std.proofs.Common.{◌≡◌, ◌++◌, drop}
use Rattle.run_pictures.specs.Tables.{tables_text}
use Rattle.run_pictures.proofs.tables.push_tables.Given as goal

abbrev pub invariant-loop-number : goal.invariant-loop-number
invariant-loop-number l =
    l.text.items ++ tables_text l.differs l.number (drop l.number l.runs)
    ≡ l.initial.text.items ++ tables_text l.differs 0 l.runs

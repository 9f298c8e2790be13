use Rattle.std.proofs.Common.{◌≡◌, ◌++◌, drop}
use Rattle.std.specs.List.{flat_map}
use Rattle.run_pictures.specs.Tables.{row_text}
use Rattle.run_pictures.proofs.tables.push_rows.Given as goal

abbrev pub invariant-loop-drawn : goal.invariant-loop-drawn
invariant-loop-drawn l =
    l.text.items ++ flat_map (λ c. row_text l.differs l.run c.call) (drop l.drawn-index l.calls)
    ≡ l.initial.text.items ++ flat_map (λ c. row_text l.differs l.run c.call) l.calls

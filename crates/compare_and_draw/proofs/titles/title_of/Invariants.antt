use Rattle.std.proofs.Common.{◌≡◌, ◌++◌, ℕ, List, Option, drop, map}
use Rattle.std.specs.List.{flat_map}
use Rattle.compare_and_draw.specs.Draws.{path_text, title_text}
use Rattle.compare_and_draw.proofs.titles.title_of.Given as goal

abbrev pub invariant-loop-source : goal.invariant-loop-source
invariant-loop-source g l =
    l.title.items ++ flat_map (λ (s : List ℕ × Option (List ℕ)). path_text s.0)
    (map (λ s. (s.path.now, g.R.TextReader.remaining s.reader)) (drop l.source-index l.sources))
    ≡ title_text (map (λ s. (s.path.now, g.R.TextReader.remaining s.reader)) l.sources)

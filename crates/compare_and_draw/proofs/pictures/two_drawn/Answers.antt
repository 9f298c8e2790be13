use Rattle.std.proofs.Common.{[], ◌∷◌}
use Rattle.std.proofs.lemmas.Result.{IfOk-weaker}
use Rattle.compare_and_draw.specs.Pictures.{ArePictures, TwoRunsDraw, place_of}
use Rattle.compare_and_draw.proofs.pictures.two_drawn.Goals as goal

pub returns : goal.returns
returns c =
    let options = c.args.options in
    let title = c.args.title.now in
    let one = c.args.one in
    let other = c.args.other in
    let verdict = c.compare_by-verdict.result in
    let first = c.in_ok-first.first in
    let second = c.in_ok-second.second in
    IfOk-weaker c.pictures.result
    (ArePictures options title (first ∷ second ∷ []) (place_of verdict))
    (TwoRunsDraw options title c.args.texts.now (one.name.now, one.run.now) (other.name.now, other.run.now))
    (λ drawn are. (
      verdict,
      c.compare_by-verdict.ensures,
      (first, c.in_ok-first.ensures, (second, c.in_ok-second.ensures, are)),
    ))
    (rw c.place_of.ensures at c.pictures.ensures)

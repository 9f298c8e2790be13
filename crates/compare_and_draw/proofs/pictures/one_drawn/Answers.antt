use Rattle.std.proofs.Common.{[], ◌∷◌, None}
use Rattle.std.proofs.lemmas.Result.{IfOk-weaker}
use Rattle.compare_and_draw.specs.Pictures.{ArePictures, OneDraws}
use Rattle.compare_and_draw.proofs.pictures.one_drawn.Goals as goal

pub returns : goal.returns
returns c =
    let options = c.args.options in
    let title = c.args.title.now in
    let one = c.args.one in
    let run = c.in_ok-run.run' in
    IfOk-weaker c.pictures.result (ArePictures options title (run ∷ []) None)
    (OneDraws options title c.args.texts.now one.name.now one.run.now)
    (λ drawn are. (run, c.in_ok-run.ensures, are)) c.pictures.ensures

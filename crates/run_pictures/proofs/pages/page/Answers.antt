use Rattle.std.proofs.Common.{◌≡◌}
use Rattle.std.proofs.lemmas.Result.{IfOk-weaker}
use Rattle.run_pictures.specs.Page.{IsPage, page_text}
use Rattle.run_pictures.proofs.pages.page.Goals as goal

pub returns : goal.returns
returns c =
    let title = c.args.title.now in
    let runs = c.args.runs.now in
    let differs = c.args.differs in
    let layout = c.in_ok-layout.layout in
    IfOk-weaker c.page_of.result
    (λ page. page.items ≡ page_text title runs differs layout)
    (λ page. IsPage title runs differs page.items)
    (λ page is. (layout, c.in_ok-layout.ensures, is)) c.page_of.ensures

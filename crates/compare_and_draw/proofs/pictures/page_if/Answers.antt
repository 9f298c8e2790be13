use Rattle.compare_and_draw.proofs.pictures.page_if.Goals as goal

pub returns-in_ok-page : goal.returns-in_ok-page
returns-in_ok-page c = rw (c.if-asked.true, c.from_vec.ensures) c.in_ok-page.ensures

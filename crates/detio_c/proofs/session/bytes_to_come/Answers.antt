use Rattle.std.proofs.Common.{◌≤◌, ℕ, List, ap, length, option_copied, slice_get, subst, sym, ◌∙◌}
use Rattle.posix_terms.specs.declared.transcript.HistoryRow.{HistoryRow}
use Rattle.c_words.specs.Words.{bytes_in}
use Rattle.detio_c.proofs.session.bytes_to_come.Goals as goal
use Rattle.detio_c.proofs.Fits.{granted_fits, recorded_fits}

pub returns-in-Granted-clause-most : goal.returns-in-Granted-clause-most
returns-in-Granted-clause-most c = λ r told. let o = c.in-Granted in let kept = c.history-rows.ensures.faithful.kept in
    subst (λ (n : ℕ). length (bytes_in r) ≤ n) (sym c.bytes_at_end.ensures)
    (granted_fits _ kept.end c.args.i o.row o.object o.ends r kept.ends c.requires (sym c.phase.ensures.phase ∙ o.is)
    told)

pub returns-in-Some-clause-most : goal.returns-in-Some-clause-most
returns-in-Some-clause-most c = λ r told. let o = c.in-Recorded in let kept = c.history-rows.ensures.faithful.kept in
    subst (λ (n : ℕ). length (bytes_in r) ≤ n) (sym c.bytes_came.ensures)
    (recorded_fits _ kept.end c.args.i o.outing c.in-Some.row.now r kept.ends c.requires
    (sym c.phase.ensures.phase ∙ o.is)
    (ap (λ (rs : List HistoryRow). slice_get rs o.outing.row) (sym c.history-rows.ensures.rows) ∙ sym c.row_at.ensures
    ∙ ap option_copied c.in-Some.is) told)

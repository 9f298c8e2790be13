use Rattle.std.proofs.Common.{List, Some, get_or, sym, ap, ◌∙◌, subst}
use Rattle.posix_terms.specs.declared.transcript.HistoryRow.{HistoryRow}
use Rattle.posix_terms.specs.declared.request.Request.{Request}
use Rattle.posix_terms.specs.declared.transcript.Turn.{Turn}
use Rattle.machine.specs.Requests.{IsRequest, out_of}
use Rattle.machine.specs.Shown.{Shown}
use Rattle.machine.proofs.Asking.{is_request}
use Rattle.machine.proofs.machine.Machine.request.Goals as goal

pub returns-clause-request : goal.returns-clause-request
returns-clause-request g c =
    let m = c.self.inside in
    let o = c.in-Some.outing in
    let row = c.index-rows-outing.result in
    let out = sym c.in-Some.ensures in
    let phase = c.phase.ensures in
    let at = c.index-rows-outing.is ∙ ap (λ (rows : List HistoryRow). get_or rows o.row row) c.rows.ensures in
    let copy = c.in_ok-try_clone.ensures ∙ c.call.ensures in
    let request : Turn → Request = λ turn. record {
      kind = o.errand.kind;
      asked = o.errand.asked;
      call = c.in_ok-try_clone.field-0;
      turn = turn;
    } in
    subst (λ (x : Shown g.row.D.Denot). IsRequest x.whole c.args.i (Some (request c.turn.result))) c.self.view_is
    (subst (λ (turn : Turn). IsRequest m.calls c.args.i (Some (request turn))) (sym c.turn.ensures)
    (is_request m.calls c.args.i o row c.in_ok-try_clone.field-0 (sym (ap out_of phase) ∙ out) at copy))

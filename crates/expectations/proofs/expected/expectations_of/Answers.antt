use Rattle.std.proofs.Common.{arith, refl, ◌≡◌, ℕ, ◌<◌, length, List, [], slice_index_or, Bor, ◌∙◌, map, sym}
use Rattle.std.proofs.Common.{below_more}
use Rattle.std.proofs.lemmas.List.{length-map}
use Rattle.std.proofs.lemmas.Result.{err_from_is_err_and}
use Rattle.expectations.proofs.Lines.{bad_here, before_none, before_some, is_good, no_lines, one_line, text_at}
use Rattle.expectations.proofs.expected.expectations_of.Goals as goal
use Rattle.expectations.proofs.expected.expectations_of.Goals.{in-Some+in_ok-push, in_default}

pub loop-i-init : goal.loop-i-init
loop-i-init c = record {
  above = no_lines;
  so_far = rw c.new-expectations.ensures.items refl;
  good = λ j h. absurd (omega arith);
}

pub returns-in_err-expectation-clause-err : goal.returns-in_err-expectation-clause-err
returns-in_err-expectation-clause-err c =
    let texts = map (λ (l : Bor (List ℕ)). l.now) c.in_ok-lines.lines.items in
    let so_far = c.loop-i.invariant in
    let inside : c.loop-i.i < length texts = rw length-map (omega arith) in
    let here : slice_index_or texts c.loop-i.i [] ≡ c.index.result.now.now =
    text_at c.in_ok-lines.lines.items c.loop-i.i c.index.result.now (omega arith) c.index.ensures in
    let p = err_from_is_err_and c.from_residual-in_err-expectation.result c.from_residual-in_err-expectation.ensures.1
    in
    rw (p.1, p.2, ← c.in_ok-lines.ensures)
    (bad_here texts c.loop-i.i c.loop-i.above c.index.result.now.now c.in_err-expectation.field-0.0 inside
    so_far.above here so_far.good c.in_err-expectation.ensures.err)

pub loop-i-preserved : goal.loop-i-preserved
loop-i-preserved c =
    let texts = map (λ (l : Bor (List ℕ)). l.now) c.in_ok-lines.lines.items in
    let so_far = c.loop-i.invariant in
    let inside : c.loop-i.i < length texts = rw length-map (omega arith) in
    let here : slice_index_or texts c.loop-i.i [] ≡ c.index.result.now.now =
    text_at c.in_ok-lines.lines.items c.loop-i.i c.index.result.now (omega arith) c.index.ensures in
    let again : slice_index_or texts c.loop-i.i [] ≡ c.index-in-loop-i.result.now.now =
    text_at c.in_ok-lines.lines.items c.loop-i.i c.index-in-loop-i.result.now (omega arith)
    c.index-in-loop-i.ensures in
    let expected = rw (so_far.above, ← here) at c.in_ok-expectation.ensures.ok in
    record {
      above = c.in_ok-above.ensures ∙ rw (so_far.above, ← again) (sym (one_line texts c.loop-i.i inside));
      so_far = elim c.match-branch-3.branch [
        | in-Some+in_ok-push w ↦
            let one = rw w.in-Some.is at expected in
            rw (w.expectations-is, w.in_ok-push.ensures.items) (before_some texts c.loop-i.i _ _ one so_far.so_far)
        | in_default w ↦
            let none = rw w.in_default.is at expected in
            rw w.expectations-is (before_none texts c.loop-i.i _ none so_far.so_far)
      ];
      good = below_more _ _ so_far.good (is_good _ _ expected);
    }

use Rattle.std.proofs.Common.{◌≡◌, ◌+◌, ◌-◌, get_or, arith, inl, inr, ap, ◌∙◌}
use Rattle.std.proofs.lemmas.List.{get_or-drop, take_rest, length-drop}
use Rattle.std.proofs.lemmas.Bool.{cases_lt}
use Rattle.memory_files.proofs.pages.Pages.write.Goals as goal

pub loop-done-preserved : goal.loop-done-preserved
loop-done-preserved c = record {
  within = omega (
    arith,
    rw (take_rest c.args.bytes.now c.loop-done.done, length-drop) at
        c.write_piece-done.ensures.count,
  );
  before = λ k h. c.write_piece-done.ensures.before k (omega arith) ∙ c.loop-done.invariant.before k h;
  bytes = λ k h. elim (cases_lt k c.loop-done.done) [
    | inl old ↦ c.write_piece-done.ensures.before (c.args.start + k) (omega arith) ∙ c.loop-done.invariant.bytes k old
    | inr new ↦
        let here : c.args.start + c.loop-done.done + (k - c.loop-done.done) ≡ c.args.start + k = omega arith in
        let there : c.loop-done.done + (k - c.loop-done.done) ≡ k = omega arith in
        rw here at (c.write_piece-done.ensures.bytes (k - c.loop-done.done) (omega arith))
        ∙ ap (λ xs. get_or xs (k - c.loop-done.done) 0) (take_rest c.args.bytes.now c.loop-done.done)
        ∙ get_or-drop c.loop-done.done c.args.bytes.now (k - c.loop-done.done) 0
        ∙ ap (λ i. get_or c.args.bytes.now i 0) there
  ];
  behind = λ k h. c.write_piece-done.ensures.behind k (omega arith) ∙ c.loop-done.invariant.behind k (omega arith);
  places_before = λ place h. c.write_piece-done.ensures.others place (λ e. omega arith)
      ∙ c.loop-done.invariant.places_before place h;
  places_behind = λ place h. c.write_piece-done.ensures.others place (λ e. omega arith)
      ∙ c.loop-done.invariant.places_behind place h;
}

use Rattle.std.proofs.Common.{◌≡◌, ◌∙◌, List, ℕ, ap, drop, map, rules, Bor}
use Rattle.thread_scripts.specs.Words.{lines_of}
use Rattle.minimiser.specs.Reductions.{kept_lines}
use Rattle.minimiser.proofs.Keeping.{at_end, no_lines}
use Rattle.minimiser.proofs.reduction.text_kept.Goals as goal

pub returns : goal.returns
returns c =
    let kept = c.args.kept.now in
    let items = c.deref-line-items.result.now in
    let rest = drop c.loop-i.i kept in
    let now : List (Bor (List ℕ)) → List (List ℕ) = map (λ line. line.now) in
    let all : now items ≡ lines_of c.args.text.now = search rules in
    c.from_vec.ensures
    ∙ at_end (λ (lines : List (Bor (List ℕ))). kept_lines rest (now lines)) c.loop-i.rest.items
    (kept_lines kept (now items)) items c.loop-i.i (no_lines rest) c.loop-i-test.false
    c.loop-i.invariant
    ∙ ap (kept_lines kept) all

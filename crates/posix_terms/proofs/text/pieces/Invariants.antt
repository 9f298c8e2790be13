use Rattle.std.proofs.Common.{◌≡◌, map, take, length, not, filter, ◌==◌}
use Rattle.posix_terms.proofs.text.pieces.Given as goal

abbrev pub invariant-loop-piece : goal.invariant-loop-piece
invariant-loop-piece l = map (λ w. w.now) l.pieces.items
    ≡ filter (λ piece. not (length piece == 0)) (map (λ w. w.now) (take l.piece-index l.piece-items))

use Rattle.std.proofs.Common.{◌∙◌, ◌∷◌, arith}
use Rattle.deadlocks.proofs.Moments.{place_more}
use Rattle.deadlocks.proofs.places.ThreadPlaces.pass.Goals as goal

pub returns : goal.returns
returns c = λ threads past later are within.
    let passed = c.loop-i.invariant in
    let moves = c.may_move-moves.ensures threads past (c.args.row.now ∷ later) are within in
    record {
      count = passed.count ∙ are.count;
      each = λ i d inside.
          passed.done i d (omega (arith, inside, c.loop-i-test.false, are.count, c.len-i-end.ensures))
          ∙ rw (are.each i d inside, c.turn-thread.ensures, moves) (place_more i c.args.row.now past later);
    }

use Rattle.std.proofs.Common.{◌≡◌, arith, length}
use Rattle.recorder.proofs.Gathering.{empty_agree}
use Rattle.recorder.proofs.run.without_log.Goals as goal

pub returns-clause-agrees : goal.returns-clause-agrees
returns-clause-agrees g c =
    let count : length c.loop.own.items ≡ c.args.header.threads =
    omega (
      arith,
      c.loop.invariant.own_count,
      c.loop.auto.counter-end,
      c.loop-test.false,
      c.len-end.ensures,
      c.requires.threads,
    ) in
    rw c.none.ensures (empty_agree c.args.header.threads 0 c.loop.own.items count c.loop.invariant.empty)

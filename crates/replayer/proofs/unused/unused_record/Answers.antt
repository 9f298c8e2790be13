use Rattle.std.proofs.Common.{◌<◌, rules, arith}
use Rattle.replayer.proofs.FirstUnused.{number_fits}
use Rattle.replayer.proofs.unused.unused_record.Goals as goal

pub overflow_cast-result : goal.overflow_cast-result
overflow_cast-result c =
    let low : c.in_ok-thread.number < 4294967296 =
    number_fits c.args.log.now.header c.args.log.now.header.threads c.args.log.now.records c.args.rows.now
    c.in_ok-thread.thread c.in_ok-thread.number c.requires.log.each_good (search rules) in
    grind (arith, low)

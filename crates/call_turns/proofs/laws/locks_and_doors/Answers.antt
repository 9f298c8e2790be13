use Rattle.std.proofs.Common.{sym}
use Rattle.call_turns.proofs.Standing.{number_known}
use Rattle.call_turns.proofs.laws.locks_and_doors.Goals as goal

pub returns-clause-numbers : goal.returns-clause-numbers
returns-clause-numbers c h w call carried stands =
    sym (number_known c.table_follows_step.ensures.follows h w stands call carried)

use Rattle.std.proofs.Common.{rules}
use Rattle.thread_scripts.proofs.Digits.{next_too_great}
use Rattle.thread_scripts.proofs.numbers.natural.Goals as goal

pub returns-then-next-limit : goal.returns-then-next-limit
returns-then-next-limit c = search (rules, next_too_great)

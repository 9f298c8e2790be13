use Rattle.std.proofs.Common.{◌≡◌, ◌≤◌, ◌-◌, []}
use Rattle.std.specs.List.{range_with_len}
use Rattle.explorer.specs.Cases.{CasesJoin}
use Rattle.explorer.specs.Groups.{runs_of}
use Rattle.explorer.specs.Subject.{subject}
use Rattle.explorer.proofs.trial.Trial.explored.Given as goal

-- the cases so far have joined the groups
abbrev pub invariant-loop-case : goal.invariant-loop-case
invariant-loop-case g l = record {
  joined : CasesJoin (subject l.self) (g.D.Delays.delays_of l.delays) []
      (range_with_len l.fn.cases.start (l.case - l.fn.cases.start)) l.groups;
  counted : runs_of l.groups ≡ l.case - l.fn.cases.start;
  from : l.fn.cases.start ≤ l.case;
  within : l.case - l.fn.cases.start ≤ l.fn.cases.end - l.fn.cases.start;
}

-- the cases to come
abbrev pub decreases-loop-case : goal.decreases-loop-case
decreases-loop-case g l = l.cases.end - l.case

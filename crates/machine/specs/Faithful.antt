-- Believed: a contract of the headline stands on it.
-- What each machine promises at any time, whichever events were made and whatever came from
-- outside.
use Rattle.lock_machine.specs.Whole.{settings_in}
use Rattle.sequential_object.specs.Legal.{IsLegal}
use Rattle.machine.specs.Begins.{BeginsPlainRun}
use Rattle.machine.specs.Covered.{IsCovered}
use Rattle.machine.specs.History.{AreRising}
use Rattle.machine.specs.Kept.{IsKept}
use Rattle.machine.specs.Shown.{Shown}

-- a machine is faithful: its history is legal, its turns rise, its log covers the history, and the
-- history begins that of the plain run
pub record IsFaithful (D : Type 0) (m : Shown D) : Type 0 where
  -- a run leads to it, of the very steps that were asked and outcomes that were recorded
  pub kept : IsKept D m
  -- the sequential object, given the calls of the rows in this order, gives each answer
  pub legal : IsLegal (settings_in m.whole) m.whole.rows
  -- the granted turns rise
  pub rising : AreRising m.whole.rows
  -- the log in the sink has a record for each outcome, of the kind that its call asks for
  pub covered : IsCovered D m
  -- the rows, and what each thread saw, are a beginning of the plain run
  pub begins : BeginsPlainRun D m

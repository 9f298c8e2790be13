-- Believed: a contract of the headline stands on it.
-- What contracts see of a machine.
use Rattle.std.specs.Prelude.{List, Option}
use Rattle.input_log.specs.Writing.{Writing}
use Rattle.lock_machine.specs.Whole.{Whole}
use Rattle.machine.specs.declared.stop.Stop.{Stop}

-- the threads with their locks, the table and the rows; what the log's writer wrote; by object
-- number the doors that are not outside; and why the machine was stopped, if it was
pub record Shown (D : Type 0) : Type 0 where
  pub whole : Whole
  pub log : Writing
  pub doors : List (Option D)
  pub stop : Option Stop

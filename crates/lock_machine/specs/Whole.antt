-- Believed: a contract of the headline stands on it.
-- What contracts see of a lock machine.
use Rattle.std.specs.Prelude.{ℕ, List, get_or}
use Rattle.det_mutex.specs.declared.lock.DetLock.{DetLock}
use Rattle.call_turns.specs.Store.{Stored}
use Rattle.posix_terms.specs.declared.transcript.HistoryRow.{HistoryRow}
use Rattle.posix_terms.specs.declared.transcript.Settings.{Settings}
use Rattle.lock_machine.specs.Threads.{Thread}
use Rattle.lock_machine.specs.Views.{no_thread}

-- the settings of the run, the threads, the locks of the table and of the object numbers, what the
-- table holds, and the rows
pub record Whole : Type 0 where
  pub settings : Settings
  pub threads : List Thread
  pub lock : DetLock
  pub objects : List DetLock
  pub table : Stored
  pub rows : List HistoryRow

-- thread k of a machine
abbrev pub thread_at : Whole → ℕ → Thread
thread_at w k = get_or w.threads k no_thread

-- the settings of a machine
abbrev pub settings_in : Whole → Settings
settings_in w = w.settings

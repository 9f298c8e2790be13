-- Believed: a contract of the headline stands on it.
-- A call as a line of a script gives it.
use Rattle.posix_terms.specs.declared.call.Call as declared
use Rattle.thread_scripts.specs.declared.line.Number.{Number}
use Rattle.thread_scripts.specs.declared.line.Data.{Data}

-- its numbers and bytes are found when the line is executed
abbrev pub CallLine : Type 0
CallLine = declared.Call Number Data

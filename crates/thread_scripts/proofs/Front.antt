-- Lines that were read before the others.
use Rattle.std.proofs.Common.{List, ◌++◌, Result, Ok, Err}
use Rattle.thread_scripts.specs.Faults.{Fault}
use Rattle.thread_scripts.specs.declared.line.Line.{Line}

abbrev pub with_front : List Line → Result (List Line) Fault → Result (List Line) Fault
with_front front (Ok lines) = Ok (front ++ lines)
with_front front (Err fault) = Err fault

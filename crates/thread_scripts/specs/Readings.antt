-- Internal: no contract of the headline or of a command stands on it.
-- What the lines of a text say, as a program has it.
use Rattle.std.specs.Prelude.{Option, Some, None}
use Rattle.thread_scripts.specs.declared.line.Line.{Line}
use Rattle.thread_scripts.specs.declared.readings.LineReading.{LineReading}
use Rattle.thread_scripts.specs.declared.readings.LineReading.TheVariants as reading

-- what a line says, if it is good: a comment, an empty line and a line of spaces say nothing
abbrev pub said : LineReading → Option (Option Line)
said reading.Bad = None
said reading.Nothing = Some None
said (reading.Line line) = Some (Some line)

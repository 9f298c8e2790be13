-- Believed: a contract of a command stands on it.
-- Why a text is not a script, and what a result says of a
-- meaning. Where memory was lacking it says nothing.
use Rattle.std.specs.Prelude.{◌≡◌, ℕ, Option, Some, None, Result, Ok, Err}
use Rattle.thread_scripts.specs.declared.fault.LineFault.{LineFault}
use Rattle.thread_scripts.specs.declared.fault.LineFault.TheVariants as line_fault
use Rattle.thread_scripts.specs.declared.fault.ScriptFault.{ScriptFault}
use Rattle.thread_scripts.specs.declared.fault.ScriptFault.TheVariants as script_fault

-- why a text is not a script: its first bad line, counted from 1, or too many lines
pub data Fault : Type 0 where
  bad_line : ℕ → Fault
  too_long : Fault

-- a part of a line was read, or it is bad
abbrev pub Reads : {X : Type 0} → Result X LineFault → Option X → Type 0
Reads (Ok x) meaning = meaning ≡ Some x
Reads (Err line_fault.Bad) meaning = meaning ≡ None
Reads (Err line_fault.Memory) meaning = Unit {0}

-- a text was read, or it is not a script
abbrev pub Parses : {X : Type 0} → Result X ScriptFault → Result X Fault → Type 0
Parses (Ok x) meaning = meaning ≡ Ok x
Parses (Err (script_fault.BadLine n)) meaning = meaning ≡ Err (bad_line n)
Parses (Err script_fault.TooLong) meaning = meaning ≡ Err too_long
Parses (Err script_fault.Memory) meaning = Unit {0}

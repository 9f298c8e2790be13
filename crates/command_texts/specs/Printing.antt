-- Believed: a contract of a command stands on it.
-- What a command prints, with its status, and the lines of its faults.
use Rattle.std.specs.Prelude.{◌≡◌, ◌⊎◌, ℕ, Bool, List, [], ◌++◌, Option, codes}
use Rattle.std.specs.Fmt.{decimal}
use Rattle.std.specs.Io.KnownBytes.{Appends}
use Rattle.posix_terms.specs.declared.limits.TheConstants.Limits as limit
use Rattle.posix_terms.specs.declared.transcript.Row.{Row}
use Rattle.thread_scripts.specs.Faults.{Fault, bad_line, too_long}
use Rattle.machine.specs.declared.stop.Stop.{Stop}
use Rattle.command_texts.specs.Transcripts.{◌+++◌, transcripts_text, end_text, end_status}
use Rattle.command_texts.specs.declared.printed.Printed.{Printed}

-- a line on standard error, and this status
abbrev pub fault_printed : ℕ → List ℕ → Printed
fault_printed status line = record { status = status; output = []; errors = line }

-- what is printed where there are not as many scripts as a run can have
abbrev pub needs_scripts : Printed
needs_scripts = fault_printed 2
    (codes "needs 1 to " +++ decimal limit.THREADS +++ codes " scripts\n")

-- what is printed where memory ran out
abbrev pub no_memory : Printed
no_memory = fault_printed 4 (codes "no memory\n")

-- what is printed for a file that cannot be read
abbrev pub cannot_read : List ℕ → Printed
cannot_read path = fault_printed 4 (codes "cannot read " +++ path +++ codes "\n")

-- what is printed for a file that cannot be written
abbrev pub cannot_write : List ℕ → Printed
cannot_write path = fault_printed 4 (codes "cannot write " +++ path +++ codes "\n")

-- script i is not a script
abbrev pub script_fault : ℕ → Fault → Printed
script_fault i (bad_line n) = fault_printed 3
    (codes "script " +++ decimal i +++ codes ": bad line " +++ decimal n +++ codes "\n")
script_fault i too_long = fault_printed 3 (codes "script " +++ decimal i +++ codes ": too long\n")

-- a run in which the threads saw this, and which ended so
abbrev pub run_printed : Bool → List (List Row) → Option Stop → Printed
run_printed turns transcripts stop =
    record {
      status = end_status stop;
      output = transcripts_text turns 0 transcripts ++ end_text stop;
      errors = [];
    }

-- the bytes that a command appended to standard output and
-- standard error, and its status, are these
pub record IsPrinted (printed : Printed) (status : ℕ)
    (output output' errors errors' : Option (List ℕ)) : Type 0 where
  pub status_is : status ≡ printed.status
  pub output_is : Appends output output' printed.output
  pub errors_are : Appends errors errors' printed.errors

-- the device failed while the output was written
pub record IsCut (status : ℕ) (errors errors' : Option (List ℕ)) : Type 0 where
  pub status_is : status ≡ 4
  pub errors_are : Appends errors errors' (codes "cannot write -\n")

-- a command printed one of these, or could not write it; or that there is no memory
abbrev pub Prints : (Printed → Type 0) → ℕ → Option (List ℕ) → Option (List ℕ) → Option (List ℕ)
    → Option (List ℕ) → Type 0
Prints Meant status output output' errors errors' =
    ((printed : Printed) × Meant printed
    × (IsPrinted printed status output output' errors errors' ⊎ IsCut status errors errors'))
    ⊎ IsPrinted no_memory status output output' errors errors'

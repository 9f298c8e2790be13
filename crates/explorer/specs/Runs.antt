-- Believed: a contract of a command stands on it.
-- The plain run of scripts, and what is seen in it.
use Rattle.std.specs.Prelude.{◌≡◌, ◌⊎◌, List, Ok, true, false}
use Rattle.thread_scripts.specs.declared.line.Line.{Line}
use Rattle.call_machine.specs.Plain.{IsPlainRun, are_threads}
use Rattle.call_machine.specs.Setup.{Inputs}
use Rattle.call_machine.specs.declared.fault.PlainFault.{PlainFault}
use Rattle.call_machine.specs.declared.fault.PlainFault.TheVariants as plain_fault
use Rattle.call_machine.specs.declared.plain.Plain.{Plain}
use Rattle.machine.specs.Starting.{are_settings}
use Rattle.command_texts.specs.FirstFaults.{IsFirst}
use Rattle.command_texts.specs.Reading.{scripts_from}
use Rattle.command_texts.specs.declared.first_fault.FirstFault.{FirstFault}
use Rattle.explorer.specs.Faults.{fault_of_run, fault_of_texts}
use Rattle.explorer.specs.Observations.{observed}
use Rattle.explorer.specs.Subject.{Subject}
use Rattle.explorer.specs.declared.fault.RunFault.{RunFault}
use Rattle.explorer.specs.declared.observation.Observation.{Observation}

-- these scripts, with what comes for them from outside and the settings
abbrev pub inputs_of : Subject → List (List Line) → Inputs
inputs_of subject scripts =
    record { scripts = scripts; outcomes = subject.outcomes; settings = subject.settings }

-- this is the plain run of the scripts that the texts are
abbrev pub IsRun : Subject → Plain → Type 0
IsRun subject plain =
    (scripts : List (List Line)) × (scripts_from 0 subject.texts ≡ Ok scripts)
    × IsPlainRun (inputs_of subject scripts) plain

-- this is seen in it
abbrev pub Sees : Subject → Observation → Type 0
Sees subject observation =
    (plain : Plain) × IsRun subject plain × (observation ≡ observed plain)

-- ## Faults

-- why these were not run. Without memory nothing is said
abbrev pub IsNotRun : Inputs → PlainFault → Type 0
IsNotRun input plain_fault.Threads = are_threads input ≡ false
IsNotRun input plain_fault.Settings =
    (are_threads input ≡ true) × (are_settings input.settings ≡ false)
IsNotRun input plain_fault.Memory = Unit {0}

-- why there was no such run: the texts are not scripts, or these are not run
abbrev pub IsFault : Subject → RunFault → Type 0
IsFault subject fault =
    ((first : FirstFault) × (fault ≡ fault_of_texts first)
    × IsFirst first (scripts_from 0 subject.texts))
    ⊎ ((scripts : List (List Line)) × (scripts_from 0 subject.texts ≡ Ok scripts)
    × ((why : PlainFault) × (fault ≡ fault_of_run why)
    × IsNotRun (inputs_of subject scripts) why))

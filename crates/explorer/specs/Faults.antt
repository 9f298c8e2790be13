-- Believed: a contract of a command stands on it.
-- Why there was no run.
use Rattle.call_machine.specs.declared.fault.PlainFault.{PlainFault}
use Rattle.call_machine.specs.declared.fault.PlainFault.TheVariants as plain_fault
use Rattle.command_texts.specs.declared.first_fault.FirstFault.{FirstFault}
use Rattle.command_texts.specs.declared.first_fault.FirstFault.TheVariants as first_fault
use Rattle.explorer.specs.declared.fault.RunFault.{RunFault}
use Rattle.explorer.specs.declared.fault.RunFault.TheVariants as fault

-- since the texts are not scripts
abbrev pub fault_of_texts : FirstFault → RunFault
fault_of_texts (first_fault.BadLine script line) = fault.BadLine script line
fault_of_texts (first_fault.TooLong script) = fault.TooLong script
fault_of_texts first_fault.Memory = fault.Memory

-- since the scripts were not run
abbrev pub fault_of_run : PlainFault → RunFault
fault_of_run plain_fault.Threads = fault.Threads
fault_of_run plain_fault.Settings = fault.Settings
fault_of_run plain_fault.Memory = fault.Memory

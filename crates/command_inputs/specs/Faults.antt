-- Believed: a contract of a command stands on it.
-- What is printed for what the commands are given, where it is at fault.
use Rattle.std.specs.Prelude.{ℕ, codes}
use Rattle.std.specs.Fmt.{decimal}
use Rattle.input_log.specs.Faults.{bad_magic, bad_record, bad_version, torn}
use Rattle.input_log.specs.declared.fault.LogFault.{LogFault}
use Rattle.input_log.specs.declared.fault.LogFault.TheVariants as log_fault
use Rattle.command_texts.specs.LogTexts.{fault_line}
use Rattle.command_texts.specs.Printing.{fault_printed, no_memory}
use Rattle.command_texts.specs.Transcripts.{◌+++◌}
use Rattle.command_texts.specs.declared.printed.Printed.{Printed}

-- the settings of a run are not in their ranges
abbrev pub bad_settings : Printed
bad_settings =
    fault_printed 2
    (codes "patience and door cost are 1 to 1000000, and the version of the log is 1 or 2\n")

-- a log of so many threads was given with so many scripts
abbrev pub log_has : ℕ → ℕ → Printed
log_has threads scripts =
    fault_printed 3
    (codes "log has " +++ decimal threads +++ codes " threads, " +++ decimal scripts
    +++ codes " scripts given\n")

-- what is printed for a text that is not a log
abbrev pub no_log_printed : LogFault → Printed
no_log_printed log_fault.BadMagic = fault_printed 3 (fault_line bad_magic)
no_log_printed log_fault.BadVersion = fault_printed 3 (fault_line bad_version)
no_log_printed (log_fault.BadRecord place) = fault_printed 3 (fault_line (bad_record place))
no_log_printed (log_fault.Torn place records) = fault_printed 3 (fault_line (torn place records))
no_log_printed log_fault.Memory = no_memory

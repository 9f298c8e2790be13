-- What the library says of a refusal of its machine.
use Rattle.c_words.specs.declared.fault.LibraryFault.{LibraryFault}
use Rattle.c_words.specs.declared.fault.LibraryFault.TheVariants as fault
use Rattle.machine.specs.declared.refused.Refused.{Refused}
use Rattle.machine.specs.declared.refused.Refused.TheVariants as refused

-- a refusal of the machine
abbrev pub fault_of : Refused → LibraryFault
fault_of (refused.Stopped cause) = fault.Stopped
fault_of refused.WrongPhase = fault.WrongPhase
fault_of refused.ClockFull = fault.ClockFull
fault_of refused.Memory = fault.NoMemory
fault_of refused.Sink = fault.LogFull

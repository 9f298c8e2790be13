-- The numbers of what is refused, as C knows them. Below them 0 is what was done, 1 that there is
-- more to do, and 2 that a call is made again.
use Rattle.std.specs.Prelude.{◌≡◌, ◌⊎◌, ℕ, Option, None}
use Rattle.c_words.specs.declared.fault.LibraryFault.{LibraryFault}
use Rattle.c_words.specs.declared.fault.LibraryFault.TheVariants as fault

-- the number of a fault
abbrev pub code_of : LibraryFault → ℕ
code_of fault.NoSession = 3
code_of fault.NoThread = 4
code_of fault.Stopped = 5
code_of fault.WrongPhase = 6
code_of fault.ClockFull = 7
code_of fault.NoMemory = 8
code_of fault.LogFull = 9
code_of fault.NoAnswer = 10
code_of fault.NoRoom = 11
code_of fault.NotACall = 12
code_of fault.BadSettings = 13
code_of fault.NotALog = 14
code_of fault.EndOfLog = 15
code_of fault.Diverged = 16
code_of fault.Over = 17

-- why there is none: what C says means nothing, and the fault is the one for that; or there was no
-- memory
abbrev pub IsUnsaid : {A : Type 0} → LibraryFault → Option A → LibraryFault → Type 0
IsUnsaid nothing said f = ((f ≡ nothing) × (said ≡ None)) ⊎ (f ≡ fault.NoMemory)

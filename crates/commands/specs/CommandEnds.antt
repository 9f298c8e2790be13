-- Believed: a contract of a command stands on it.
-- How a command ended: what it printed, or that it could not write it.
use Rattle.std.specs.Prelude.{◌⊎◌, ℕ, List, Option}
use Rattle.command_texts.specs.Printing.{IsCut, IsPrinted}
use Rattle.command_texts.specs.declared.printed.Printed.{Printed}

-- the status of a command, and what standard output and standard error had taken before it and have
-- taken after it, where that is known
pub record CommandEnd : Type 0 where
  pub status : ℕ
  pub output_before : Option (List ℕ)
  pub output_after : Option (List ℕ)
  pub errors_before : Option (List ℕ)
  pub errors_after : Option (List ℕ)

-- it printed this
abbrev pub HasPrinted : Printed → CommandEnd → Type 0
HasPrinted printed end =
    IsPrinted printed end.status end.output_before end.output_after end.errors_before
    end.errors_after

-- it printed this, or could not write it
abbrev pub EndsWith : Printed → CommandEnd → Type 0
EndsWith printed end =
    HasPrinted printed end ⊎ IsCut end.status end.errors_before end.errors_after

-- Believed: a contract of a command stands on it.
-- The texts of the scripts that a command reads, or what it prints where it cannot.
use Rattle.std.specs.Prelude.{◌≡◌, ◌⊎◌, ℕ, true, false, List, length, Option}
use Rattle.call_machine.specs.Plain.{counts_fit}
use Rattle.command_texts.specs.Printing.{cannot_read, needs_scripts}
use Rattle.command_texts.specs.Reading.{AreTexts, IsFirstUnread}
use Rattle.command_inputs.specs.declared.sources.SourceTexts.{SourceTexts}
use Rattle.command_inputs.specs.declared.sources.SourceTexts.TheVariants as texts

-- 1 to 16 texts were read of these sources; or this is printed, since there is another number of
-- them, or since one cannot be read
abbrev pub IsRead : List (List ℕ × Option (List ℕ)) → SourceTexts → Type 0
IsRead sources (texts.Read read) =
    (counts_fit (length read.items) (length read.items) ≡ true) × AreTexts sources read.items
IsRead sources (texts.Fault printed) =
    ((counts_fit (length sources) (length sources) ≡ false) × (printed ≡ needs_scripts))
    ⊎ ((path : List ℕ) × IsFirstUnread sources path × (printed ≡ cannot_read path))

-- one text was read of each of so many sources
abbrev pub HasEach : ℕ → SourceTexts → Type 0
HasEach sources (texts.Read read) = length read.items ≡ sources
HasEach sources (texts.Fault printed) = Unit {0}

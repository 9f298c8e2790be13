-- Believed: a contract of a command stands on it.
-- What `detio check --expect` prints of the expectations of scripts.
use Rattle.std.specs.Prelude.{◌≡◌, ◌⊎◌, ℕ, List, ◌++◌, codes}
use Rattle.command_texts.specs.Expecting.{IsGood}
use Rattle.thread_scripts.specs.Words.{lines_of}
use Rattle.expectations.specs.Expected.{IsFault}
use Rattle.expectations.specs.declared.fault.ExpectationFault.TheVariants as fault
use Rattle.expectations.specs.declared.fault.Reason.{Reason}
use Rattle.expectations.specs.declared.fault.Reason.TheVariants as reason
use Rattle.check_commands.specs.Findings.{position_text}

-- what is wrong with an expectation
abbrev pub reason_words : Reason → List ℕ
reason_words reason.Words = codes "bad expectation: not the words of a reply\n"
reason_words reason.NothingAbove = codes "bad expectation: no call above\n"
reason_words reason.NotACall = codes "bad expectation: the line above is not a call\n"

-- the line of a bad expectation
abbrev pub bad_text : List ℕ → ℕ → Reason → List ℕ
bad_text path line reason = position_text path line 1 ++ reason_words reason

-- a line is added for the first bad expectation of a text, and nothing where all are good
abbrev pub AddsBad : List ℕ → List ℕ → List ℕ → List ℕ → Type 0
AddsBad path text output output' = (IsGood text × (output' ≡ output))
    ⊎ ((line : ℕ) × (reason : Reason) × IsFault (lines_of text) (fault.Bad line reason)
    × (output' ≡ output ++ bad_text path line reason))

-- Believed: a contract of a command stands on it.
-- Which texts were read of sources, and which scripts they are.
use Rattle.std.specs.Prelude.{◌≡◌, ◌≤◌, ◌<◌, ◌+◌, ℕ, IfSome, List, [], ◌∷◌, ◌++◌, length, Option}
use Rattle.std.specs.Prelude.{Result, Ok, Err}
use Rattle.thread_scripts.specs.Faults.{Fault}
use Rattle.thread_scripts.specs.Grammar.{script_of}
use Rattle.thread_scripts.specs.declared.line.Line.{Line}

-- the greatest size of a file that a command reads, and so of a log that is recorded
abbrev pub largest_file : ℕ
largest_file = 16777216

-- This text was read of a source, whose whole text it is where that is known
abbrev pub IsText : Option (List ℕ) → List ℕ → Type 0
IsText known text = IfSome known (λ whole. text ≡ whole) × (length text ≤ largest_file)

-- A source could not be read: a read of it failed, as none does
-- where its text is known, or its text is too long
abbrev pub IsUnreadable : Option (List ℕ) → Type 0
IsUnreadable known = IfSome known (λ whole. largest_file < length whole)

-- These texts were read, one from each source: its path, and its text where that is known
abbrev pub AreTexts : List (List ℕ × Option (List ℕ)) → List (List ℕ) → Type 0
AreTexts [] [] = Unit {0}
AreTexts [] (text ∷ texts) = ⊥
AreTexts (source ∷ sources) [] = ⊥
AreTexts (source ∷ sources) (text ∷ texts) = IsText source.1 text × AreTexts sources texts

-- the source of this path could not be read, and all before it were
pub record IsFirstUnread (sources : List (List ℕ × Option (List ℕ))) (path : List ℕ) : Type 0 where
  pub before : List (List ℕ × Option (List ℕ))
  pub known : Option (List ℕ)
  pub after : List (List ℕ × Option (List ℕ))
  pub places : sources ≡ before ++ (path, known) ∷ after
  pub failed : IsUnreadable known
  pub texts : List (List ℕ)
  pub read : AreTexts before texts

-- the sources were read in order: all of them, or up to the first that could not be read
abbrev pub AreRead : List (List ℕ × Option (List ℕ)) → Result (List (List ℕ)) (List ℕ) → Type 0
AreRead sources (Ok texts) = AreTexts sources texts
AreRead sources (Err path) = IsFirstUnread sources path

-- script i before those after it, or the first fault among them
abbrev pub script_before : ℕ → Result (List Line) Fault → Result (List (List Line)) (ℕ × Fault)
    → Result (List (List Line)) (ℕ × Fault)
script_before i (Err fault) others = Err (i, fault)
script_before i (Ok script) (Ok scripts) = Ok (script ∷ scripts)
script_before i (Ok script) (Err fault) = Err fault

-- the scripts of these texts, the first of which has this number, or the first fault
abbrev pub scripts_from : ℕ → List (List ℕ) → Result (List (List Line)) (ℕ × Fault)
scripts_from i [] = Ok []
scripts_from i (text ∷ texts) = script_before i (script_of text) (scripts_from (i + 1) texts)

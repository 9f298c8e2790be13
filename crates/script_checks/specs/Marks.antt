-- Internal: no contract of the headline or of a command stands on it.
-- Marks of lines, while those that are reached are sought.
use Rattle.std.specs.Prelude.{◌≡◌, ◌≢◌, ℕ, Bool, true, false, List, slice_get, Some}
use Rattle.thread_scripts.specs.declared.line.Line.{Line}
use Rattle.script_checks.specs.Reaching.{leads}

-- all that this line leads to is marked
abbrev pub LeadsToMarks : List Bool → ℕ → Line → Type 0
LeadsToMarks marks place l = (target : ℕ) → leads place l target ≡ true
    → slice_get marks target ≢ Some false

-- all that marked lines lead to is marked
abbrev pub AreClosed : List Line → List Bool → Type 0
AreClosed lines marks = (place : ℕ) (l : Line) → slice_get lines place ≡ Some l
    → slice_get marks place ≡ Some true → LeadsToMarks marks place l

-- a marked line leads to this one, which is not marked
pub record IsNext (lines : List Line) (marks : List Bool) (target : ℕ) : Type 0 where
  pub place : ℕ
  pub line : Line
  pub at : slice_get lines place ≡ Some line
  pub marked : slice_get marks place ≡ Some true
  pub led : leads place line target ≡ true
  pub fresh : slice_get marks target ≡ Some false

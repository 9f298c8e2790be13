-- Believed: a contract of a command stands on it.
-- Which lines of a script can be reached, by its jumps alone.
use Rattle.std.specs.Prelude.{◌≡◌, ℕ, ◌+◌, ◌<◌, Bool, true, false, ◌||◌, ◌==◌, ◌↔◌, List, length}
use Rattle.std.specs.Prelude.{slice_get, Some}
use Rattle.thread_scripts.specs.declared.line.Line.{Line}
use Rattle.thread_scripts.specs.declared.line.Line.TheVariants as line

-- after the line of this place, that of the other may be executed next
abbrev pub leads : ℕ → Line → ℕ → Bool
leads place (line.Jump target) next = target == next
leads place (line.JumpIfZero register target) next = (target == next) || (place + 1 == next)
leads place (line.JumpIfFailed target) next = (target == next) || (place + 1 == next)
leads place line.End next = false
leads place _ next = place + 1 == next

-- the first line is reached, and what a line that is reached leads to
pub data IsReached (lines : List Line) : ℕ → Type 0 where
  starts : IsReached lines 0
  follows : (place target : ℕ) (l : Line) → IsReached lines place → slice_get lines place ≡ Some l
      → leads place l target ≡ true → IsReached lines target

-- a mark for each line: whether it is reached
pub record AreReached (lines : List Line) (marks : List Bool) : Type 0 where
  pub each : length marks ≡ length lines
  pub exactly : (place : ℕ) → place < length lines
      → (slice_get marks place ≡ Some true) ↔ IsReached lines place

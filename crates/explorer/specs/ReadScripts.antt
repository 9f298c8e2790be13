-- Internal: no contract of the headline or of a command stands on it.
-- A script that was read once, for many cases of delays.
use Rattle.std.specs.Prelude.{◌≡◌, ℕ, ◌≤◌, IfSome, List, All, length, map, Option, Some, Ok}
use Rattle.std.specs.Prelude.{option_and_then}
use Rattle.posix_terms.specs.declared.limits.TheConstants.Limits.{WORK}
use Rattle.thread_scripts.specs.Grammar.{script_of}
use Rattle.thread_scripts.specs.Words.{lines_of}
use Rattle.thread_scripts.specs.declared.line.Line.{Line}
use Rattle.explorer.specs.Delayed.{works_of}

-- the number of the line of each call in this text, by the lines of its script
abbrev pub call_numbers : List ℕ → List (Option ℕ)
call_numbers text = works_of Some text

-- this is the script of a text, with the numbers of its calls and how many lines the text has
pub record IsRead (text : List ℕ) (script : List Line) (numbers : List (Option ℕ)) (lines : ℕ)
    : Type 0 where
  pub reads : script_of text ≡ Ok script
  pub calls : numbers ≡ call_numbers text
  pub counts : lines ≡ length (lines_of text)

-- there is no delay, or one that a work of a script may have
abbrev pub MayWork : Option ℕ → Type 0
MayWork work = IfSome work (λ units. units ≤ WORK)

-- these are the delays of the calls with these numbers, and none is longer than a work may be
pub record AreDelays (delay : ℕ → Option ℕ) (numbers works : List (Option ℕ)) : Type 0 where
  pub each : works ≡ map (option_and_then delay) numbers
  pub fit : All MayWork works

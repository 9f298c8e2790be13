-- Believed: a contract of a command stands on it.
-- What is said of calls that are blocked for good.
use Rattle.std.specs.Prelude.{ℕ, List, [], ◌∷◌, codes}
use Rattle.std.specs.Fmt.{decimal}
use Rattle.std.specs.List.{flat_map}
use Rattle.answered_calls.specs.declared.blocked.BlockedLine.{BlockedLine}
use Rattle.command_texts.specs.Transcripts.{◌+++◌}

-- the thread and the line of a call
abbrev pub wait_text : BlockedLine → List ℕ
wait_text line = decimal line.thread +++ codes " " +++ decimal line.line

-- those of all, and nothing where there are none
abbrev pub waits_text : List BlockedLine → List ℕ
waits_text [] = []
waits_text (first ∷ others) =
    codes " blocked for good " +++ wait_text first
    +++ flat_map (λ (other : BlockedLine). codes "," +++ wait_text other) others

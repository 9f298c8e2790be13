-- Believed: a contract of a command stands on it.
-- What is looked at in a run besides what its threads saw.
use Rattle.std.specs.Prelude.{◌≡◌, ℕ, All, Bool, List, Option, Some, None, MatchOption, is_some}
use Rattle.std.specs.Prelude.{if◌then◌else◌, unwrap_or}
use Rattle.std.specs.List.{zip}
use Rattle.posix_terms.specs.declared.transcript.Row.{Row}
use Rattle.comparator.specs.Renaming.{renamed}
use Rattle.explorer.specs.declared.observation.Observation.{Observation}
use Rattle.command_inputs.specs.Expects.{IsAsExpected, IsFirstUnmetLine}
use Rattle.command_inputs.specs.declared.expecting.UnmetLine.{UnmetLine}
use Rattle.answered_calls.specs.Blocked.{blocked_lines}
use Rattle.answered_calls.specs.declared.blocked.BlockedLine.{BlockedLine}
use Rattle.explore_texts.specs.Judged.{judged}
use Rattle.explore_texts.specs.Waits.{are_unexpected}
use Rattle.explore_texts.specs.declared.judgement.Judgement.{Judgement}
use Rattle.explore_texts.specs.declared.looked.Looked.{Looked}

-- the line of the first reply that is not as the texts expect, where this was seen
abbrev pub IsUnmetIn : List (List ℕ) → Observation → Option UnmetLine → Type 0
IsUnmetIn texts observation unmet =
    MatchOption unmet
    (All IsAsExpected (zip texts observation.seen))
    (IsFirstUnmetLine (zip texts observation.seen))

-- where the calls stand that were blocked for good
abbrev pub waits_in : List (List ℕ) → Observation → List BlockedLine
waits_in texts observation = blocked_lines texts observation.seen observation.blocked

-- what a run of these texts came to in which this was seen and this is unmet
abbrev pub judgement_in : List (List ℕ) → Observation → Option UnmetLine → Judgement
judgement_in texts observation unmet =
    judged (is_some unmet) (are_unexpected texts (waits_in texts observation)) observation.stop

-- what threads saw, with their descriptors renamed, unless it is compared as it is
abbrev pub names_for : Bool → List (List Row) → Option (List (List Row))
names_for raw seen = if raw then None else Some (renamed seen)

-- this is looked at in a run of these texts in which this was seen
pub record IsLooked
    (raw : Bool) (texts : List (List ℕ)) (observation : Observation) (looked : Looked)
    : Type 0 where
  pub expected : IsUnmetIn texts observation looked.unmet
  pub came_to : looked.judgement ≡ judgement_in texts observation looked.unmet
  pub names : looked.renamed ≡ names_for raw observation.seen

-- what is compared of a run
abbrev pub compared_in : Looked → Observation → List (List Row)
compared_in looked observation = unwrap_or looked.renamed observation.seen

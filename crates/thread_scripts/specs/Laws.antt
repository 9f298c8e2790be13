-- Internal: no contract of the headline or of a command stands on it.
-- What the script language keeps to.
use Rattle.std.specs.Prelude.{◌≡◌, true, ◌≢◌, ℕ, ◌+◌, ◌<◌, ◌≤◌, ◌↔◌, ◌⊎◌, List, [], ◌∷◌, ◌++◌}
use Rattle.std.specs.Prelude.{codes, length, map, filter_map, slice_get, Option, Some, None, Ok}
use Rattle.std.specs.Prelude.{Err, option_and_then}
use Rattle.posix_terms.specs.Calls.{word_of}
use Rattle.posix_terms.specs.declared.call.CallKind.{CallKind}
use Rattle.posix_terms.specs.declared.limits.TheConstants.Limits.{SCRIPT_LINES}
use Rattle.posix_terms.specs.declared.reply.Reply.{Reply}
use Rattle.thread_scripts.specs.Calls.{kind_named}
use Rattle.thread_scripts.specs.Faults.{bad_line, too_long}
use Rattle.thread_scripts.specs.Grammar.{readings_of, script_of}
use Rattle.thread_scripts.specs.Meaning.{lines_left, next_of}
use Rattle.thread_scripts.specs.Rules.{is_script, target_of}
use Rattle.thread_scripts.specs.Words.{lines_of, words_of}
use Rattle.thread_scripts.specs.declared.line.Line.{Line}
use Rattle.thread_scripts.specs.declared.line.Line.TheVariants as line
use Rattle.thread_scripts.specs.declared.actor.ScriptState.{ScriptState}
use Rattle.posix_terms.specs.declared.step.Step.TheVariants as step

-- line k, counted from 0, is bad, and those before it are good
pub record IsFirstBad (readings : List (Option (Option Line))) (k : ℕ) : Type 0 where
  pub bad : slice_get readings k ≡ Some None
  pub good : (j : ℕ) → j < k → slice_get readings j ≢ Some None

-- each line is good, and the script's lines are what they say, without the lines that say nothing
pub record AreGood (readings : List (Option (Option Line))) (lines : List Line) : Type 0 where
  pub said : List (Option Line)
  pub good : readings ≡ map Some said
  pub kept : lines ≡ filter_map (λ l. l) said

-- a text is too long where it has too many lines, whatever they are
abbrev pub TooLongIsCounted : Type 0
TooLongIsCounted = (text : List ℕ)
    → (script_of text ≡ Err too_long) ↔ (SCRIPT_LINES < length (lines_of text))

-- the bad line that is reported is the first one, counted from 1
abbrev pub BadLineIsFirst : Type 0
BadLineIsFirst = (text : List ℕ) (k : ℕ)
    → (script_of text ≡ Err (bad_line (k + 1))) ↔ ((length (lines_of text) ≤ SCRIPT_LINES)
    × IsFirstBad (readings_of (lines_of text)) k)

-- a text is a script exactly where it is not too long and each line is good
abbrev pub AcceptedExactly : Type 0
AcceptedExactly = (text : List ℕ) (lines : List Line)
    → (script_of text ≡ Ok lines) ↔ ((length (lines_of text) ≤ SCRIPT_LINES)
    × AreGood (readings_of (lines_of text)) lines)

-- the lines that a script may jump to are labels
abbrev pub JumpsLeadToLabels : Type 0
JumpsLeadToLabels = (text : List ℕ) (lines : List Line) (k place : ℕ) → script_of text ≡ Ok lines
    → option_and_then target_of (slice_get lines k) ≡ Some place
    → slice_get lines place ≡ Some line.Label

-- the words of a line that says something
abbrev pub spoken : Option (List (List ℕ)) → Option (List (List ℕ))
spoken (Some (word ∷ words)) = Some (word ∷ words)
spoken (Some []) = None
spoken None = None

-- the words that each line of a script was read from
abbrev pub words_read : List (List ℕ) → List (List (List ℕ))
words_read texts = filter_map (λ text. spoken (words_of text)) texts

-- the words that line k was read from end with a name, and the line
-- at this place was read from `label` and that name
pub record LeadsByName (words : List (List (List ℕ))) (k place : ℕ) : Type 0 where
  pub name : List ℕ
  pub front : List (List ℕ)
  pub jump : slice_get words k ≡ Some (front ++ name ∷ [])
  pub label : slice_get words place ≡ Some (codes "label" ∷ name ∷ [])

-- a jump leads to the label that it names
abbrev pub JumpsLeadByName : Type 0
JumpsLeadByName =
    (text : List ℕ) (lines : List Line) (k place : ℕ)
    → script_of text ≡ Ok lines
    → option_and_then target_of (slice_get lines k) ≡ Some place
    → LeadsByName (words_read (lines_of text)) k place

-- a script that was read is one by the rules for lines that are made in code
abbrev pub ReadScriptsKeepRules : Type 0
ReadScriptsKeepRules = (text : List ℕ) (lines : List Line) → script_of text ≡ Ok lines
    → is_script lines ≡ true

-- each step but the end executes a line, and so a run of steps ends
abbrev pub RunsEnd : Type 0
RunsEnd = (last : Option Reply) (s : ScriptState) → ((next_of last s).0 ≡ step.End)
    ⊎ (lines_left (next_of last s).1 < lines_left s)

-- the script itself never changes
abbrev pub ScriptStays : Type 0
ScriptStays = (last : Option Reply) (s : ScriptState) → (next_of last s).1.script ≡ s.script

-- the word of each call names it: no call is left out, and no two have one word
abbrev pub WordsNameCalls : Type 0
WordsNameCalls = (kind : CallKind) → kind_named (word_of kind) ≡ Some kind

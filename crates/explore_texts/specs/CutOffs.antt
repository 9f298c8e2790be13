-- Believed: a contract of a command stands on it.
-- Which threads of a run ended only because they had executed as many lines as a thread may.
use Rattle.std.specs.Prelude.{ℕ, ◌+◌, ◌&&◌, Bool, false, List, [], ◌∷◌, ◌++◌, map, Result, Ok, Err}
use Rattle.std.specs.Prelude.{codes, if◌then◌else◌, slice_index_or}
use Rattle.std.specs.Fmt.{decimal}
use Rattle.std.specs.List.{flat_map}
use Rattle.posix_terms.specs.declared.transcript.Row.{Row}
use Rattle.thread_scripts.specs.Faults.{Fault}
use Rattle.thread_scripts.specs.Grammar.{script_of}
use Rattle.thread_scripts.specs.declared.line.Line.{Line}
use Rattle.expectations.specs.CutOff.{is_cut_off}
use Rattle.explorer.specs.declared.observation.Observation.{Observation}
use Rattle.command_texts.specs.Transcripts.{◌+++◌}

-- a thread that ran this, and ended after these rows, ended before its script did. What is not a
-- script was not run
abbrev pub is_cut : Result (List Line) Fault → List Row → Bool
is_cut (Ok script) rows = is_cut_off script (map (λ row. row.reply) rows)
is_cut (Err fault) rows = false

-- that thread, if it had ended, and did so
abbrev pub if_cut : Bool → ℕ → List ℕ → List Row → List ℕ
if_cut ended thread text rows =
    if ended && is_cut (script_of text) rows then thread ∷ [] else []

-- the threads that did, of these texts, which saw these rows; the first has this number. This says
-- of each thread whether it had ended
abbrev pub cut_threads : List Bool → ℕ → List (List ℕ) → List (List Row) → List ℕ
cut_threads ended thread [] seen = []
cut_threads ended thread (text ∷ texts) [] = []
cut_threads ended thread (text ∷ texts) (rows ∷ seen) =
    if_cut (slice_index_or ended thread false) thread text rows
    ++ cut_threads ended (thread + 1) texts seen

-- those of the run of these texts in which this was seen, whether it stopped or not
abbrev pub cut_of : List (List ℕ) → Observation → List ℕ
cut_of texts observation = cut_threads observation.ended 0 texts observation.seen

-- what a line says of them
abbrev pub cut_text : List ℕ → List ℕ
cut_text [] = []
cut_text (thread ∷ others) =
    codes " cut off " +++ decimal thread
    +++ flat_map (λ (other : ℕ). codes "," +++ decimal other) others

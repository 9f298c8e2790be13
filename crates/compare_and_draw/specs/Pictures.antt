-- Believed: a contract of a command stands on it.
-- The pictures of one run, and of two.
use Rattle.std.specs.Prelude.{◌≡◌, ℕ, Bool, true, false, List, [], ◌∷◌, length, map}
use Rattle.std.specs.Prelude.{Option, Some, None}
use Rattle.answered_calls.specs.Blocked.{lines_blocked}
use Rattle.answered_calls.specs.Answered.{answered_calls}
use Rattle.answered_calls.specs.Seen.{seen}
use Rattle.comparator.specs.Comparison.{IsVerdictBy}
use Rattle.comparator.specs.declared.verdict.Verdict.{Verdict}
use Rattle.comparator.specs.declared.verdict.Verdict.TheVariants as verdicts
use Rattle.commands.specs.declared.ran.Run.{Run}
use Rattle.run_pictures.specs.Drawn.{calls_of}
use Rattle.run_pictures.specs.Page.{IsPage}
use Rattle.run_pictures.specs.Trace.{IsTrace}
use Rattle.run_pictures.specs.declared.drawn.DrawnRun.{DrawnRun}
use Rattle.compare_and_draw.specs.declared.pictures.DrawOptions.{DrawOptions}
use Rattle.compare_and_draw.specs.declared.pictures.Drawn.{Drawn}
use Rattle.compare_and_draw.specs.declared.pictures.Drawn.TheVariants as draws

-- the page of these runs is there, if it is asked for
abbrev pub IsPageIf :
    Bool → List ℕ → List DrawnRun → Option (ℕ × ℕ) → Option (List ℕ) → Type 0
IsPageIf true title runs differs (Some page) = IsPage title runs differs page
IsPageIf true title runs differs None = ⊥
IsPageIf false title runs differs page = page ≡ None

-- the trace of the first of these runs is there, if it is asked for
abbrev pub IsTraceIf : Bool → List DrawnRun → Option (List ℕ) → Type 0
IsTraceIf true (run ∷ runs) (Some trace) = IsTrace (calls_of run.calls.items) trace
IsTraceIf true (run ∷ runs) None = ⊥
IsTraceIf true [] trace = trace ≡ None
IsTraceIf false runs trace = trace ≡ None

-- the page of these runs and the trace of the first, as they are asked for
abbrev pub ArePictures : DrawOptions → List ℕ → List DrawnRun → Option (ℕ × ℕ) → Drawn → Type 0
ArePictures options title runs differs (draws.Pictures page trace) =
    IsPageIf options.page title runs differs page × IsTraceIf options.trace runs trace
ArePictures options title runs differs (draws.Fault printed) = ⊥

-- a run of the scripts of these texts is drawn under this name, with a lane for each of its
-- threads, its calls, and what stopped it
abbrev pub IsDrawn : List (List ℕ) → List ℕ → Run → DrawnRun → Type 0
IsDrawn texts name run drawn =
    (drawn.name.now ≡ name) × (drawn.threads ≡ length run.transcripts)
    × (map seen (calls_of drawn.calls.items)
    ≡ answered_calls 0 texts run.history run.transcripts)
    × (drawn.stop ≡ run.stop)
    × (drawn.blocked.items ≡ lines_blocked texts run.transcripts run.history)

-- what is drawn of one run
abbrev pub OneDraws : DrawOptions → List ℕ → List (List ℕ) → List ℕ → Run → Drawn → Type 0
OneDraws options title texts name run drawn =
    (one : DrawnRun) × IsDrawn texts name run one
    × ArePictures options title (one ∷ []) None drawn

-- the first row that differs, by its thread and its number
abbrev pub place_of : Verdict → Option (ℕ × ℕ)
place_of verdicts.Same = None
place_of (verdicts.Differs thread row) = Some (thread, row)

-- what is drawn of two runs, each with its name: both, with the first row that differs, whole rows
-- compared
abbrev pub TwoRunsDraw : DrawOptions → List ℕ → List (List ℕ) → List ℕ × Run → List ℕ × Run
    → Drawn → Type 0
TwoRunsDraw options title texts one other drawn =
    (verdict : Verdict) × IsVerdictBy true one.1.transcripts other.1.transcripts verdict
    × ((first : DrawnRun) × IsDrawn texts one.0 one.1 first
    × ((second : DrawnRun) × IsDrawn texts other.0 other.1 second
    × ArePictures options title (first ∷ second ∷ []) (place_of verdict) drawn))

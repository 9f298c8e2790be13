-- Believed: a contract of a command stands on it.
-- The text of a page. Its fixed parts are the constants of `src/fixed.rt`.
use Rattle.std.specs.Prelude.{◌≡◌, ℕ, ◌+◌, Bool, List, [], ◌∷◌, ◌++◌, Option, Some, None}
use Rattle.std.specs.Prelude.{if◌then◌else◌}
use Rattle.std.specs.Fmt.{decimal}
use Rattle.std.specs.List.{list_any}
use Rattle.command_texts.specs.Transcripts.{◌+++◌}
use Rattle.run_pictures.specs.Escaped.{escaped}
use Rattle.run_pictures.specs.Kinds.{is_marked}
use Rattle.run_pictures.specs.Layout.{AreLaid}
use Rattle.run_pictures.specs.Picture.{picture_text}
use Rattle.run_pictures.specs.Tables.{row_name, tables_text}
use Rattle.run_pictures.specs.declared.drawn.DrawnCall.{DrawnCall}
use Rattle.run_pictures.specs.declared.drawn.DrawnRun.{DrawnRun}
use Rattle.run_pictures.specs.declared.fixed.TheConstants as fixed
use Rattle.run_pictures.specs.declared.layout.Layout.{Layout}

-- the head of a page, and its heading
unfoldable pub front_text : List ℕ → List ℕ
front_text title =
    fixed.PAGE_FRONT.now +++ escaped title +++ fixed.PAGE_STYLE.now +++ escaped title
    +++ fixed.PAGE_HEADING_END.now

-- that the first row that differs is this one
unfoldable pub differs_place : ℕ → ℕ → List ℕ
differs_place thread number =
    fixed.DIFFERS_ROW.now +++ decimal number +++ fixed.DIFFERS_THREAD.now +++ decimal thread

-- a row of this thread with this number is one of these calls
abbrev pub has_row : ℕ × ℕ → List DrawnCall → Bool
has_row place calls = list_any (λ c. is_marked (Some place) c.call) calls

-- a link to a line of the table of a run, under the run's name
unfoldable pub link_text : ℕ × ℕ → ℕ → List ℕ → List ℕ
link_text place run name =
    fixed.LINK_FRONT.now +++ row_name run place.0 place.1 +++ fixed.LINK_NAME.now +++ escaped name
    +++ fixed.LINK_END.now

-- that a run has no such row
unfoldable pub no_row_text : List ℕ → List ℕ
no_row_text name = fixed.NO_ROW_FRONT.now +++ escaped name +++ fixed.NO_ROW_END.now

-- the one or the other
abbrev pub link_or_none : ℕ × ℕ → ℕ → DrawnRun → List ℕ
link_or_none place number run =
    if has_row place run.calls.items then link_text place number run.name.now
    else no_row_text run.name.now

-- that of runs, the first of which has this number
abbrev pub links_text : ℕ × ℕ → ℕ → List DrawnRun → List ℕ
links_text place number [] = []
links_text place number (run ∷ runs) =
    link_or_none place number run ++ links_text place (number + 1) runs

-- which row is the first that differs, if one does, with a link to it in the table of each run
unfoldable pub differs_text : Option (ℕ × ℕ) → List DrawnRun → List ℕ
differs_text None runs = []
differs_text (Some place) runs =
    differs_place place.0 place.1 +++ links_text place 0 runs +++ fixed.DIFFERS_END.now

-- a page: its front, the picture, and the tables
unfoldable pub page_text : List ℕ → List DrawnRun → Option (ℕ × ℕ) → Layout → List ℕ
page_text title runs differs layout =
    front_text title +++ differs_text differs runs +++ fixed.LEGEND.now
    +++ picture_text differs layout +++ tables_text differs 0 runs +++ fixed.PAGE_END.now

-- this is the page of these runs: a box for each call, wherever it stands, and a line of a table
abbrev pub IsPage : List ℕ → List DrawnRun → Option (ℕ × ℕ) → List ℕ → Type 0
IsPage title runs differs page =
    (layout : Layout) × AreLaid runs layout.runs.items
    × (page ≡ page_text title runs differs layout)

-- Believed: a contract of a command stands on it.
-- The text of a picture. Its fixed parts are the constants of `src/fixed.rt`.
use Rattle.std.specs.Prelude.{ℕ, List, Option}
use Rattle.std.specs.Fmt.{decimal}
use Rattle.std.specs.List.{flat_map}
use Rattle.command_texts.specs.Transcripts.{◌+++◌}
use Rattle.run_pictures.specs.Boxes.{box_text}
use Rattle.run_pictures.specs.Escaped.{escaped}
use Rattle.run_pictures.specs.declared.axis.Column.{Column}
use Rattle.run_pictures.specs.declared.fixed.TheConstants as fixed
use Rattle.run_pictures.specs.declared.layout.LaidRun.{LaidRun}
use Rattle.run_pictures.specs.declared.layout.Lane.{Lane}
use Rattle.run_pictures.specs.declared.layout.Layout.{Layout}

-- the name of a lane
unfoldable pub lane_text : Lane → List ℕ
lane_text lane =
    fixed.LANE_FRONT.now +++ decimal lane.top +++ fixed.LANE_NAME.now +++ decimal lane.thread
    +++ fixed.LANE_END.now

-- the names of the lanes of a run
unfoldable pub names_text : LaidRun → List ℕ
names_text run =
    fixed.LANES_FRONT.now +++ decimal run.top +++ fixed.LANES_FRONT_END.now
    +++ flat_map lane_text run.lanes.items +++ fixed.GROUP_END.now

-- a stretch of the axis that is cut
unfoldable pub cut_text : ℕ → List ℕ
cut_text left = fixed.CUT_FRONT.now +++ decimal left +++ fixed.CUT_END.now

-- the front of what lies beside the names
unfoldable pub chart_text : Layout → List ℕ
chart_text layout =
    fixed.CHART_FRONT.now +++ decimal layout.width +++ fixed.CHART_HEIGHT.now
    +++ decimal layout.height +++ fixed.CHART_FRONT_END.now
    +++ flat_map cut_text layout.cuts.items

-- a clock, with its line through lanes of this height
unfoldable pub tick_text : ℕ → Column → List ℕ
tick_text height tick =
    fixed.TICK_FRONT.now +++ decimal tick.left +++ fixed.TICK_LINE.now +++ decimal height
    +++ fixed.TICK_CLOCK.now +++ decimal tick.clock +++ fixed.TICK_END.now

-- where a run stands, and its name
unfoldable pub run_front : LaidRun → List ℕ
run_front run =
    fixed.RUN_FRONT.now +++ decimal run.top
    +++ fixed.RUN_NAME.now +++ escaped run.name.now +++ fixed.RUN_NAME_END.now

-- a run: its name, the clocks, and its boxes
unfoldable pub run_text : Option (ℕ × ℕ) → List Column → LaidRun → List ℕ
run_text differs ticks run =
    run_front run +++ flat_map (tick_text run.height) ticks
    +++ fixed.BOXES_FRONT.now +++ flat_map (box_text differs) run.boxes.items
    +++ fixed.RUN_END.now

-- a picture: the names of the lanes, and beside them the runs, one under the other
unfoldable pub picture_text : Option (ℕ × ℕ) → Layout → List ℕ
picture_text differs layout =
    fixed.PICTURE_FRONT.now +++ decimal layout.height +++ fixed.PICTURE_FRONT_END.now
    +++ flat_map names_text layout.runs.items
    +++ chart_text layout
    +++ flat_map (run_text differs layout.ticks.items) layout.runs.items
    +++ fixed.PICTURE_END.now

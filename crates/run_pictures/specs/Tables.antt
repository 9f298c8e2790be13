-- Believed: a contract of a command stands on it.
-- The rows of runs as tables. Their fixed parts are the constants of `src/fixed.rt`.
use Rattle.std.specs.Prelude.{ℕ, ◌+◌, List, [], ◌∷◌, ◌++◌, Option, codes}
use Rattle.std.specs.Fmt.{decimal}
use Rattle.std.specs.List.{flat_map}
use Rattle.answered_calls.specs.declared.answered.AnsweredCall.{AnsweredCall}
use Rattle.command_texts.specs.Transcripts.{◌+++◌, end_words}
use Rattle.run_views.specs.Waits.{waits_text}
use Rattle.run_pictures.specs.Escaped.{asked_escaped, escaped, reply_escaped}
use Rattle.run_pictures.specs.Kinds.{class_text}
use Rattle.run_pictures.specs.declared.drawn.DrawnRun.{DrawnRun}
use Rattle.run_pictures.specs.declared.fixed.TheConstants as fixed

-- the name of a line of a table, to which a link leads: the number of its run, its thread, and the
-- number of its row
unfoldable pub row_name : ℕ → ℕ → ℕ → List ℕ
row_name run thread number =
    codes "r" +++ decimal run +++ codes "t" +++ decimal thread +++ codes "n" +++ decimal number

-- the cell of a number, and the front of the next
unfoldable pub cell_text : ℕ → List ℕ
cell_text number = decimal number +++ fixed.CELL.now

-- the cells before that of the call
unfoldable pub cells_text : AnsweredCall → List ℕ
cells_text c =
    cell_text c.thread +++ cell_text c.number +++ cell_text c.line +++ cell_text c.granted
    +++ cell_text c.row.now.turn.clock

-- how the call of a line came to its answer, and the name of the line
unfoldable pub row_front : Option (ℕ × ℕ) → ℕ → AnsweredCall → List ℕ
row_front differs run c =
    fixed.ROW_FRONT.now +++ class_text differs c
    +++ fixed.ROW_NAME.now +++ row_name run c.thread c.number +++ fixed.ROW_CELLS.now

-- the line of a call, of the run with this number
unfoldable pub row_text : Option (ℕ × ℕ) → ℕ → AnsweredCall → List ℕ
row_text differs run c =
    row_front differs run c +++ cells_text c
    +++ asked_escaped c.row.now.call +++ fixed.CELL.now +++ reply_escaped c.row.now.reply
    +++ fixed.ROW_END.now

-- the table of a run: its name, how it ended, which calls were blocked for good, and a line for
-- each call, in their order
unfoldable pub table_text : Option (ℕ × ℕ) → ℕ → DrawnRun → List ℕ
table_text differs number run =
    fixed.TABLE_FRONT.now +++ escaped run.name.now
    +++ fixed.TABLE_STOP.now +++ end_words run.stop +++ waits_text run.blocked.items
    +++ fixed.TABLE_HEAD.now
    +++ flat_map (λ c. row_text differs number c.call) run.calls.items
    +++ fixed.TABLE_END.now

-- the tables of runs, the first of which has this number
abbrev pub tables_text : Option (ℕ × ℕ) → ℕ → List DrawnRun → List ℕ
tables_text differs number [] = []
tables_text differs number (run ∷ runs) =
    table_text differs number run ++ tables_text differs (number + 1) runs

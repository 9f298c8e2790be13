-- Believed: a contract of a command stands on it.
-- What is printed for a run in a view of it.
use Rattle.std.specs.Prelude.{◌≡◌, ℕ, ◌||◌, Bool, true, false, List, [], ◌++◌, Option, codes}
use Rattle.std.specs.Prelude.{if◌then◌else◌}
use Rattle.std.specs.Fmt.{decimal}
use Rattle.std.specs.List.{flat_map}
use Rattle.posix_terms.specs.declared.transcript.Row.{Row}
use Rattle.machine.specs.declared.stop.Stop.{Stop}
use Rattle.command_texts.specs.Printing.{run_printed}
use Rattle.command_texts.specs.Transcripts.{◌+++◌, end_status, end_text, reply_text, row_text}
use Rattle.command_texts.specs.declared.printed.Printed.{Printed}
use Rattle.run_views.specs.Calls.{asked_text}
use Rattle.run_views.specs.Lanes.{LanesPrint}
use Rattle.run_views.specs.Order.{AreInOrder, Placed}
use Rattle.run_views.specs.declared.view.View.{View}

-- thread, number of the row, and with turns the clock of its turn
unfoldable pub place_text : Bool → ℕ → ℕ → Row → List ℕ
place_text false thread number row = decimal thread +++ codes " " +++ decimal number +++ codes " "
place_text true thread number row =
    decimal thread +++ codes " " +++ decimal number +++ codes " "
    +++ decimal row.turn.clock +++ codes " "

-- where the row stands, what its call was asked, and the reply
abbrev pub call_row_text : Bool → ℕ → ℕ → Row → List ℕ
call_row_text turns thread number row =
    place_text turns thread number row +++ asked_text row.call +++ codes " = "
    +++ reply_text row.reply +++ codes "\n"

-- the line of a row in a view
abbrev pub viewed_row_text : View → Placed → List ℕ
viewed_row_text view p =
    if view.calls then call_row_text view.turns p.thread p.number p.row
    else row_text view.turns p.thread p.number p.row

-- what is printed of a run with these rows, in this order, that ended so
abbrev pub rows_printed : View → List Placed → Option Stop → Printed
rows_printed view rows stop = record {
  status = end_status stop;
  output = flat_map (viewed_row_text view) rows ++ end_text stop;
  errors = [];
}

-- this is printed where there are no lanes: with true where the calls or the order of turns is
-- asked, with false where not
abbrev pub RowsPrint : Bool → View → List (List Row) → Option Stop → Printed → Type 0
RowsPrint true view transcripts stop printed =
    (rows : List Placed) × AreInOrder view.by_turn transcripts rows
    × (printed ≡ rows_printed view rows stop)
RowsPrint false view transcripts stop printed = printed ≡ run_printed view.turns transcripts stop

-- this is printed in lanes, or else
abbrev pub ViewPrints : Bool → View → List (List Row) → Option Stop → Printed → Type 0
ViewPrints true view transcripts stop printed = LanesPrint view transcripts stop printed
ViewPrints false view transcripts stop printed =
    RowsPrint (view.calls || view.by_turn) view transcripts stop printed

-- this is printed of a run in this view
abbrev pub IsViewed : View → List (List Row) → Option Stop → Printed → Type 0
IsViewed view = ViewPrints view.lanes view

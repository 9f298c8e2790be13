-- Believed: a contract of a command stands on it.
-- A run with a lane for each thread: a column of its calls, and rows in the order of their turns.
use Rattle.std.specs.Prelude.{◌≡◌, ℕ, ◌+◌, ◌-◌, Bool, true, false, List, [], ◌∷◌, ◌++◌, Option}
use Rattle.std.specs.Prelude.{Some, None, codes, length, map, max, replicate, take}
use Rattle.std.specs.Fmt.{decimal}
use Rattle.std.specs.List.{flat_map}
use Rattle.posix_terms.specs.declared.transcript.Row.{Row}
use Rattle.machine.specs.declared.stop.Stop.{Stop}
use Rattle.command_texts.specs.Transcripts.{◌+++◌, call_text, end_status, end_text, reply_text}
use Rattle.command_texts.specs.declared.printed.Printed.{Printed}
use Rattle.run_views.specs.Calls.{asked_text}
use Rattle.run_views.specs.Order.{IsByTurn, Placed}
use Rattle.run_views.specs.declared.view.View.{View}

-- a call with its reply, and with what it was asked if that is shown
abbrev pub cell_text : Bool → Row → List ℕ
cell_text false row = call_text row
cell_text true row = asked_text row.call +++ codes " = " +++ reply_text row.reply

-- so many spaces
abbrev pub spaces : ℕ → List ℕ
spaces n = replicate n 32

-- a text, the spaces that it lacks of this width, and two more
abbrev pub padded : ℕ → List ℕ → List ℕ
padded width text = text +++ spaces (width - length text) +++ codes "  "

-- the greatest of n and of these
abbrev pub greatest : ℕ → List ℕ → ℕ
greatest n [] = n
greatest n (m ∷ ms) = greatest (max n m) ms

-- the width of a thread's lane: that of its number and of its widest cell
abbrev pub lane_width : Bool → ℕ → List Row → ℕ
lane_width calls thread rows =
    greatest (length (decimal thread)) (map (λ (row : Row). length (cell_text calls row)) rows)

-- those of the lanes of threads, the first of which has this number
abbrev pub lane_widths : Bool → ℕ → List (List Row) → List ℕ
lane_widths calls thread [] = []
lane_widths calls thread (rows ∷ transcripts) =
    lane_width calls thread rows ∷ lane_widths calls (thread + 1) transcripts

-- the width of the column of the turns, if they are shown
abbrev pub turn_width : Bool → List Placed → Option ℕ
turn_width false rows = None
turn_width true rows = Some (greatest (length (codes "turn"))
    (map (λ (p : Placed). length (decimal p.row.turn.clock)) rows))

-- what stands in the column of the turns, if there is one
abbrev pub turn_cell : Option ℕ → List ℕ → List ℕ
turn_cell None text = []
turn_cell (Some width) text = padded width text

-- the numbers of threads over their lanes, each padded, the first of which has this number
abbrev pub padded_heads : ℕ → List ℕ → List ℕ
padded_heads thread [] = []
padded_heads thread (width ∷ widths) =
    padded width (decimal thread) ++ padded_heads (thread + 1) widths

-- those of all lanes: the last is not padded
abbrev pub heads : List ℕ → List ℕ
heads widths = padded_heads 0 (take (length widths - 1) widths) +++ decimal (length widths - 1)

-- the empty cells of lanes of these widths
abbrev pub empty_cells : List ℕ → List ℕ
empty_cells widths = flat_map (λ width. padded width []) widths

-- the line of a row, after the empty cells of the threads before its own
abbrev pub lane_row_text : Bool → Option ℕ → List ℕ → Placed → List ℕ
lane_row_text calls turns widths p =
    turn_cell turns (decimal p.row.turn.clock)
    +++ empty_cells (take p.thread widths)
    +++ cell_text calls p.row +++ codes "\n"

-- all lines of the rows, in this order, with lanes of these widths
abbrev pub lanes_text : Bool → Option ℕ → List ℕ → List Placed → List ℕ
lanes_text calls turns widths rows =
    turn_cell turns (codes "turn") +++ heads widths +++ codes "\n"
    +++ flat_map (lane_row_text calls turns widths) rows

-- this is printed of a run: the lanes of its threads, with all rows in the order of their turns
abbrev pub LanesPrint : View → List (List Row) → Option Stop → Printed → Type 0
LanesPrint view transcripts stop printed =
    (rows : List Placed) × IsByTurn transcripts rows × (printed ≡ record {
      status = end_status stop;
      output = lanes_text view.calls (turn_width view.turns rows)
          (lane_widths view.calls 0 transcripts) rows ++ end_text stop;
      errors = [];
    })

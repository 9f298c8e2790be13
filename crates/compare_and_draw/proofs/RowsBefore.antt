-- The rows before the one that differs are added one after the other.
use Rattle.std.proofs.Common.{◌≡◌, ◌++◌, ◌<◌, ◌≤◌, ◌+◌, ℕ, Bool, List, Some}
use Rattle.std.proofs.Common.{length, min, get_or, take, drop, sym, ◌∙◌, append_assoc}
use Rattle.std.proofs.Common.{append-nil, add-one, arith}
use Rattle.std.proofs.Math.ListN.{drop_of_length-le}
use Rattle.std.proofs.Math.Seq.{drop-cons}
use Rattle.std.proofs.lemmas.List.{get_or-take, length-take}
use Rattle.std.specs.Prelude.{codes}
use Rattle.posix_terms.specs.declared.transcript.Row.{Row}
use Rattle.run_views.specs.Rows.{call_row_text}
use Rattle.json_views.specs.Sides.{side_row_line}
use Rattle.compare_and_draw.specs.Differences.{indented_text}
use Rattle.compare_and_draw.specs.Json.{both_lines}

-- the row of this place is added, and those after it are left
pub row_added : (turns : Bool) (thread number k : ℕ) (rows : List Row) (row : Row) (text : List ℕ)
    → k < number → k < length rows → row ≡ get_or rows k row
    → ((text ++ codes "  ") ++ call_row_text turns thread k row)
    ++ indented_text turns thread (k + 1) (drop (k + 1) (take number rows))
    ≡ text ++ indented_text turns thread k (drop k (take number rows))
row_added turns thread number k rows row text below within is =
    let inside : k < length (take number rows) = rw (length-take number rows) (omega arith) in
    let here : get_or (take number rows) k row ≡ row =
    get_or-take number rows k row below ∙ sym is in
    rw (drop-cons (take number rows) k row inside, here) (simp (append_assoc, add-one))

-- there are no more rows, or this is the place of the one that differs: none is left
pub none_left : (turns : Bool) (thread number k : ℕ) (rows : List Row) (text : List ℕ)
    → min number (length rows) ≤ k
    → text ++ indented_text turns thread k (drop k (take number rows)) ≡ text
none_left turns thread number k rows text past =
    let over : length (take number rows) ≤ k = rw (length-take number rows) past in
    rw (drop_of_length-le (take number rows) over) (simp append-nil)

pub ruleset rows = (row_added, none_left)

-- the same of the lines in JSON
pub line_added : (turns : Bool) (thread number k : ℕ) (rows : List Row) (row : Row) (text : List ℕ)
    → k < number → k < length rows → row ≡ get_or rows k row
    → (text ++ side_row_line (codes "both") turns thread k (Some row))
    ++ both_lines turns thread (k + 1) (drop (k + 1) (take number rows))
    ≡ text ++ both_lines turns thread k (drop k (take number rows))
line_added turns thread number k rows row text below within is =
    let inside : k < length (take number rows) = rw (length-take number rows) (omega arith) in
    let here : get_or (take number rows) k row ≡ row =
    get_or-take number rows k row below ∙ sym is in
    rw (drop-cons (take number rows) k row inside, here) (simp (append_assoc, add-one))

pub no_line_left : (turns : Bool) (thread number k : ℕ) (rows : List Row) (text : List ℕ)
    → min number (length rows) ≤ k
    → text ++ both_lines turns thread k (drop k (take number rows)) ≡ text
no_line_left turns thread number k rows text past =
    let over : length (take number rows) ≤ k = rw (length-take number rows) past in
    rw (drop_of_length-le (take number rows) over) (simp append-nil)

pub ruleset lines = (line_added, no_line_left)

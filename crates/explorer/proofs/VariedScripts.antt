-- The script of a varied text.
use Rattle.std.proofs.Common.{◌≡◌, ◌∙◌, ap, sym, ℕ, suc, ◌+◌, ◌≤◌, ◌⊎◌, inl, inr, Bool, true, false}
use Rattle.std.proofs.Common.{if◌then◌else◌, List, [], ◌∷◌, length, map, nat_lt, IfSome, Option}
use Rattle.std.proofs.Common.{Some, None, option_map, option_and_then, Result, Ok, Err, refl, arith}
use Rattle.std.proofs.Common.{zero-add}
use Rattle.std.specs.List.{cons_option}
use Rattle.std.specs.Option.{option_len}
use Rattle.posix_terms.specs.declared.limits.TheConstants.Limits.{SCRIPT_LINES, WORK}
use Rattle.thread_scripts.specs.Faults.{Fault, too_long}
use Rattle.thread_scripts.specs.Grammar.{gathered, line_before, readings_from, readings_of}
use Rattle.thread_scripts.specs.Grammar.{script_of}
use Rattle.thread_scripts.specs.Labels.{label_in, labels_from, place_after}
use Rattle.thread_scripts.specs.Lines.{line_of, words_say}
use Rattle.thread_scripts.specs.Words.{lines_of, words_of}
use Rattle.thread_scripts.specs.declared.line.Line.{Line}
use Rattle.thread_scripts.specs.declared.line.Line.TheVariants as line
use Rattle.expectations.specs.Expected.{call_first, no_words}
use Rattle.explorer.specs.Delayed.{delayed, moved, redirected, with_works, works_from}
use Rattle.explorer.specs.Delayed.{works_of}
use Rattle.explorer.specs.Laws.{AreWorks, VariedIsScript}
use Rattle.explorer.specs.Varied.{varied_text}
use Rattle.explorer.proofs.MovedLines.{Redirects, labels_moved, line_moves}
use Rattle.explorer.proofs.VariedTexts.{are_lines, lines_back, varied_are_lines, varied_list}
use Rattle.explorer.proofs.VariedTexts.{varied_text_of}
use Rattle.explorer.proofs.WorkLines.{words_of_work, work_says, work_words}

-- the lines from this place on have moved from the other place by their works
abbrev MovesFrom : (ℕ → ℕ) → ℕ → ℕ → List (Option ℕ) → Type 0
MovesFrom to place now works = (k : ℕ) → to (place + k) ≡ now + moved works k

-- the next line has moved over its own work
next_moves : (to : ℕ → ℕ) (place now : ℕ) (work : Option ℕ) (works : List (Option ℕ))
    → MovesFrom to place now (work ∷ works) → to place ≡ now + option_len work
next_moves to place now work works moves =
    let same : place + 0 ≡ place = omega arith in
    rw same at (moves 0)

-- and so have those after it
later_move : (to : ℕ → ℕ) (place now : ℕ) (work : Option ℕ) (works : List (Option ℕ))
    → MovesFrom to place now (work ∷ works)
    → MovesFrom to (place + 1) (now + option_len work + 1) works
later_move to place now work works moves k =
    let same : place + 1 + k ≡ place + suc k = omega arith in
    let sum : now + (option_len work + 1 + moved works k)
    ≡ now + option_len work + 1 + moved works k = omega arith in
    ap to same ∙ moves (suc k) ∙ sum

-- the delay of a line that says something
abbrev work_above : (ℕ → Option ℕ) → ℕ → Option (List (List ℕ)) → Option ℕ
work_above delay above words = if call_first words then delay (above + 1) else None

-- is one that a work may have
fits : (delay : ℕ → Option ℕ) (above : ℕ) (words : Option (List (List ℕ))) → AreWorks delay
    → IfSome (work_above delay above words) (λ n. n ≤ WORK)
fits delay above words works = at (call_first words) where
  at : (call : Bool) → IfSome (if call then delay (above + 1) else None) (λ n. n ≤ WORK)
  at true = works (above + 1)
  at false = tt

-- ## Labels

-- a work is no label, and takes one place
labels_after_work : (work : Option ℕ) (now : ℕ) (texts : List (List ℕ))
    → IfSome work (λ n. n ≤ WORK)
    → labels_from now (cons_option (option_map work_words work) texts)
    ≡ labels_from (now + option_len work) texts
labels_after_work None now texts fits =
    let same : now + 0 ≡ now = omega arith in
    rw same refl
labels_after_work (Some n) now texts fits = rw (words_of_work n fits) refl

-- a label has moved with its line
label_moves : (to : ℕ → ℕ) (place now : ℕ) (name : Option (List ℕ))
    (before later : List (List ℕ × ℕ))
    → to place ≡ now → later ≡ labels_moved to before
    → cons_option (option_map (λ name. (name, now)) name) later
    ≡ labels_moved to (cons_option (option_map (λ name. (name, place)) name) before)
label_moves to place now None before later here same = same
label_moves to place now (Some name) before later here same =
    rw here (ap (λ labels. (name, now) ∷ labels) same)

-- the labels have moved as the lines have
labels_move : (to : ℕ → ℕ) (delay : ℕ → Option ℕ) (above place now : ℕ) (texts : List (List ℕ))
    → AreWorks delay → MovesFrom to place now (works_from delay above texts)
    → labels_from now (varied_list delay above texts) ≡ labels_moved to (labels_from place texts)
labels_move to delay above place now [] works moves = refl
labels_move to delay above place now (text ∷ texts) works moves =
    labels_after_work (work_above delay above (words_of text)) now (text ∷ later)
    (fits delay above (words_of text) works)
    ∙ at (words_of text) moves
    (λ p q moves. labels_move to delay (above + 1) p q texts works moves)
  where
    later : List (List ℕ)
    later = varied_list delay (above + 1) texts

    more_works : List (Option ℕ)
    more_works = works_from delay (above + 1) texts

    stands : Option (List (List ℕ)) → ℕ
    stands words = now + option_len (work_above delay above words)

    at : (words : Option (List (List ℕ)))
        → MovesFrom to place now
        (if no_words words then more_works else work_above delay above words ∷ more_works)
        → ((p q : ℕ) → MovesFrom to p q more_works
        → labels_from q later ≡ labels_moved to (labels_from p texts))
        → cons_option (option_map (λ name. (name, stands words)) (option_and_then label_in words))
        (labels_from (place_after (stands words) words) later)
        ≡ labels_moved to
        (cons_option (option_map (λ name. (name, place)) (option_and_then label_in words))
        (labels_from (place_after place words) texts))
    at None moves others =
        others (place + 1) (now + 0 + 1) (later_move to place now None more_works moves)
    at (Some []) moves others =
        let same : now + 0 ≡ now = omega arith in
        rw same (others place now moves)
    at (Some (x ∷ xs)) moves others =
        let work = work_above delay above (Some (x ∷ xs)) in
        label_moves to place (now + option_len work) (label_in (x ∷ xs))
        (labels_from (place + 1) texts) (labels_from (now + option_len work + 1) later)
        (next_moves to place now work more_works moves)
        (others (place + 1) (now + option_len work + 1)
        (later_move to place now work more_works moves))

-- ## Lines

-- a good line before good lines
peeled : (n : ℕ) (reading : Option (Option Line)) (others : Result (List Line) Fault)
    (lines : List Line) → line_before n reading others ≡ Ok lines
    → (r : Option Line) × (rest : List Line) × (reading ≡ Some r) × (others ≡ Ok rest)
    × (lines ≡ cons_option r rest)
peeled n None others lines e = cc
peeled n (Some r) (Err fault) lines e = cc
peeled n (Some r) (Ok rest) lines e = (r, rest, refl, refl, cc)

-- a work is a good line before good lines
lines_after_work : (labels : List (List ℕ × ℕ)) (now n : ℕ) (work : Option ℕ)
    (texts : List (List ℕ)) (lines : List Line) → IfSome work (λ n. n ≤ WORK)
    → ((m : ℕ) → gathered m (readings_from labels (now + option_len work) texts) ≡ Ok lines)
    → gathered n (readings_from labels now (cons_option (option_map work_words work) texts))
    ≡ Ok (cons_option (option_map line.Work work) lines)
lines_after_work labels now n None texts lines fits good =
    let same : now + 0 ≡ now = omega arith in
    rw same at (good n)
lines_after_work labels now n (Some units) texts lines fits good =
    rw (work_says labels now units fits, words_of_work units fits, good (n + 1)) refl

-- a line that says something is good again
line_moved : (to : ℕ → ℕ) (labels : List (List ℕ × ℕ)) (place now : ℕ) (x : List ℕ)
    (xs : List (List ℕ)) (r : Option Line) → to place ≡ now
    → words_say labels place (x ∷ xs) ≡ Some r
    → (l : Line) × (r ≡ Some l)
    × (words_say (labels_moved to labels) now (x ∷ xs) ≡ Some (Some (redirected to l)))
line_moved to labels place now x xs r here says =
    rw (← here) (at _ _ (line_moves to labels place x xs) says)
  where
    at : (before after : Option Line) → Redirects to before after → option_map Some before ≡ Some r
        → (l : Line) × (r ≡ Some l) × (option_map Some after ≡ Some (Some (redirected to l)))
    at None after same says = cc
    at (Some l) after same says = (l, cc, ap (option_map Some) same)

-- the lines of a varied text are the script's, with the works
readings_move : (to : ℕ → ℕ) (delay : ℕ → Option ℕ) (labels : List (List ℕ × ℕ))
    (above place now n m : ℕ) (texts : List (List ℕ)) (lines : List Line)
    → AreWorks delay → MovesFrom to place now (works_from delay above texts)
    → gathered n (readings_from labels place texts) ≡ Ok lines
    → gathered m (readings_from (labels_moved to labels) now (varied_list delay above texts))
    ≡ Ok (with_works (works_from delay above texts) (map (redirected to) lines))
readings_move to delay labels above place now n m [] lines works moves good =
    let none : lines ≡ [] = cc in
    rw none refl
readings_move to delay labels above place now n m (text ∷ texts) lines works moves good =
    let (r, rest, reads, others, is) =
    peeled n (line_of labels place text)
    (gathered (n + 1) (readings_from labels (place_after place (words_of text)) texts)) lines good
    in
    rw is
    (at (words_of text) r rest moves reads others
    (λ p q k moves good.
    readings_move to delay labels (above + 1) p q (n + 1) k texts rest works moves good) refl)
  where
    later : List (List ℕ)
    later = varied_list delay (above + 1) texts

    more_works : List (Option ℕ)
    more_works = works_from delay (above + 1) texts

    at : (words : Option (List (List ℕ))) (r : Option Line) (rest : List Line)
        → MovesFrom to place now
        (if no_words words then more_works else work_above delay above words ∷ more_works)
        → option_and_then (words_say labels place) words ≡ Some r
        → gathered (n + 1) (readings_from labels (place_after place words) texts) ≡ Ok rest
        → ((p q k : ℕ) → MovesFrom to p q more_works
        → gathered (n + 1) (readings_from labels p texts) ≡ Ok rest
        → gathered k (readings_from (labels_moved to labels) q later)
        ≡ Ok (with_works more_works (map (redirected to) rest)))
        → words_of text ≡ words
        → gathered m
        (readings_from (labels_moved to labels) now
        (cons_option (option_map work_words (work_above delay above words)) (text ∷ later)))
        ≡ Ok
        (with_works
        (if no_words words then more_works else work_above delay above words ∷ more_works)
        (map (redirected to) (cons_option r rest)))
    at None r rest moves reads good others is = cc
    at (Some []) r rest moves reads good others is =
        let none : r ≡ None = cc in
        rw (none, is, others place now (m + 1) moves good) refl
    at (Some (x ∷ xs)) r rest moves reads good others is =
        let work = work_above delay above (Some (x ∷ xs)) in
        let here = next_moves to place now work more_works moves in
        let later_moves = later_move to place now work more_works moves in
        let (l, said, now_says) =
        line_moved to labels place (now + option_len work) x xs r here reads in
        rw said
        (lines_after_work (labels_moved to labels) now m work (text ∷ later)
        (redirected to l ∷ with_works more_works (map (redirected to) rest))
        (fits delay above (Some (x ∷ xs)) works)
        (λ k.
        rw (
          is,
          now_says,
          others (place + 1) (now + option_len work + 1) (k + 1) later_moves good,
        ) refl))

-- ## The whole

-- from the first line on
moves_from_start : (works : List (Option ℕ)) → MovesFrom (moved works) 0 0 works
moves_from_start works k =
    ap (moved works) (zero-add k) ∙ sym (zero-add (moved works k))

-- a varied text is too long, or the script with its works
pub script_of_varied : (delay : ℕ → Option ℕ) (text : List ℕ) (lines : List Line)
    → AreWorks delay → script_of text ≡ Ok lines
    → script_of (varied_text delay text)
    ≡ (if nat_lt SCRIPT_LINES (length (varied_list delay 0 (lines_of text))) then Err too_long
    else Ok (delayed (works_of delay text) lines))
unfolding script_of
script_of_varied delay text lines works is =
    let texts = lines_of text in
    let varied = varied_list delay 0 texts in
    let to = moved (works_from delay 0 texts) in
    let start = moves_from_start (works_from delay 0 texts) in
    let back : lines_of (varied_text delay text) ≡ varied =
    ap lines_of (varied_text_of delay 0 texts)
    ∙ lines_back varied (varied_are_lines delay 0 texts works (are_lines text)) in
    let labels : labels_from 0 varied ≡ labels_moved to (labels_from 0 texts) =
    labels_move to delay 0 0 0 texts works start in
    let good =
    readings_move to delay (labels_from 0 texts) 0 0 0 1 1 texts lines works start
    (read (nat_lt SCRIPT_LINES (length texts)) (gathered 1 (readings_of texts)) is) in
    rw (back, labels, good) refl
  where
    read : (long : Bool) (found : Result (List Line) Fault)
        → (if long then Err too_long else found) ≡ Ok lines → found ≡ Ok lines
    read true found is = cc
    read false found is = is

pub varied_script : VariedIsScript
varied_script delay text lines works is =
    rw (script_of_varied delay text lines works is)
    (long (nat_lt SCRIPT_LINES (length (varied_list delay 0 (lines_of text)))))
  where
    long : (b : Bool)
        → ((if b then Err too_long else Ok (delayed (works_of delay text) lines)) ≡ Err too_long)
        ⊎ ((if b then Err too_long else Ok (delayed (works_of delay text) lines))
        ≡ Ok (delayed (works_of delay text) lines))
    long true = inl refl
    long false = inr refl

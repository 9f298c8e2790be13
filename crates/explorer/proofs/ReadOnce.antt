-- A script that was read once, with the delays of a case.
use Rattle.std.proofs.Common.{◌≡◌, ◌∙◌, ap, sym, subst, ℕ, suc, ◌+◌, ◌≤◌, Bool, true, false, All}
use Rattle.std.proofs.Common.{nat_le, nat_lt}
use Rattle.std.proofs.Common.{if◌then◌else◌, List, [], ◌∷◌, ◌++◌, length, map, Option, count_by}
use Rattle.std.proofs.Common.{append-nil, append_assoc, drop, slice_index_or, ◌<◌, cond, take, zero}
use Rattle.std.proofs.Common.{Some, None, option_map, option_and_then, Ok, Err, Result, refl, arith}
use Rattle.std.specs.List.{cons_option}
use Rattle.std.specs.Option.{is_some, option_len}
use Rattle.std.proofs.lemmas.Bool.{le-leb, le-ltb, leb-true}
use Rattle.std.proofs.lemmas.List.{drop_all, get_or-take, get_or_append_left, take_all}
use Rattle.std.proofs.lemmas.List.Elements.{All-head, All-tail}
use Rattle.std.proofs.lemmas.List.Sums.{sum_by-cons}
use Rattle.posix_terms.specs.declared.limits.TheConstants.Limits.{SCRIPT_LINES, WORK}
use Rattle.thread_scripts.specs.Calls.{kind_named}
use Rattle.thread_scripts.specs.Faults.{Fault}
use Rattle.thread_scripts.specs.Grammar.{script_of}
use Rattle.thread_scripts.specs.Words.{lines_of, words_of}
use Rattle.thread_scripts.specs.declared.line.Line.{Line}
use Rattle.expectations.specs.Expected.{call_first, no_words}
use Rattle.command_texts.specs.Reading.{script_before, scripts_from}
use Rattle.explorer.specs.Delayed.{delayed, moved, redirected, with_works, works_from}
use Rattle.explorer.specs.Laws.{AreWorks}
use Rattle.explorer.specs.ReadScripts.{AreDelays, IsRead, MayWork}
use Rattle.explorer.specs.Varied.{line_text, varied_line, varied_lines, varied_text, varied_texts}
use Rattle.explorer.specs.Varied.{work_text}
use Rattle.explorer.proofs.VariedScripts.{script_of_varied}
use Rattle.explorer.proofs.VariedTexts.{varied_list}
use Rattle.explorer.proofs.WorkLines.{work_words}

-- the delays of calls, by their numbers
works_of_numbers : (delay : ℕ → Option ℕ) (above : ℕ) (texts : List (List ℕ))
    → map (option_and_then delay) (works_from Some above texts) ≡ works_from delay above texts
works_of_numbers delay above [] = refl
works_of_numbers delay above (text ∷ texts) =
    at (no_words (words_of text)) (call_first (words_of text))
    (works_of_numbers delay (above + 1) texts)
  where
    numbers : List (Option ℕ)
    numbers = works_from Some (above + 1) texts

    works : List (Option ℕ)
    works = works_from delay (above + 1) texts

    at : (quiet call : Bool) → map (option_and_then delay) numbers ≡ works
        → map (option_and_then delay)
        (if quiet then numbers else (if call then Some (above + 1) else None) ∷ numbers)
        ≡ (if quiet then works else (if call then delay (above + 1) else None) ∷ works)
    at true call later = later
    at false true later = ap (λ rest. delay (above + 1) ∷ rest) later
    at false false later = ap (λ rest. None ∷ rest) later

-- ## Delays as long as a work may be

-- a delay, if a work may be so long
abbrev capped_at : Option ℕ → Option ℕ
capped_at None = None
capped_at (Some units) = if nat_le units WORK then Some units else None

-- these delays, without those that are longer
abbrev capped : (ℕ → Option ℕ) → ℕ → Option ℕ
capped delay line = capped_at (delay line)

capped_fits : (work : Option ℕ) → MayWork (capped_at work)
capped_fits None = tt
capped_fits (Some units) = at (nat_le units WORK) refl where
  at : (fits : Bool) → nat_le units WORK ≡ fits → MayWork (if fits then Some units else None)
  at true is = leb-true units WORK is
  at false is = tt

capped_works : (delay : ℕ → Option ℕ) → AreWorks (capped delay)
capped_works delay line = capped_fits (delay line)

capped_same : (work : Option ℕ) → MayWork work → capped_at work ≡ work
capped_same None fits = refl
capped_same (Some units) fits = rw (le-leb units WORK fits) refl

-- the works of delays that fit are the same
works_capped : (delay : ℕ → Option ℕ) (above : ℕ) (texts : List (List ℕ))
    → All MayWork (works_from delay above texts)
    → works_from (capped delay) above texts ≡ works_from delay above texts
works_capped delay above [] fit = refl
works_capped delay above (text ∷ texts) fit =
    at (no_words (words_of text)) (call_first (words_of text)) fit
    (works_capped delay (above + 1) texts)
  where
    works : List (Option ℕ)
    works = works_from delay (above + 1) texts

    later_works : List (Option ℕ)
    later_works = works_from (capped delay) (above + 1) texts

    at : (quiet call : Bool)
        → All MayWork (if quiet then works else (if call then delay (above + 1) else None) ∷ works)
        → (All MayWork works → later_works ≡ works)
        → (if quiet then later_works
        else (if call then capped delay (above + 1) else None) ∷ later_works)
        ≡ (if quiet then works else (if call then delay (above + 1) else None) ∷ works)
    at true call fit later = later fit
    at false true fit later =
        rw (
          capped_same (delay (above + 1)) (All-head MayWork (delay (above + 1)) works fit),
          later (All-tail MayWork (delay (above + 1)) works fit),
        ) refl
    at false false fit later =
        rw (later (All-tail MayWork None works fit)) refl

-- and so is the text
lines_capped : (delay : ℕ → Option ℕ) (above : ℕ) (texts : List (List ℕ))
    → All MayWork (works_from delay above texts)
    → varied_lines (capped delay) above texts ≡ varied_lines delay above texts
unfolding varied_line
lines_capped delay above [] fit = refl
lines_capped delay above (text ∷ texts) fit =
    at (words_of text) fit (lines_capped delay (above + 1) texts)
  where
    works : List (Option ℕ)
    works = works_from delay (above + 1) texts

    now : List ℕ
    now = varied_lines (capped delay) (above + 1) texts

    before : List ℕ
    before = varied_lines delay (above + 1) texts

    of_call : (call : Bool) → All MayWork ((if call then delay (above + 1) else None) ∷ works)
        → (All MayWork works → now ≡ before)
        → (if call then work_text (capped delay (above + 1)) ++ line_text text else line_text text)
        ++ now
        ≡ (if call then work_text (delay (above + 1)) ++ line_text text else line_text text)
        ++ before
    of_call true fit later =
        rw (
          capped_same (delay (above + 1)) (All-head MayWork (delay (above + 1)) works fit),
          later (All-tail MayWork (delay (above + 1)) works fit),
        ) refl
    of_call false fit later = rw (later (All-tail MayWork None works fit)) refl

    at : (words : Option (List (List ℕ)))
        → All MayWork
        (if no_words words then works
        else (if call_first words then delay (above + 1) else None) ∷ works)
        → (All MayWork works → now ≡ before)
        → (if call_first words then work_text (capped delay (above + 1)) ++ line_text text
        else line_text text) ++ now
        ≡ (if call_first words then work_text (delay (above + 1)) ++ line_text text
        else line_text text) ++ before
    at None fit later = of_call false fit later
    at (Some []) fit later = rw (later fit) refl
    at (Some (word ∷ operands)) fit later = of_call (is_some (kind_named word)) fit later

-- ## How many lines

counted : (work : Option ℕ) (works : List (Option ℕ))
    → count_by is_some (work ∷ works) ≡ option_len work + count_by is_some works
counted None works = sum_by-cons (λ work. cond (is_some work) 1 0) None works
counted (Some units) works = sum_by-cons (λ work. cond (is_some work) 1 0) (Some units) works

-- each delay is a line more
lines_counted : (delay : ℕ → Option ℕ) (above : ℕ) (texts : List (List ℕ))
    → length (varied_list delay above texts)
    ≡ length texts + count_by is_some (works_from delay above texts)
lines_counted delay above [] = refl
lines_counted delay above (text ∷ texts) =
    at (words_of text) (lines_counted delay (above + 1) texts)
  where
    works : List (Option ℕ)
    works = works_from delay (above + 1) texts

    later : List (List ℕ)
    later = varied_list delay (above + 1) texts

    with_work : (work : Option ℕ) → length later ≡ length texts + count_by is_some works
        → length (cons_option (option_map work_words work) (text ∷ later))
        ≡ suc (length texts) + count_by is_some (work ∷ works)
    with_work None more = omega (arith, more, counted None works)
    with_work (Some units) more = omega (arith, more, counted (Some units) works)

    at : (words : Option (List (List ℕ)))
        → length later ≡ length texts + count_by is_some works
        → length
        (cons_option
        (option_map work_words (if call_first words then delay (above + 1) else None))
        (text ∷ later))
        ≡ suc (length texts)
        + count_by is_some
        (if no_words words then works
        else (if call_first words then delay (above + 1) else None) ∷ works)
    at None more = with_work None more
    at (Some []) more = omega (arith, more)
    at (Some (word ∷ operands)) more =
        with_work (if is_some (kind_named word) then delay (above + 1) else None) more

-- ## The whole

-- the text with these delays is the script with these works
pub delayed_is_script : (delay : ℕ → Option ℕ) (text : List ℕ) (script : List Line)
    (numbers works : List (Option ℕ)) (lines : ℕ)
    → IsRead text script numbers lines → AreDelays delay numbers works
    → lines + count_by is_some works ≤ SCRIPT_LINES
    → script_of (varied_text delay text) ≡ Ok (delayed works script)
delayed_is_script delay text script numbers works lines read are room =
    let texts = lines_of text in
    let all : works ≡ works_from delay 0 texts =
    are.each ∙ ap (map (option_and_then delay)) read.calls ∙ works_of_numbers delay 0 texts in
    let fit : All MayWork (works_from delay 0 texts) = subst (All MayWork) all are.fit in
    let same : works_from (capped delay) 0 texts ≡ works =
    works_capped delay 0 texts fit ∙ sym all in
    let count : length (varied_list (capped delay) 0 texts) ≡ lines + count_by is_some works =
    lines_counted (capped delay) 0 texts
    ∙ ap (λ works. length texts + count_by is_some works) same
    ∙ ap (λ n. n + count_by is_some works) (sym read.counts) in
    let short : nat_lt SCRIPT_LINES (length (varied_list (capped delay) 0 texts)) ≡ false =
    le-ltb SCRIPT_LINES (length (varied_list (capped delay) 0 texts))
    (subst (λ n. n ≤ SCRIPT_LINES) (sym count) room) in
    ap script_of (sym (lines_capped delay 0 texts fit))
    ∙ script_of_varied (capped delay) text script (capped_works delay) read.reads
    ∙ rw (short, same) refl

-- ## Works before lines

-- a line has moved over the works up to its own
moves_over : (works : List (Option ℕ)) (place : ℕ)
    → moved works place ≡ place + count_by is_some (take (suc place) works)
moves_over [] place = omega arith
moves_over (work ∷ works) zero = omega (arith, counted work [])
moves_over (work ∷ works) (suc place) =
    omega (arith, moves_over works place, counted work (take (suc place) works))

pub moved_counts : (works : List (Option ℕ)) (place to : ℕ)
    → to ≡ place + count_by is_some (take (place + 1) works) → to ≡ moved works place
moved_counts works place to is =
    let next : place + 1 ≡ suc place = omega arith in
    (rw next at is) ∙ sym (moves_over works place)

-- all of them, where there are no more
pub counts_all : (works : List (Option ℕ)) (place : ℕ) → length works ≤ place
    → count_by is_some works ≡ count_by is_some (take (place + 1) works)
counts_all works place all =
    ap (count_by is_some) (sym (take_all (place + 1) works (omega (arith, all))))

-- no lines have no works
no_lines : (works : List (Option ℕ)) → with_works works [] ≡ []
no_lines [] = refl
no_lines (work ∷ works) = refl

-- nothing is left after the last line
pub whole_lines : (all whole : List Line) (works : List (Option ℕ)) (lines : List Line)
    (to : ℕ → ℕ) (place : ℕ) → length lines ≤ place
    → all ++ with_works (drop place works) (map (redirected to) (drop place lines)) ≡ whole
    → all ≡ whole
whole_lines all whole works lines to place past is =
    let none : drop place lines ≡ [] = drop_all place lines past in
    sym (append-nil all)
    ∙ ap (λ rest. all ++ rest) (sym (no_lines (drop place works)))
    ∙ ap (λ rest. all ++ with_works (drop place works) (map (redirected to) rest)) (sym none)
    ∙ is

-- ## Threads

-- scripts, and those after them
abbrev pub after : List (List Line) → Result (List (List Line)) (ℕ × Fault)
    → Result (List (List Line)) (ℕ × Fault)
after scripts (Ok more) = Ok (scripts ++ more)
after scripts (Err fault) = Err fault

-- one more of them
pub one_more : (scripts : List (List Line)) (i : ℕ) (script : List Line)
    (others : Result (List (List Line)) (ℕ × Fault))
    → after (scripts ++ script ∷ []) others ≡ after scripts (script_before i (Ok script) others)
one_more scripts i script (Ok more) = ap Ok (append_assoc scripts (script ∷ []) more)
one_more scripts i script (Err fault) = refl

-- the script of the next thread, with its delays
pub next_script : (delays : ℕ → ℕ → Option ℕ) (scripts : List (List Line)) (i : ℕ)
    (text : List ℕ) (texts rest : List (List ℕ)) (script : List Line)
    (whole : Result (List (List Line)) (ℕ × Fault))
    → drop i texts ≡ text ∷ rest → script_of (varied_text (delays i) text) ≡ Ok script
    → after scripts (scripts_from i (varied_texts delays i (drop i texts))) ≡ whole
    → after (scripts ++ script ∷ []) (scripts_from (i + 1) (varied_texts delays (i + 1) rest)) ≡ whole
next_script delays scripts i text texts rest script whole here reads is =
    let later = scripts_from (i + 1) (varied_texts delays (i + 1) rest) in
    one_more scripts i script later
    ∙ ap (λ (read : Result (List Line) Fault). after scripts (script_before i read later)) (sym reads)
    ∙ ap (λ left. after scripts (scripts_from i (varied_texts delays i left))) (sym here)
    ∙ is

-- what was written into all places is what stands there
pub written : {X : Type 0} (seen rest : List X) (n i : ℕ) (d : X) → i < n → length seen ≡ n
    → slice_index_or (take n (seen ++ rest)) i d ≡ slice_index_or seen i d
written seen rest n i d inside all =
    get_or-take n (seen ++ rest) i d inside
    ∙ get_or_append_left seen rest d i (omega (arith, inside, all))

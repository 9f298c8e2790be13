-- The lines of a varied text.
use Rattle.std.proofs.Common.{◌≡◌, ◌∙◌, ap, ℕ, suc, ◌+◌, ◌-◌, ◌≤◌, ◌==◌, Bool, true, false, All}
use Rattle.std.proofs.Common.{List, [], ◌∷◌, ◌++◌, length, length-append, append-nil, append_assoc}
use Rattle.std.proofs.Common.{if◌then◌else◌, IfSome, Option, Some, None, option_map, refl, sym}
use Rattle.std.proofs.Common.{arith, ne_eqb, take_at}
use Rattle.std.specs.List.{cons_option, join_with_byte, onto_first, slice_split}
use Rattle.std.proofs.lemmas.List.{get_or_at}
use Rattle.std.proofs.lemmas.List.Elements.{All-cons, All-head, All-nil, All-tail}
use Rattle.std.proofs.lemmas.List.Splits.{slice_split_at, slice_split_none}
use Rattle.posix_terms.specs.declared.limits.TheConstants.Limits.{WORK}
use Rattle.thread_scripts.specs.Words.{lines_of, without_last_feed}
use Rattle.expectations.specs.Expected.{is_call}
use Rattle.explorer.specs.Laws.{AreWorks}
use Rattle.explorer.specs.Varied.{line_text, varied_line, varied_lines, work_text}
use Rattle.explorer.proofs.WorkLines.{no_feed, work_words}

-- a line has no line feed
abbrev pub IsLine : List ℕ → Type 0
IsLine line = All (λ b. (b == 10) ≡ false) line

-- the lines of a varied text, with so many lines above the first
abbrev pub varied_list : (ℕ → Option ℕ) → ℕ → List (List ℕ) → List (List ℕ)
varied_list delay above [] = []
varied_list delay above (text ∷ texts) =
    cons_option (option_map work_words (if is_call text then delay (above + 1) else None))
    (text ∷ varied_list delay (above + 1) texts)

-- lines as a text, each with its line feed
abbrev text_of : List (List ℕ) → List ℕ
text_of [] = []
text_of (line ∷ lines) = line_text line ++ text_of lines

-- each line ends with a line feed, also the last
ends_with_feed : (line : List ℕ) (lines : List (List ℕ))
    → text_of (line ∷ lines) ≡ join_with_byte 10 (line ∷ lines) ++ 10 ∷ []
ends_with_feed line [] = append-nil (line_text line)
ends_with_feed line (next ∷ lines) =
    ap (λ rest. line_text line ++ rest) (ends_with_feed next lines)
    ∙ append_assoc line (10 ∷ []) (join_with_byte 10 (next ∷ lines) ++ 10 ∷ [])
    ∙ sym (append_assoc line (10 ∷ join_with_byte 10 (next ∷ lines)) (10 ∷ []))

-- joined lines are split again
split_joined : (line : List ℕ) (lines : List (List ℕ)) → All IsLine (line ∷ lines)
    → slice_split (λ b. b == 10) (join_with_byte 10 (line ∷ lines)) ≡ line ∷ lines
split_joined line [] are =
    slice_split_none (λ b. b == 10) line (All-head IsLine line [] are)
split_joined line (next ∷ lines) are =
    slice_split_at (λ b. b == 10) line 10 (join_with_byte 10 (next ∷ lines))
    (All-head IsLine line (next ∷ lines) are) refl
    ∙ ap (λ rest. line ∷ rest) (split_joined next lines (All-tail IsLine line (next ∷ lines) are))

-- the line feed that ends a text does not count
feed_dropped : (text : List ℕ) → without_last_feed (text ++ 10 ∷ []) ≡ text
feed_dropped text =
    let back : length (text ++ 10 ∷ []) - 1 ≡ length text =
    omega (arith, length-append text (10 ∷ [])) in
    rw (back, get_or_at text 10 [] 0 (length text) refl) (take_at text (10 ∷ []) (length text) refl)

-- the lines of such a text are these again
pub lines_back : (lines : List (List ℕ)) → All IsLine lines → lines_of (text_of lines) ≡ lines
lines_back [] are = refl
lines_back (line ∷ lines) are =
    let whole = ends_with_feed line lines in
    let joined = join_with_byte 10 (line ∷ lines) in
    let some : length (joined ++ 10 ∷ []) ≡ suc (length joined) =
    omega (arith, length-append joined (10 ∷ [])) in
    let none : (length (joined ++ 10 ∷ []) == 0) ≡ false =
    ne_eqb (length (joined ++ 10 ∷ [])) 0 (λ e. omega arith) in
    ap lines_of whole ∙ rw (none, feed_dropped joined) (split_joined line lines are)

-- a varied text is that of its lines
pub varied_text_of : (delay : ℕ → Option ℕ) (above : ℕ) (texts : List (List ℕ))
    → varied_lines delay above texts ≡ text_of (varied_list delay above texts)
unfolding varied_line
varied_text_of delay above [] = refl
varied_text_of delay above (text ∷ texts) =
    at (is_call text) (delay (above + 1)) (varied_text_of delay (above + 1) texts)
  where
    later : List (List ℕ)
    later = varied_list delay (above + 1) texts

    at : (call : Bool) (units : Option ℕ) → varied_lines delay (above + 1) texts ≡ text_of later
        → (if call then work_text units ++ line_text text else line_text text)
        ++ varied_lines delay (above + 1) texts
        ≡ text_of
        (cons_option (option_map work_words (if call then units else None)) (text ∷ later))
    at false units rest = ap (λ rest. line_text text ++ rest) rest
    at true None rest = ap (λ rest. line_text text ++ rest) rest
    at true (Some n) rest =
        append_assoc (line_text (work_words n)) (line_text text)
        (varied_lines delay (above + 1) texts)
        ∙ ap (λ rest. line_text (work_words n) ++ (line_text text ++ rest)) rest

-- ## No line has a line feed

-- a byte more before the first part
onto : (b : ℕ) (parts : List (List ℕ)) → (b == 10) ≡ false → All IsLine parts
    → All IsLine (onto_first b parts)
onto b [] other are =
    All-cons IsLine (b ∷ []) [] (All-cons (λ b. (b == 10) ≡ false) b [] other (All-nil _))
    (All-nil IsLine)
onto b (part ∷ parts) other are =
    All-cons IsLine (b ∷ part) parts
    (All-cons (λ b. (b == 10) ≡ false) b part other (All-head IsLine part parts are))
    (All-tail IsLine part parts are)

-- the parts between line feeds
parts_are_lines : (text : List ℕ) → All IsLine (slice_split (λ b. b == 10) text)
parts_are_lines [] = All-cons IsLine [] [] (All-nil _) (All-nil IsLine)
parts_are_lines (b ∷ text) = at (b == 10) refl (parts_are_lines text) where
  parts : List (List ℕ)
  parts = slice_split (λ b. b == 10) text

  at : (feed : Bool) → (b == 10) ≡ feed → All IsLine parts
      → All IsLine (if feed then [] ∷ parts else onto_first b parts)
  at true is are = All-cons IsLine [] parts (All-nil _) are
  at false is are = onto b parts is are

-- the lines of a text
pub are_lines : (text : List ℕ) → All IsLine (lines_of text)
are_lines text = at (length text == 0) where
  at : (none : Bool)
      → All IsLine (if none then [] else slice_split (λ b. b == 10) (without_last_feed text))
  at true = All-nil IsLine
  at false = parts_are_lines (without_last_feed text)

-- the lines of a varied text
pub varied_are_lines : (delay : ℕ → Option ℕ) (above : ℕ) (texts : List (List ℕ))
    → AreWorks delay → All IsLine texts → All IsLine (varied_list delay above texts)
varied_are_lines delay above [] works are = are
varied_are_lines delay above (text ∷ texts) works are =
    at (is_call text) (delay (above + 1)) (works (above + 1))
    (All-cons IsLine text later (All-head IsLine text texts are)
    (varied_are_lines delay (above + 1) texts works (All-tail IsLine text texts are)))
  where
    later : List (List ℕ)
    later = varied_list delay (above + 1) texts

    at : (call : Bool) (units : Option ℕ) → IfSome units (λ n. n ≤ WORK)
        → All IsLine (text ∷ later)
        → All IsLine
        (cons_option (option_map work_words (if call then units else None)) (text ∷ later))
    at false units fits rest = rest
    at true None fits rest = rest
    at true (Some n) fits rest =
        All-cons IsLine (work_words n) (text ∷ later) (no_feed n fits) rest

-- The line at the place of a label is the label's.
use Rattle.std.proofs.Common.{◌≡◌, ◌∙◌, sym, ap, ℕ, zero, suc, ◌+◌, ◌-◌, ◌≤◌, Bool, true, false, ◌&&◌, if◌then◌else◌}
use Rattle.std.proofs.Common.{List, [], ◌∷◌, ◌++◌, slice_get, Option, Some, None, Result, Ok, Err, option_map, refl}
use Rattle.std.proofs.Common.{eq-eqb, arith}
use Rattle.std.specs.Prelude.{bytes_eq, codes, option_and_then}
use Rattle.std.specs.List.{cons_option}
use Rattle.std.proofs.lemmas.Slice.Eq.{bytes_eq-Decides}
use Rattle.thread_scripts.specs.Faults.{Fault}
use Rattle.thread_scripts.specs.Grammar.{gathered, line_before, readings_from}
use Rattle.thread_scripts.specs.Laws.{LeadsByName, spoken, words_read}
use Rattle.thread_scripts.specs.Labels.{is_name, label_in, labels_from, place_after, place_of}
use Rattle.thread_scripts.specs.Rules.{target_of}
use Rattle.thread_scripts.specs.Lines.{line_of, line_with, word_named, words_say}
use Rattle.thread_scripts.specs.Words.{words_of}
use Rattle.thread_scripts.specs.declared.lines.Word.{Word}
use Rattle.thread_scripts.specs.declared.line.Line.{Line}
use Rattle.thread_scripts.specs.declared.line.Line.TheVariants as line
use Rattle.thread_scripts.proofs.Targets.{jumps_in, JumpsIn}

-- a good line before good lines
pub peeled : (n : ℕ) (reading : Option (Option Line)) (others : Result (List Line) Fault) (lines : List Line)
    → line_before n reading others ≡ Ok lines → (r : Option Line) × (rest : List Line) × (reading ≡ Some r)
    × (others ≡ Ok rest) × (lines ≡ cons_option r rest)
peeled n None others lines e = cc
peeled n (Some r) (Err fault) lines e = cc
peeled n (Some r) (Ok rest) lines e = (r, rest, refl, refl, cc)

-- the words of a label's line, at the place of the label
label_says : (labels : List (List ℕ × ℕ)) (place : ℕ) (name : List ℕ) → place_of name labels ≡ Some place
    → words_say labels place (codes "label" ∷ name ∷ []) ≡ Some (Some line.Label)
unfolding line_with
label_says labels place name e = rw (e, eq-eqb place place refl) refl

label_reads : (labels : List (List ℕ × ℕ)) (place : ℕ) (words : List (List ℕ)) (name : List ℕ)
    → label_in words ≡ Some name → place_of name labels ≡ Some place
    → words_say labels place words ≡ Some (Some line.Label)
label_reads labels place [] name e p = cc
label_reads labels place (w ∷ []) name e p = cc
label_reads labels place (w ∷ x ∷ y ∷ more) name e p = cc
label_reads labels place (w ∷ x ∷ []) name e p = at (bytes_eq w (codes "label")) (is_name x) refl e where
  at : (b c : Bool) → bytes_eq w (codes "label") ≡ b → (if b && c then Some x else None) ≡ Some name
      → words_say labels place (w ∷ x ∷ []) ≡ Some (Some line.Label)
  at false c is e = cc
  at true false is e = cc
  at true true is e =
      let word : w ≡ codes "label" = (bytes_eq-Decides w (codes "label")).0 is in
      let same : x ≡ name = cc in
      rw (word, same) (label_says labels place name p)

-- the words of a label's line
label_words : (words : List (List ℕ)) (name : List ℕ) → label_in words ≡ Some name → words ≡ codes "label" ∷ name ∷ []
label_words [] name e = cc
label_words (w ∷ []) name e = cc
label_words (w ∷ x ∷ y ∷ more) name e = cc
label_words (w ∷ x ∷ []) name e = at (bytes_eq w (codes "label")) (is_name x) refl e where
  at : (b c : Bool) → bytes_eq w (codes "label") ≡ b → (if b && c then Some x else None) ≡ Some name
      → w ∷ x ∷ [] ≡ codes "label" ∷ name ∷ []
  at false c is e = cc
  at true false is e = cc
  at true true is e =
      let word : w ≡ codes "label" = (bytes_eq-Decides w (codes "label")).0 is in
      let same : x ≡ name = cc in
      rw (word, same) refl

-- words that say nothing
silent : (labels : List (List ℕ × ℕ)) (place : ℕ) (words : Option (List (List ℕ)))
    → option_and_then (words_say labels place) words ≡ Some None → spoken words ≡ None
silent labels place None e = cc
silent labels place (Some []) e = refl
silent labels place (Some (x ∷ operands)) e =
    at (option_and_then (λ w. line_with labels place w operands) (word_named x)) e where
      at : (o : Option Line) → option_map Some o ≡ Some None → spoken (Some (x ∷ operands)) ≡ None
      at None e = cc
      at (Some l) e = cc

-- a line that was read from these words can jump to the label of the last only
abbrev pub JumpsAt : List (List ℕ × ℕ) → Option (List (List ℕ)) → Option Line → Type 0
JumpsAt labels words None = Unit {0}
JumpsAt labels words (Some l) = (p : ℕ) → target_of l ≡ Some p → (name : List ℕ) × (front : List (List ℕ))
    × (words ≡ Some (front ++ name ∷ [])) × (place_of name labels ≡ Some p)

-- what words say jumps to their own label only
says_in : (labels : List (List ℕ × ℕ)) (place : ℕ) (words : Option (List (List ℕ))) (l : Line)
    → option_and_then (words_say labels place) words ≡ Some (Some l) → (spoken words ≡ words)
    × JumpsAt labels words (Some l)
says_in labels place None l e = cc
says_in labels place (Some []) l e = cc
says_in labels place (Some (x ∷ operands)) l e = (refl, named (word_named x) e) where
  said : (o : Option Line) → JumpsIn labels (x ∷ operands) o → option_map Some o ≡ Some (Some l)
      → JumpsAt labels (Some (x ∷ operands)) (Some l)
  said None h e = cc
  said (Some m) h e = λ p t.
      let same : m ≡ l = cc in
      let (name, front, words, known) = h p (ap target_of same ∙ t) in
      (name, front, ap Some words, known)

  named : (w : Option Word) → option_map Some (option_and_then (λ w. line_with labels place w operands) w)
      ≡ Some (Some l) → JumpsAt labels (Some (x ∷ operands)) (Some l)
  named None e = cc
  named (Some w) e = said (line_with labels place w operands) (jumps_in labels place x w operands) e

pub all_jump_in : (labels : List (List ℕ × ℕ)) (texts : List (List ℕ)) (place n : ℕ) (lines : List Line) (k : ℕ)
    → gathered n (readings_from labels place texts) ≡ Ok lines
    → JumpsAt labels (slice_get (words_read texts) k) (slice_get lines k)
all_jump_in labels [] place n lines k e = let none : lines ≡ [] = cc in rw none tt
all_jump_in labels (text ∷ texts) place n lines k e =
    at (words_of text) (peeled n (line_of labels place text)
    (gathered (n + 1) (readings_from labels (place_after place (words_of text)) texts)) lines e)
    (λ rest j e. all_jump_in labels texts (place_after place (words_of text)) (n + 1) rest j e) where
      first : (l : Line) (rest : List Line) (w : Option (List (List ℕ))) (j : ℕ)
          → option_and_then (words_say labels place) w ≡ Some (Some l)
          → ((j : ℕ) → JumpsAt labels (slice_get (words_read texts) j) (slice_get rest j))
          → JumpsAt labels (slice_get (cons_option (spoken w) (words_read texts)) j) (slice_get (l ∷ rest) j)
      first l rest None j e later = cc
      first l rest (Some []) j e later = cc
      first l rest (Some (x ∷ xs)) zero e later = (says_in labels place (Some (x ∷ xs)) l e).1
      first l rest (Some (x ∷ xs)) (suc j) e later = later j

      at : (w : Option (List (List ℕ)))
          → ((r : Option Line) × (rest : List Line) × (option_and_then (words_say labels place) w ≡ Some r)
          × (gathered (n + 1) (readings_from labels (place_after place (words_of text)) texts) ≡ Ok rest)
          × (lines ≡ cons_option r rest))
          → ((rest : List Line) (j : ℕ) → gathered (n + 1)
          (readings_from labels (place_after place (words_of text)) texts) ≡ Ok rest
          → JumpsAt labels (slice_get (words_read texts) j) (slice_get rest j))
          → JumpsAt labels (slice_get (cons_option (spoken w) (words_read texts)) k) (slice_get lines k)
      at w (None, rest, reading, others, is) later = rw (is, silent labels place w reading) (later rest k others)
      at w (Some l, rest, reading, others, is) later = rw is (first l rest w k reading (λ j. later rest j others))

-- words say a line
says_line : (o : Option Line) (r : Option Line) → option_map Some o ≡ Some r → (l : Line) × (r ≡ Some l)
says_line None r e = cc
says_line (Some l) r e = (l, cc)

-- the line at p of lines that begin at place is the label of this name
abbrev pub Found : List ℕ → ℕ → ℕ → List (List (List ℕ)) → List Line → Type 0
Found name p place words lines = (place ≤ p) × (slice_get lines (p - place) ≡ Some line.Label)
    × (slice_get words (p - place) ≡ Some (codes "label" ∷ name ∷ []))

found_behind : (name : List ℕ) (p place : ℕ) (w : List (List ℕ)) (words : List (List (List ℕ))) (l : Line)
    (rest lines : List Line) → lines ≡ l ∷ rest → Found name p (place + 1) words rest
    → Found name p place (w ∷ words) lines
found_behind name p place w words l rest lines is (below, there, said) =
    let one : p - place ≡ suc (p - (place + 1)) = omega arith in
    (omega arith, rw (is, one) there, rw one said)

found_here : (name : List ℕ) (p place : ℕ) (w : List (List ℕ)) (words : List (List (List ℕ))) (l : Line)
    (rest lines : List Line) → lines ≡ l ∷ rest → l ≡ line.Label → w ≡ codes "label" ∷ name ∷ [] → place ≡ p
    → Found name p place (w ∷ words) lines
found_here name p place w words l rest lines is label said here =
    let none : p - place ≡ 0 = omega arith in
    (omega arith, rw (is, none) (ap Some label), rw none (ap Some said))

-- the line at the place of the first label of a name
pub label_there : (labels : List (List ℕ × ℕ)) (name : List ℕ) (p : ℕ) → place_of name labels ≡ Some p
    → (texts : List (List ℕ)) (place n : ℕ) (lines : List Line)
    → gathered n (readings_from labels place texts) ≡ Ok lines → place_of name (labels_from place texts) ≡ Some p
    → Found name p place (words_read texts) lines
label_there labels name p known [] place n lines e f = cc
label_there labels name p known (text ∷ texts) place n lines e f =
    at (words_of text) e f (λ later rest. label_there labels name p known texts later (n + 1) rest) where
      Later : Type 0
      Later = (later : ℕ) (rest : List Line) → gathered (n + 1) (readings_from labels later texts) ≡ Ok rest
          → place_of name (labels_from later texts) ≡ Some p → Found name p later (words_read texts) rest

      named : (words : List (List ℕ)) (label : List ℕ) (same : Bool) → label_in words ≡ Some label
          → bytes_eq label name ≡ same → (if same then Some place else place_of name (labels_from (place + 1) texts))
          ≡ Some p → (l : Line) (rest : List Line) → words_say labels place words ≡ Some (Some l)
          → gathered (n + 1) (readings_from labels (place + 1) texts) ≡ Ok rest → lines ≡ l ∷ rest → Later
          → Found name p place (words ∷ words_read texts) lines
      named words label false in_words differ f l rest says others is later =
          found_behind name p place words (words_read texts) l rest lines is (later (place + 1) rest others f)
      named words label true in_words equal f l rest says others is later =
          let same : label ≡ name = (bytes_eq-Decides label name).0 equal in
          let here : place ≡ p = cc in
          let named : label_in words ≡ Some name = in_words ∙ ap Some same in
          let reads : words_say labels place words ≡ Some (Some line.Label) =
          label_reads labels place words name named (known ∙ ap Some (sym here)) in
          let label : l ≡ line.Label = cc in
          found_here name p place words (words_read texts) l rest lines is label (label_words words name named) here

      labelled : (words : List (List ℕ)) (label : Option (List ℕ)) → label_in words ≡ label
          → place_of name (cons_option (option_map (λ x. (x, place)) label) (labels_from (place + 1) texts)) ≡ Some p
          → (l : Line) (rest : List Line) → words_say labels place words ≡ Some (Some l)
          → gathered (n + 1) (readings_from labels (place + 1) texts) ≡ Ok rest → lines ≡ l ∷ rest → Later
          → Found name p place (words ∷ words_read texts) lines
      labelled words None in_words f l rest says others is later = found_behind name p place words (words_read texts) l
          rest lines is (later (place + 1) rest others f)
      labelled words (Some label) in_words f l rest says others is later =
          named words label (bytes_eq label name) in_words refl f l rest says others is later

      at : (w : Option (List (List ℕ)))
          → line_before n (option_and_then (words_say labels place) w)
          (gathered (n + 1) (readings_from labels (place_after place w) texts)) ≡ Ok lines
          → place_of name (cons_option (option_map (λ x. (x, place)) (option_and_then label_in w))
          (labels_from (place_after place w) texts)) ≡ Some p → Later
          → Found name p place (cons_option (spoken w) (words_read texts)) lines
      at None e f later = cc
      at (Some []) e f later =
          let (r, rest, reading, others, is) =
          peeled n (Some None) (gathered (n + 1) (readings_from labels place texts)) lines e in
          let none : r ≡ None = cc in
          let same : lines ≡ rest = is ∙ ap (λ r. cons_option r rest) none in
          rw same (later place rest others f)
      at (Some (x ∷ xs)) e f later =
          let (r, rest, reading, others, is) =
          peeled n (words_say labels place (x ∷ xs)) (gathered (n + 1) (readings_from labels (place + 1) texts))
          lines e in
          let (l, says) = says_line (option_and_then (λ w. line_with labels place w xs) (word_named x)) r reading in
          labelled (x ∷ xs) (label_in (x ∷ xs)) refl f l rest (reading ∙ ap Some says) others
          (is ∙ ap (λ r. cons_option r rest) says) later

-- where a line of a script may jump to, there is the label that it names
pub jumps_to_label :
    (texts : List (List ℕ)) (lines : List Line) (k p : ℕ)
    → gathered 1 (readings_from (labels_from 0 texts) 0 texts) ≡ Ok lines
    → option_and_then target_of (slice_get lines k) ≡ Some p → (slice_get lines p ≡ Some line.Label)
    × LeadsByName (words_read texts) k p
jumps_to_label texts lines k p e t = at (slice_get lines k) (all_jump_in (labels_from 0 texts) texts 0 1 lines k e) t
  where
    at : (l : Option Line) → JumpsAt (labels_from 0 texts) (slice_get (words_read texts) k) l
        → option_and_then target_of l ≡ Some p → (slice_get lines p ≡ Some line.Label)
        × LeadsByName (words_read texts) k p
    at None h t = cc
    at (Some l) h t =
        let (name, front, jump, known) = h p t in
        let found = label_there (labels_from 0 texts) name p known texts 0 1 lines e known in
        let same : p - 0 ≡ p = omega arith in
        (rw same at found.1, record { name = name; front = front; jump = jump; label = rw same at found.2 })

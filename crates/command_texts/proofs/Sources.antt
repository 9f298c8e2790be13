-- Texts and scripts, one after the others.
use Rattle.std.proofs.Common.{◌≡◌, ℕ, suc, ◌<◌, List, [], ◌∷◌, ◌++◌, length, map, take, drop, get_or, Option, Result}
use Rattle.std.proofs.Common.{Ok, Err, refl, ap, sym, ◌∙◌, subst}
use Rattle.std.proofs.Math.Seq.{drop-cons}
use Rattle.std.proofs.lemmas.List.{map-append, take-append-drop}
use Rattle.thread_scripts.specs.Faults.{Fault}
use Rattle.thread_scripts.specs.declared.line.Line.{Line}
use Rattle.command_texts.specs.Reading.{AreTexts, IsFirstUnread, IsText, IsUnreadable}

-- more scripts after these
abbrev pub with_front : List (List Line) → Result (List (List Line)) (ℕ × Fault) → Result (List (List Line)) (ℕ × Fault)
with_front scripts (Ok more) = Ok (scripts ++ more)
with_front scripts (Err fault) = Err fault

texts_push : (sources : List (List ℕ × Option (List ℕ))) (texts : List (List ℕ)) (source : List ℕ × Option (List ℕ))
    (text : List ℕ)
    → AreTexts sources texts → IsText source.1 text → AreTexts (sources ++ source ∷ []) (texts ++ text ∷ [])
texts_push [] [] source text read is_text = (is_text, tt)
texts_push [] (t ∷ texts) source text read is_text = absurd read
texts_push (s ∷ sources) [] source text read is_text = absurd read
texts_push (s ∷ sources) (t ∷ texts) source text (is_t, read) is_text =
    (is_t, texts_push sources texts source text read is_text)

-- the text of a source, read after the others
pub more_read : {S : Type 0} (view : S → List ℕ × Option (List ℕ)) (sources : List S) (source : S)
    (texts : List (List ℕ)) (text : List ℕ)
    → AreTexts (map view sources) texts → IsText (view source).1 text
    → AreTexts (map view (sources ++ source ∷ [])) (texts ++ text ∷ [])
more_read view sources source texts text read is_text =
    let P : List (List ℕ × Option (List ℕ)) → Type 0 = λ all. AreTexts all (texts ++ text ∷ []) in
    subst P (sym (map-append view sources (source ∷ [])))
    (texts_push (map view sources) texts (view source) text read is_text)

map_same : {S : Type 0} (xs : List S) → map (λ y. y) xs ≡ xs
map_same [] = refl
map_same (x ∷ xs) = ap (λ l. x ∷ l) (map_same xs)

-- a list is what a loop has gone over, and then the element of this turn
pub split_where : {S : Type 0} (before : List S) (x : S) (all : List S) → map (λ y. y) before ≡ take (length before) all
    → length before < length all → x ≡ get_or all (length before) x
    → all ≡ before ++ x ∷ drop (suc (length before)) all
split_where {S} before x all far inside is =
    let left : drop (length before) all ≡ x ∷ drop (suc (length before)) all = drop-cons all (length before) x inside
    ∙ ap (λ (y : S). y ∷ drop (suc (length before)) all) (sym is) in
    let gone : take (length before) all ≡ before = sym far ∙ map_same before in
    sym (take-append-drop (length before) all) ∙ ap (λ l. l ++ drop (length before) all) gone
    ∙ ap (λ l. before ++ l) left

-- the source of this turn could not be read
pub unread_after : {S : Type 0} (view : S → List ℕ × Option (List ℕ)) (before : List S) (source : S)
    (after all : List S) (texts : List (List ℕ))
    → all ≡ before ++ source ∷ after → AreTexts (map view before) texts → IsUnreadable (view source).1
    → IsFirstUnread (map view all) (view source).0
unread_after view before source after all texts is read failed =
    record {
      before = map view before;
      known = (view source).1;
      after = map view after;
      places = ap (map view) is ∙ map-append view before (source ∷ after);
      failed = failed;
      texts = texts;
      read = read;
    }

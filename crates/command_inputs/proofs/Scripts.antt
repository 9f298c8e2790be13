-- As many scripts as texts, and as many texts as sources.
use Rattle.std.proofs.Common.{◌≡◌, ℕ, zero, suc, ◌+◌, List, [], ◌∷◌, ◌++◌, length, map, replicate, Option, Result, Ok}
use Rattle.std.proofs.Common.{Err, refl, ap, sym, ◌∙◌, subst}
use Rattle.std.proofs.lemmas.List.{length-map}
use Rattle.std.specs.Prelude.{Bool, true, IfOk}
use Rattle.thread_scripts.specs.Faults.{Fault}
use Rattle.thread_scripts.specs.Grammar.{script_of}
use Rattle.thread_scripts.specs.declared.line.Line.{Line}
use Rattle.call_machine.specs.Plain.{counts_fit}
use Rattle.command_texts.specs.Reading.{AreTexts, script_before, scripts_from}

pub replicate_push : {A : Type 0} (n : ℕ) (x : A) → replicate n x ++ x ∷ [] ≡ replicate (suc n) x
replicate_push zero x = refl
replicate_push (suc n) x = ap (λ (l : List _). x ∷ l) (replicate_push n x)

texts_length : (sources : List (List ℕ × Option (List ℕ))) (texts : List (List ℕ)) → AreTexts sources texts
    → length texts ≡ length sources
texts_length [] [] read = refl
texts_length [] (t ∷ texts) read = absurd read
texts_length (s ∷ sources) [] read = absurd read
texts_length (s ∷ sources) (t ∷ texts) (is_t, read) = ap suc (texts_length sources texts read)

one_more : (i n : ℕ) (read : Result (List Line) Fault) (others : Result (List (List Line)) (ℕ × Fault))
    → IfOk others (λ scripts. length scripts ≡ n)
    → IfOk (script_before i read others) (λ scripts. length scripts ≡ suc n)
one_more i n (Err fault) others others_are = tt
one_more i n (Ok script) (Ok others) others_are = ap suc others_are
one_more i n (Ok script) (Err fault) others_are = tt

scripts_length : (i : ℕ) (texts : List (List ℕ))
    → IfOk (scripts_from i texts) (λ scripts. length scripts ≡ length texts)
scripts_length i [] = refl
scripts_length i (text ∷ texts) = one_more i (length texts) (script_of text) (scripts_from (i + 1) texts)
    (scripts_length (i + 1) texts)

-- so many can run together
abbrev pub Fits : {X : Type 0} → List X → Type 0
Fits xs = counts_fit (length xs) (length xs) ≡ true

pub fits_as : {X Y : Type 0} (xs : List X) (ys : List Y) → length xs ≡ length ys → Fits ys → Fits xs
fits_as xs ys same fits = ap (λ n. counts_fit n n) same ∙ fits

pub texts_fit : (sources : List (List ℕ × Option (List ℕ))) (texts : List (List ℕ)) → AreTexts sources texts
    → Fits sources → Fits texts
texts_fit sources texts read = fits_as texts sources (texts_length sources texts read)

pub scripts_fit : (texts : List (List ℕ)) (scripts : List (List Line)) → scripts_from 0 texts ≡ Ok scripts → Fits texts
    → Fits scripts
scripts_fit texts scripts is =
    let AsLong : Result (List (List Line)) (ℕ × Fault)
    → Type 0 = λ r. IfOk r (λ scripts. length scripts ≡ length texts) in
    fits_as scripts texts (subst AsLong is (scripts_length 0 texts))

pub view_fits : {S X : Type 0} (view : S → X) (sources : List S) (n : ℕ) (fits : Bool) → n ≡ length sources
    → fits ≡ counts_fit n n → fits ≡ true → Fits (map view sources)
view_fits view sources n fits count is true_is =
    let same : length (map view sources) ≡ n = length-map sources view ∙ sym count in
    ap (λ m. counts_fit m m) same ∙ sym is ∙ true_is

-- there are as many scripts as texts, and as many texts as sources
pub scripts_count : (texts : List (List ℕ)) (scripts : List (List Line)) → scripts_from 0 texts ≡ Ok scripts
    → length scripts ≡ length texts
scripts_count texts scripts is =
    subst (λ (r : Result (List (List Line)) (ℕ × Fault)). IfOk r (λ all. length all ≡ length texts)) is
    (scripts_length 0 texts)

pub texts_count : {S : Type 0} (view : S → List ℕ × Option (List ℕ)) (sources : List S) (texts : List (List ℕ))
    → AreTexts (map view sources) texts → length texts ≡ length sources
texts_count view sources texts read = texts_length (map view sources) texts read ∙ length-map sources view

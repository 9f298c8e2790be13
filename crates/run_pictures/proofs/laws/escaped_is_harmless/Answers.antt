use Rattle.std.proofs.Common.{◌≡◌, ◌∙◌, ℕ, zero, suc, ◌<◌, ◌==◌, ◌&&◌, ◌||◌, ◌++◌, All, Bool}
use Rattle.std.proofs.Common.{true, false, not, List, [], ◌∷◌, arith, refl}
use Rattle.std.specs.List.{list_all, list_any}
use Rattle.std.proofs.lemmas.Bool.{eqb-false, eqb-true}
use Rattle.std.proofs.lemmas.List.Elements.{All-head, All-tail}
use Rattle.std.proofs.lemmas.List.Folds.{list_all-append}
use Rattle.hex.specs.Hex.{encode_with}
use Rattle.run_pictures.specs.Escaped.{escaped, escaped_byte}
use Rattle.run_pictures.specs.Laws.{are_names, begins, is_harmless, names}
use Rattle.run_pictures.proofs.laws.escaped_is_harmless.Goals as goal

both : (a b : Bool) → (a && b) ≡ true → (a ≡ true) × (b ≡ true)
both true true e = (refl, refl)
both true false e = cc
both false b e = cc

and_true : (a b : Bool) → a ≡ true → b ≡ true → (a && b) ≡ true
and_true true true e f = refl
and_true true false e f = cc
and_true false b e f = cc

or_true : (a b : Bool) → b ≡ true → (a || b) ≡ true
or_true true b e = refl
or_true false true e = refl
or_true false false e = cc

or_first : (a b : Bool) → a ≡ true → (a || b) ≡ true
or_first true b e = refl
or_first false b e = cc

or_second : (a b : Bool) → a ≡ false → (a || b) ≡ true → b ≡ true
or_second true b e f = cc
or_second false true e f = refl
or_second false false e f = cc

-- ---- a test of each number below n

below : ℕ → (ℕ → Bool) → Bool
below zero test = true
below (suc n) test = test n && below n test

each_below : (n : ℕ) (test : ℕ → Bool) → below n test ≡ true → (d : ℕ) → d < n → test d ≡ true
unfolding below
each_below zero test all d less = absurd (omega arith)
each_below (suc n) test all d less =
    at (d == n) refl (each_below n test (both (test n) (below n test) all).1 d) where
      at : (same : Bool) → (d == n) ≡ same → (d < n → test d ≡ true) → test d ≡ true
      at true same smaller = rw (eqb-true d n same) (both (test n) (below n test) all).0
      at false other smaller =
          let apart : d ≡ n → ⊥ = eqb-false d n other in smaller (omega arith)

-- ---- bytes

harmless_byte : (b : ℕ) → b < 256 → list_all is_harmless (escaped_byte b) ≡ true
unfolding below encode_with
harmless_byte b byte = each_below 256 (λ b. list_all is_harmless (escaped_byte b)) refl b byte

named_byte : (b : ℕ) → b < 256 → are_names (escaped_byte b) ≡ true
unfolding below are_names begins encode_with
named_byte b byte = each_below 256 (λ b. are_names (escaped_byte b)) refl b byte

-- ---- a name stays one whatever follows

begins_more : (word text more : List ℕ) → begins word text ≡ true
    → begins word (text ++ more) ≡ true
unfolding begins
begins_more [] text more e = refl
begins_more (b ∷ word) [] more e = cc
begins_more (b ∷ word) (c ∷ text) more e =
    let parts = both (b == c) (begins word text) e in
    and_true (b == c) (begins word (text ++ more)) parts.0
    (begins_more word text more parts.1)

abbrev begins_one : List (List ℕ) → List ℕ → Bool
begins_one words text = list_any (λ word. begins word text) words

any_step : (does : Bool) (word : List ℕ) (words : List (List ℕ)) (text more : List ℕ)
    → begins word text ≡ does
    → (begins_one words text ≡ true → begins_one words (text ++ more) ≡ true)
    → (does || begins_one words text) ≡ true
    → (begins word (text ++ more) || begins_one words (text ++ more)) ≡ true
any_step true word words text more is rest e =
    or_first (begins word (text ++ more)) (begins_one words (text ++ more))
    (begins_more word text more is)
any_step false word words text more is rest e =
    or_true (begins word (text ++ more)) (begins_one words (text ++ more)) (rest e)

any_more : (words : List (List ℕ)) (text more : List ℕ) → begins_one words text ≡ true
    → begins_one words (text ++ more) ≡ true
any_more [] text more e = e
any_more (word ∷ words) text more e =
    any_step (begins word text) word words text more refl (any_more words text more) e

named_more : (other : Bool) (text more : List ℕ) → (other || begins_one names text) ≡ true
    → (other || begins_one names (text ++ more)) ≡ true
named_more true text more any = refl
named_more false text more any = any_more names text more any

named_append : (text more : List ℕ) → are_names text ≡ true → are_names more ≡ true
    → are_names (text ++ more) ≡ true
unfolding are_names
named_append [] more e e' = e'
named_append (b ∷ text) more e e' =
    let parts = both (not (b == 38) || begins_one names text) (are_names text) e in
    and_true (not (b == 38) || begins_one names (text ++ more)) (are_names (text ++ more))
    (named_more (not (b == 38)) text more parts.0) (named_append text more parts.1 e')

-- ---- texts

harmless : (bytes : List ℕ) → All (λ b. b < 256) bytes
    → list_all is_harmless (escaped bytes) ≡ true
harmless [] all = refl
harmless (b ∷ bytes) all =
    list_all-append is_harmless (escaped_byte b) (escaped bytes)
    ∙ and_true (list_all is_harmless (escaped_byte b)) (list_all is_harmless (escaped bytes))
    (harmless_byte b (All-head (λ b. b < 256) b bytes all))
    (harmless bytes (All-tail (λ b. b < 256) b bytes all))

named : (bytes : List ℕ) → All (λ b. b < 256) bytes → are_names (escaped bytes) ≡ true
unfolding are_names
named [] all = refl
named (b ∷ bytes) all =
    named_append (escaped_byte b) (escaped bytes)
    (named_byte b (All-head (λ b. b < 256) b bytes all))
    (named bytes (All-tail (λ b. b < 256) b bytes all))

pub returns-clause-harmless : goal.returns-clause-harmless
returns-clause-harmless c = harmless

pub returns-clause-names : goal.returns-clause-names
returns-clause-names c = named

-- What the threads of a run saw, gathered from the first thread on.
use Rattle.std.proofs.Common.{◌≡◌, ℕ, zero, suc, ◌+◌, Bool, true, false, ◌&&◌, List, [], ◌∷◌, ◌++◌, length}
use Rattle.std.proofs.Common.{slice_index_or, Result, Ok, Err, is_ok, refl, sym, ap, ap₂, ◌∙◌, arith}
use Rattle.std.specs.Prelude.{◌↔◌, IsTrue, OnOk, OnErr}
use Rattle.std.proofs.lemmas.Bool.{false≢true}
use Rattle.std.proofs.lemmas.List.{append-nil, length-append}
use Rattle.lock_model.specs.History.{IsPrefixOf}
use Rattle.machine.specs.History.{transcript_of}
use Rattle.posix_terms.specs.declared.transcript.HistoryRow.{HistoryRow}
use Rattle.posix_terms.specs.declared.transcript.Row.{Row}
use Rattle.recorder.specs.Recorded.{AreBeginnings, IsCutShort, IsWhole, transcripts_of}

-- each of the first is a beginning of the one at its place
abbrev pub Begin : List (List Row) → List (List Row) → Type 0
Begin [] [] = Unit {0}
Begin (x ∷ xs) (y ∷ ys) = IsPrefixOf x y × Begin xs ys
Begin xs ys = ⊥

begin_last : (xs ys : List (List Row)) (x y : List Row) → Begin xs ys → IsPrefixOf x y
    → Begin (xs ++ x ∷ []) (ys ++ y ∷ [])
begin_last [] [] x y h p = (p, tt)
begin_last (a ∷ xs) (b ∷ ys) x y h p = (h.0, begin_last xs ys x y h.1 p)
begin_last [] (b ∷ ys) x y h p = absurd h
begin_last (a ∷ xs) [] x y h p = absurd h

begin_count : (xs ys : List (List Row)) → Begin xs ys → length xs ≡ length ys
begin_count [] [] h = refl
begin_count (x ∷ xs) (y ∷ ys) h = ap suc (begin_count xs ys h.1)
begin_count [] (y ∷ ys) h = absurd h
begin_count (x ∷ xs) [] h = absurd h

begin_at : (xs ys : List (List Row)) → Begin xs ys → (i : ℕ)
    → IsPrefixOf (slice_index_or xs i []) (slice_index_or ys i [])
begin_at [] [] h i = ([], refl)
begin_at (x ∷ xs) (y ∷ ys) h zero = h.0
begin_at (x ∷ xs) (y ∷ ys) h (suc i) = begin_at xs ys h.1 i
begin_at [] (y ∷ ys) h i = absurd h
begin_at (x ∷ xs) [] h i = absurd h

pub begin_all : (xs ys : List (List Row)) → Begin xs ys → AreBeginnings xs ys
begin_all xs ys h = record { count = begin_count xs ys h; each = begin_at xs ys h }

-- ## Whether they are whole

abbrev head_or : {A : Type 0} → A → List A → A
head_or d [] = d
head_or d (x ∷ xs) = x

abbrev tail_of : {A : Type 0} → List A → List A
tail_of [] = []
tail_of (x ∷ xs) = xs

-- lists of one length that are equal with one more are so without
split_last : {A : Type 0} (xs ys : List A) (x y : A) → length xs ≡ length ys → xs ++ x ∷ [] ≡ ys ++ y ∷ [] → (xs ≡ ys)
    × (x ≡ y)
split_last [] [] x y e h = (refl, ap (head_or x) h)
split_last (a ∷ xs) (b ∷ ys) x y e h =
    let rest = split_last xs ys x y (omega (arith, e)) (ap tail_of h) in
    (ap₂ (λ c cs. c ∷ cs) (ap (head_or a) h) rest.0, rest.1)
split_last [] (b ∷ ys) x y e h = absurd (omega (arith, e))
split_last (a ∷ xs) [] x y e h = absurd (omega (arith, e))

-- what was cut short is not whole
not_whole : {A : Type 0} (xs ys : List A) → IsCutShort xs ys → xs ≡ ys → ⊥
not_whole xs ys cut e =
    let long : length xs + length (cut.0 ∷ cut.1) ≡ length ys = sym (length-append xs (cut.0 ∷ cut.1))
    ∙ ap length cut.2 in
    let same : length xs ≡ length ys = ap length e in
    omega (arith, long, same)

begins : {E : Type 0} (t w : List Row) (r : Result (Unit {0}) E) → OnOk r (t ≡ w) → OnErr r (IsCutShort t w)
    → IsPrefixOf t w
begins t w (Ok done) ok err = ([], append-nil t ∙ ok)
begins t w (Err e) ok err = (err.0 ∷ err.1, err.2)

-- one thread more
more : (n : ℕ) (rows : List HistoryRow) → transcripts_of (n + 1) rows ≡ transcripts_of n rows ++ transcript_of n rows
    ∷ []
more n rows = let e : n + 1 ≡ suc n = omega arith in ap (λ k. transcripts_of k rows) e

pub begin_more : {E : Type 0} (n : ℕ) (rows : List HistoryRow) (ts : List (List Row)) (t : List Row)
    (r : Result (Unit {0}) E)
    → Begin ts (transcripts_of n rows) → OnOk r (t ≡ transcript_of n rows)
    → OnErr r (IsCutShort t (transcript_of n rows)) → Begin (ts ++ t ∷ []) (transcripts_of (n + 1) rows)
begin_more n rows ts t r h ok err =
    rw (more n rows) (begin_last ts (transcripts_of n rows) t (transcript_of n rows) h
    (begins t (transcript_of n rows) r ok err))

whole_with : {E : Type 0} (n : ℕ) (rows : List HistoryRow) (ts : List (List Row)) (t : List Row) (before : Bool)
    (r : Result (Unit {0}) E)
    → Begin ts (transcripts_of n rows) → (IsTrue before ↔ IsWhole n rows ts) → OnOk r (t ≡ transcript_of n rows)
    → OnErr r (IsCutShort t (transcript_of n rows))
    → IsTrue (before && is_ok r) ↔ (ts ++ t ∷ [] ≡ transcripts_of n rows ++ transcript_of n rows ∷ [])
whole_with n rows ts t false r h b ok err = (
  λ no. absurd (false≢true no),
  λ all.
      b.1 (split_last ts (transcripts_of n rows) t (transcript_of n rows) (begin_count ts (transcripts_of n rows) h)
      all).0,
)
whole_with n rows ts t true (Ok done) h b ok err =
    (λ yes. ap₂ (λ xs x. xs ++ x ∷ []) (b.0 refl) ok, λ all. refl)
whole_with n rows ts t true (Err e) h b ok err = (
  λ no. absurd (false≢true no),
  λ all.
      absurd (not_whole t (transcript_of n rows) err
      (split_last ts (transcripts_of n rows) t (transcript_of n rows) (begin_count ts (transcripts_of n rows) h)
      all).1),
)

pub whole_more : {E : Type 0} (n : ℕ) (rows : List HistoryRow) (ts : List (List Row)) (t : List Row) (before : Bool)
    (r : Result (Unit {0}) E)
    → Begin ts (transcripts_of n rows) → (IsTrue before ↔ IsWhole n rows ts) → OnOk r (t ≡ transcript_of n rows)
    → OnErr r (IsCutShort t (transcript_of n rows))
    → IsTrue (before && is_ok r) ↔ IsWhole (n + 1) rows (ts ++ t ∷ [])
whole_more n rows ts t before r h b ok err = rw (more n rows) (whole_with n rows ts t before r h b ok err)

-- Marks of the lines that are reached: one more mark is of a line that is reached, and where marked
-- lines lead to marked ones alone, all are marked that are reached.
use Rattle.std.proofs.Common.{◌≡◌, ◌≢◌, ℕ, zero, suc, ◌+◌, ◌<◌, ◌≤◌, Bool, true, false, cond, List}
use Rattle.std.proofs.Common.{[], ◌∷◌, length, set, replicate, get_or, slice_get, Some, refl, sym}
use Rattle.std.proofs.Common.{subst, ◌∙◌, inl, inr, arith}
use Rattle.std.specs.List.{sum_by}
use Rattle.std.proofs.lemmas.Bool.{cases_eq, cases_lt}
use Rattle.std.proofs.lemmas.List.{length-replicate, length-set}
use Rattle.std.proofs.lemmas.List.Sums.{sum_by-set}
use Rattle.std.proofs.lemmas.Option.{get_or_from_slice_get, slice_get_within}
use Rattle.thread_scripts.specs.declared.line.Line.{Line}
use Rattle.script_checks.specs.Marks.{AreClosed, IsNext, LeadsToMarks}
use Rattle.script_checks.specs.Reaching.{AreReached, IsReached}
use Rattle.script_checks.specs.Reaching.IsReached.{follows, starts}

-- how many lines have no mark
abbrev pub without_mark : List Bool → ℕ
without_mark marks = sum_by (λ marked. cond marked 0 1) marks

-- each line that is marked is reached
abbrev pub Sound : List Line → List Bool → Type 0
Sound lines marks = (place : ℕ) → slice_get marks place ≡ Some true → IsReached lines place

set_same : (marks : List Bool) (i : ℕ) (b c : Bool) → slice_get marks i ≡ Some b
    → slice_get (set marks i c) i ≡ Some c
set_same [] i b c e = cc
set_same (m ∷ marks) zero b c e = refl
set_same (m ∷ marks) (suc i) b c e = set_same marks i b c e

-- a place that is marked after one more mark was marked before, or is that one
set_either : (marks : List Bool) (i j : ℕ) (c : Bool) → i ≢ j
    → slice_get (set marks i c) j ≡ slice_get marks j
set_either [] i j c other = refl
set_either (m ∷ marks) zero zero c other = absurd (other refl)
set_either (m ∷ marks) zero (suc j) c other = refl
set_either (m ∷ marks) (suc i) zero c other = refl
set_either (m ∷ marks) (suc i) (suc j) c other = set_either marks i j c (λ e. other (cc e))

-- what all marked lines lead to is marked, up to this one
pub closed_further : (lines : List Line) (marks : List Bool) (place : ℕ) (l : Line)
    → slice_get lines place ≡ Some l
    → (slice_get marks place ≡ Some true → LeadsToMarks marks place l)
    → ((p : ℕ) (line : Line) → p < place → slice_get lines p ≡ Some line → slice_get marks p
    ≡ Some true → LeadsToMarks marks p line)
    → (p : ℕ) (line : Line) → p < place + 1 → slice_get lines p ≡ Some line
    → slice_get marks p ≡ Some true → LeadsToMarks marks p line
closed_further lines marks place l at here before p line below is marked = elim (cases_lt p place) [
  | inl earlier ↦ before p line earlier is marked
  | inr later ↦ let e : p ≡ place = omega arith in let same : l ≡ line = cc (e, at, is) in
      let m : slice_get marks place ≡ Some true = cc (e, marked) in
      subst (λ (q : ℕ). LeadsToMarks marks q line) (sym e)
      (subst (λ (x : Line). LeadsToMarks marks place x) same (here m))
]

pub closed_at_end : (lines : List Line) (marks : List Bool) (end : ℕ) → length lines ≤ end
    → ((p : ℕ) (line : Line) → p < end → slice_get lines p ≡ Some line → slice_get marks p
    ≡ Some true → LeadsToMarks marks p line)
    → AreClosed lines marks
closed_at_end lines marks end past before p line is marked = let within : p < length lines =
    slice_get_within lines p line is in before p line (omega arith) is marked

none_marked : (n place : ℕ) → slice_get (replicate n false) place ≢ Some true
none_marked zero place e = cc
none_marked (suc n) zero e = cc
none_marked (suc n) (suc place) e = none_marked n place e

-- one mark, of the first line
pub first_alone : (lines : List Line) (n : ℕ) → Sound lines (set (replicate n false) 0 true)
first_alone lines n zero marked = starts
first_alone lines n (suc place) marked =
    absurd (none_marked n (suc place)
    (sym (set_either (replicate n false) 0 (suc place) true (λ e. cc e)) ∙ marked))

-- one mark more, of a line to which a marked line leads
pub one_more : (lines : List Line) (marks : List Bool) (target : ℕ) → Sound lines marks
    → IsNext lines marks target → Sound lines (set marks target true)
one_more lines marks target sound is place marked = elim (cases_eq target place) [
  | inl same ↦ subst (IsReached lines) same
      (follows is.place target is.line (sound is.place is.marked) is.at is.led)
  | inr other ↦ sound place (sym (set_either marks target place true other) ∙ marked)
]

pub first_marked : (n : ℕ) → 0 < n → slice_get (set (replicate n false) 0 true) 0 ≡ Some true
first_marked zero h = absurd (omega arith)
first_marked (suc n) h = refl

pub still_marked : (marks : List Bool) (target : ℕ) → slice_get marks 0 ≡ Some true
    → slice_get (set marks target true) 0 ≡ Some true
still_marked marks zero start = set_same marks 0 true true start
still_marked marks (suc target) start = set_either marks (suc target) 0 true (λ e. cc e) ∙ start

pub fewer_without : (marks : List Bool) (target : ℕ) → slice_get marks target ≡ Some false
    → without_mark (set marks target true) < without_mark marks
fewer_without marks target fresh =
    let within : target < length marks = slice_get_within marks target false fresh in
    let was : get_or marks target false ≡ false =
    get_or_from_slice_get marks target false false fresh in
    let sums = sum_by-set (λ (marked : Bool). cond marked 0 1) marks target true false within in
    omega (arith, rw was at sums)

-- where what marked lines lead to is marked, each line that is reached is marked
pub all_marked : (lines : List Line) (marks : List Bool) → length marks ≡ length lines
    → AreClosed lines marks → slice_get marks 0 ≡ Some true
    → (place : ℕ) → IsReached lines place → place < length lines → slice_get marks place ≡ Some true
all_marked lines marks each closed start place starts below = start
all_marked lines marks each closed start place (follows from target l reached at led) below =
    let within : from < length lines = slice_get_within lines from l at in
    let marked : slice_get marks from ≡ Some true =
    all_marked lines marks each closed start from reached within in
    let here : target < length marks = omega arith in
    not_fresh marks target here (closed from l at marked target led) where
      not_fresh : (ms : List Bool) (t : ℕ) → t < length ms → slice_get ms t ≢ Some false
          → slice_get ms t ≡ Some true
      not_fresh [] t h never = absurd (omega arith)
      not_fresh (true ∷ ms) zero h never = refl
      not_fresh (false ∷ ms) zero h never = absurd (never refl)
      not_fresh (m ∷ ms) (suc t) h never = not_fresh ms t (omega arith) never

pub are_reached : (lines : List Line) (marks : List Bool) → length marks ≡ length lines
    → AreClosed lines marks → slice_get marks 0 ≡ Some true → Sound lines marks
    → AreReached lines marks
are_reached lines marks each closed start sound =
    record {
      each = each;
      exactly = λ place below.
          (sound place, λ reached. all_marked lines marks each closed start place reached below);
    }

pub without_true : (marks : List Bool) (place : ℕ) → get_or marks place false ≡ false
    → slice_get marks place ≢ Some true
without_true marks place none marked = let is : get_or marks place false ≡ true =
    get_or_from_slice_get marks place true false marked in cc

pub begun : (lines : List Line) (marks : List Bool) → marks ≡ replicate (length lines) false
    → 0 < length lines
    → (length (set marks 0 true) ≡ length lines) × (slice_get (set marks 0 true) 0 ≡ Some true)
    × Sound lines (set marks 0 true)
begun lines marks is some =
    let from : List Bool → Type 0 =
    λ ms. (length (set ms 0 true) ≡ length lines) × (slice_get (set ms 0 true) 0 ≡ Some true)
    × Sound lines (set ms 0 true) in
    subst from (sym is) (
      simp (length-set, length-replicate),
      first_marked (length lines) some,
      first_alone lines
          (length lines),
    )

pub marked_more : (lines : List Line) (marks : List Bool) (target : ℕ)
    → length marks ≡ length lines → slice_get marks 0 ≡ Some true → Sound lines marks
    → IsNext lines marks target
    → (length (set marks target true) ≡ length lines)
    × (slice_get (set marks target true) 0 ≡ Some true) × Sound lines (set marks target true)
marked_more lines marks target each start sound is =
    (simp length-set each, still_marked marks target start, one_more lines marks target sound is)

-- Less is kept after each step that is taken.
use Rattle.std.proofs.Common.{◌≡◌, ℕ, ◌<◌, Bool, true, false, List, [], ◌∷◌, ◌++◌, Option, Some}
use Rattle.std.proofs.Common.{None, All, ◌≤◌, refl, subst, sym}
use Rattle.std.proofs.Common.{ap, arith}
use Rattle.std.proofs.Common.{length}
use Rattle.std.proofs.lemmas.Bool.{ltb-true}
use Rattle.std.proofs.lemmas.List.Elements.{All-push}
use Rattle.std.proofs.lemmas.List.Sums.{sum_by-set}
use Rattle.std.specs.Prelude.{is_some, option_map, slice_index_or, slice_set, unwrap_or}
use Rattle.explorer.specs.Subject.{Subject}
use Rattle.minimiser.specs.Failing.{FailsIn, IsRefused}
use Rattle.minimiser.specs.Parts.{is_there, units_of}
use Rattle.minimiser.specs.Reductions.{Kept, is_fewer, is_kept, kept_of, part_at, with_part, without}
use Rattle.minimiser.specs.Rounds.{size_of, size_of_part, size_of_thread}
use Rattle.minimiser.specs.declared.part.Part.{Part}
use Rattle.minimiser.specs.declared.part.Part.TheVariants as part
use Rattle.minimiser.specs.declared.step.Removal.{Removal}
use Rattle.minimiser.specs.declared.step.Removal.TheVariants as step
use Rattle.minimiser.specs.declared.target.Target.{Target}
use Rattle.minimiser.proofs.Keeping.{fewer_within, kept_within, thread_of_fewer_within}
use Rattle.minimiser.proofs.Keeping.{thread_of_line_within, thread_within}

-- something of a line counts
less_of_part : (now : Part) → is_there now ≡ true → 0 < size_of_part now
less_of_part part.Gone is = absurd (cc is)
less_of_part part.Line is = omega arith
less_of_part (part.Delay units) is = omega arith
less_of_part (part.Shorter units) is = omega arith

-- fewer units count less
fewer_of_part : (now : Part) (units : ℕ) → is_fewer units (units_of now) ≡ true
    → size_of_part (part.Shorter units) < size_of_part now
fewer_of_part part.Gone units is = absurd (cc is)
fewer_of_part part.Line units is = absurd (cc is)
fewer_of_part (part.Delay n) units is = omega (arith, ltb-true units n is)
fewer_of_part (part.Shorter n) units is = omega (arith, ltb-true units n is)

-- a thread with less of one of its lines
less_of_thread : (thread : Option (List Part)) (line : ℕ) (new : Part)
    → line < length (unwrap_or thread [])
    → size_of_part new < size_of_part (slice_index_or (unwrap_or thread []) line part.Gone)
    → size_of_thread (option_map (λ lines. slice_set lines line new) thread)
    < size_of_thread thread
less_of_thread None line new inside less = absurd (omega (arith, inside))
less_of_thread (Some lines) line new inside less =
    let sums = sum_by-set size_of_part lines line new part.Gone inside in
    omega (arith, sums, less)

-- a thread that is kept counts
some_of_thread : (thread : Option (List Part)) → is_some thread ≡ true → 0 < size_of_thread thread
some_of_thread None is = absurd (cc is)
some_of_thread (Some lines) is = omega arith

less_with : (kept : Kept) (thread line : ℕ) (new : Part) → thread < length kept
    → line < length (unwrap_or (kept_of kept thread) [])
    → size_of_part new < size_of_part (part_at kept thread line)
    → size_of (with_part kept thread line new) < size_of kept
less_with kept thread line new inside among less =
    let rest = option_map (λ lines. slice_set lines line new) (kept_of kept thread) in
    let sums = sum_by-set size_of_thread kept thread rest None inside in
    omega (arith, sums, less_of_thread (kept_of kept thread) line new among less)

pub smaller : (kept : Kept) (step : Removal) → is_kept kept step ≡ true
    → size_of (without kept step) < size_of kept
smaller kept (step.Line thread line) is =
    less_with kept thread line part.Gone (thread_of_line_within kept thread line is)
    (kept_within (unwrap_or (kept_of kept thread) []) line is)
    (less_of_part (part_at kept thread line) is)
smaller kept (step.Thread thread) is =
    let sums = sum_by-set size_of_thread kept thread None None (thread_within kept thread is) in
    omega (arith, sums, some_of_thread (kept_of kept thread) is)
smaller kept (step.Shorten thread line units) is =
    less_with kept thread line (part.Shorter units) (thread_of_fewer_within kept thread line units is)
    (fewer_within (unwrap_or (kept_of kept thread) []) line units is)
    (fewer_of_part (part_at kept thread line) units is)

-- ## A round of steps

-- what was kept at first, what is kept now, whether a step was taken, and those that were tried
pub record Round
    (given : Subject) (target : Target) (first kept : Kept) (taken : Bool) (tried : List Removal)
    : Type 0 where
  pub fails : FailsIn given target kept
  pub some : taken ≡ true → size_of kept < size_of first
  pub none : taken ≡ false → (kept ≡ first) × All (IsRefused given target first) tried

at_most : (given : Subject) (target : Target) (first kept : Kept) (taken : Bool) (tried : List Removal)
    → Round given target first kept taken tried → size_of kept ≤ size_of first
at_most given target first kept true tried round = omega (arith, round.some refl)
at_most given target first kept false tried round = omega (arith, ap size_of (round.none refl).0)

pub one_taken : (given : Subject) (target : Target) (first kept : Kept) (taken : Bool)
    (tried more : List Removal) (step : Removal) → Round given target first kept taken tried
    → is_kept kept step ≡ true → FailsIn given target (without kept step)
    → Round given target first (without kept step) true more
one_taken given target first kept taken tried more step round is fails = record {
  fails = fails;
  some = λ (done : true ≡ true).
      omega (arith, smaller kept step is, at_most given target first kept taken tried round);
  none = λ (not : true ≡ false). absurd (cc not);
}

pub one_refused : (given : Subject) (target : Target) (first kept : Kept) (taken : Bool)
    (tried : List Removal) (step : Removal) → Round given target first kept taken tried
    → IsRefused given target kept step
    → Round given target first kept taken (tried ++ step ∷ [])
one_refused given target first kept taken tried step round refused = record {
  fails = round.fails;
  some = round.some;
  none = λ (not : taken ≡ false).
      let same = (round.none not).0 in (
        same,
        All-push (IsRefused given target first) tried step (round.none not).1
            (subst (λ (kept : Kept). IsRefused given target kept step) same refused),
      );
}

pub same_round : (given : Subject) (target : Target) (first kept other : Kept) (taken some : Bool)
    (tried all : List Removal) → other ≡ kept → some ≡ taken → all ≡ tried
    → Round given target first kept taken tried → Round given target first other some all
same_round given target first kept other taken some tried all is_kept is_taken are_tried round =
    subst (λ (steps : List Removal). Round given target first other some steps) (sym are_tried)
    (subst (λ (b : Bool). Round given target first other b tried) (sym is_taken)
    (subst (λ (k : Kept). Round given target first k taken tried) (sym is_kept) round))

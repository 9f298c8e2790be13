-- What is kept of nothing, and which steps are among those of a list.
use Rattle.std.proofs.Common.{◌≡◌, ◌∙◌, ◌⊎◌, inl, inr, ℕ, zero, suc, ◌+◌, ◌-◌, ◌<◌, ◌≤◌, true}
use Rattle.std.proofs.Common.{None, List, [], ◌∷◌, ◌++◌, length, drop, Contains, ap, arith}
use Rattle.std.proofs.Common.{lit<, refl, subst, sym}
use Rattle.std.proofs.lemmas.List.Elements.{Contains-append_left, Contains-append_right}
use Rattle.std.proofs.Math.ListN.{drop_of_length-le}
use Rattle.std.proofs.lemmas.List.{append-nil}
use Rattle.std.proofs.Math.Nat.{eq-or-lt_of_le}
use Rattle.std.specs.Prelude.{is_some, slice_index_or}
use Rattle.minimiser.specs.Reductions.{Kept, is_fewer, is_kept, kept_lines, kept_outcomes, kept_texts}
use Rattle.minimiser.specs.Parts.{is_there, units_of}
use Rattle.minimiser.specs.Scopes.{IsTaking}
use Rattle.minimiser.specs.declared.part.Part.{Part}
use Rattle.minimiser.specs.declared.part.Part.TheVariants as part
use Rattle.minimiser.specs.declared.step.Removal.{Removal}
use Rattle.minimiser.specs.declared.step.Removal.TheVariants as step

pub no_lines : (kept : List Part) → kept_lines kept [] ≡ []
no_lines [] = refl
no_lines (part ∷ kept) = refl

pub no_texts : (kept : Kept) → kept_texts kept [] ≡ []
no_texts [] = refl
no_texts (thread ∷ kept) = refl

pub no_outcomes : (kept : Kept) → kept_outcomes kept [] ≡ []
no_outcomes [] = refl
no_outcomes (thread ∷ kept) = refl

-- past the end of what is gone through, what there is so far is the whole
pub at_end : {A X : Type 0} (of : List A → List X) (so_far whole : List X) (xs : List A) (i : ℕ)
    → of [] ≡ [] → length xs ≤ i → so_far ++ of (drop i xs) ≡ whole → so_far ≡ whole
at_end of so_far whole xs i nothing past is =
    let over : drop i xs ≡ [] = drop_of_length-le xs past in
    sym (append-nil so_far) ∙ ap (λ rest. so_far ++ rest) (sym nothing ∙ ap of (sym over)) ∙ is

-- ## Lists with one more element

pub still_there : {X : Type 0} (xs ys : List X) (new x : X) → ys ≡ xs ++ new ∷ []
    → Contains xs x → Contains ys x
still_there xs ys new x is among =
    subst (λ all. Contains all x) (sym is) (Contains-append_left xs (new ∷ []) x among)

pub now_there : {X : Type 0} (xs ys : List X) (new : X) → ys ≡ xs ++ new ∷ [] → Contains ys new
now_there xs ys new is =
    subst (λ all. Contains all new) (sym is)
    (Contains-append_right xs (new ∷ []) new (0, lit< tt, refl))

-- a number from the one before this on is that one or from this on
pub here_or_later : (n k : ℕ) → n - 1 ≤ k → (k ≡ n - 1) ⊎ (n ≤ k)
here_or_later n k from = split (eq-or-lt_of_le from)
  where
    split : (n - 1 ≡ k) ⊎ (n - 1 < k) → (k ≡ n - 1) ⊎ (n ≤ k)
    split (inl same) = inl (sym same)
    split (inr more) = inr (omega (arith, more))

-- and one below the next is it or below it
pub here_or_earlier : (n k : ℕ) → k < n + 1 → (k ≡ n) ⊎ (k < n)
here_or_earlier n k below = split (eq-or-lt_of_le at_most)
  where
    at_most : k ≤ n
    at_most = omega (arith, below)

    split : (k ≡ n) ⊎ (k < n) → (k ≡ n) ⊎ (k < n)
    split same = same

-- a line that is kept is one of those that were given
pub kept_within : (lines : List Part) (line : ℕ)
    → is_there (slice_index_or lines line part.Gone) ≡ true → line < length lines
kept_within [] line is = absurd (cc is)
kept_within (part ∷ lines) zero is = omega arith
kept_within (part ∷ lines) (suc line) is = omega (arith, kept_within lines line is)

-- and so is a delay that has fewer units
pub fewer_within : (lines : List Part) (line units : ℕ)
    → is_fewer units (units_of (slice_index_or lines line part.Gone)) ≡ true → line < length lines
fewer_within [] line units is = absurd (cc is)
fewer_within (part ∷ lines) zero units is = omega arith
fewer_within (part ∷ lines) (suc line) units is = omega (arith, fewer_within lines line units is)

-- a thread that is kept is one of those that were given
pub thread_within : (kept : Kept) (thread : ℕ) → is_some (slice_index_or kept thread None) ≡ true
    → thread < length kept
thread_within [] thread is = absurd (cc is)
thread_within (lines ∷ kept) zero is = omega arith
thread_within (lines ∷ kept) (suc thread) is = omega (arith, thread_within kept thread is)

-- and so is that of a line that is kept
pub thread_of_line_within : (kept : Kept) (thread line : ℕ)
    → is_kept kept (step.Line thread line) ≡ true → thread < length kept
thread_of_line_within [] thread line is = absurd (cc is)
thread_of_line_within (lines ∷ kept) zero line is = omega arith
thread_of_line_within (lines ∷ kept) (suc thread) line is =
    omega (arith, thread_of_line_within kept thread line is)

-- and of a delay that has fewer units
pub thread_of_fewer_within : (kept : Kept) (thread line units : ℕ)
    → is_kept kept (step.Shorten thread line units) ≡ true → thread < length kept
thread_of_fewer_within [] thread line units is = absurd (cc is)
thread_of_fewer_within (lines ∷ kept) zero line units is = omega arith
thread_of_fewer_within (lines ∷ kept) (suc thread) line units is =
    omega (arith, thread_of_fewer_within kept thread line units is)

-- where the steps of all lines are there, and those of all threads, each step is that may be made
pub each_step : (kept : Kept) (steps : List Removal) (count : ℕ) → length kept ≤ count
    → ((thread line : ℕ) → is_kept kept (step.Line thread line) ≡ true
    → Contains steps (step.Line thread line))
    → ((thread : ℕ) → thread < count → Contains steps (step.Thread thread))
    → (step : Removal) → IsTaking step → is_kept kept step ≡ true → Contains steps step
each_step kept steps count all lines threads (step.Line thread line) taking is =
    lines thread line is
each_step kept steps count all lines threads (step.Thread thread) taking is =
    threads thread (omega (arith, thread_within kept thread is, all))
each_step kept steps count all lines threads (step.Shorten thread line units) taking is =
    absurd taking

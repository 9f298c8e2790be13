use Rattle.std.proofs.Common.{◌==◌, ◌&&◌, ◌+◌, ◌≤◌, ◌++◌, [], ◌∷◌, ℕ, zero, suc, All, Bool, true, false}
use Rattle.std.proofs.Common.{List, Option, Some, arith, get_or, map}
use Rattle.std.specs.List.{flat_map, range_with_len}
use Rattle.std.specs.Prelude.{IfSome, if◌then◌else◌}
use Rattle.std.proofs.lemmas.List.Elements.{All-append, All-cons, All-head, All-map, All-nil}
use Rattle.std.proofs.lemmas.List.Elements.{All-tail, All-weaker}
use Rattle.posix_terms.specs.declared.limits.TheConstants.Limits.{WORK}
use Rattle.explorer.specs.Lists.{Bounds, delay_in, delay_of, delays_among, delays_at, list_of}
use Rattle.explorer.specs.Lists.{lists_of, one_of, pairs_among, two_of}
use Rattle.explorer.specs.declared.delay_list.Delay.{Delay}
use Rattle.explorer.specs.declared.places.CallPlace.{CallPlace}
use Rattle.explorer.proofs.laws.lists_are_works.Goals as goal

-- a delay is no longer than this
abbrev IsWithin : ℕ → Delay → Type 0
IsWithin limit delay = delay.units ≤ limit

in_pieces : {X A : Type 0} (P : A → Type 0) (Q : X → Type 0) (f : X → List A)
    → ((x : X) → Q x → All P (f x)) → (xs : List X) → All Q xs → All P (flat_map f xs)
in_pieces P Q f each [] all = All-nil P
in_pieces P Q f each (x ∷ xs) all =
    All-append P (f x) (flat_map f xs) (each x (All-head Q x xs all))
    (in_pieces P Q f each xs (All-tail Q x xs all))

numbers_within : (start n limit : ℕ) → start + n ≤ limit + 1
    → All (λ k. k ≤ limit) (range_with_len start n)
numbers_within start zero limit fits = All-nil (λ k. k ≤ limit)
numbers_within start (suc n) limit fits =
    All-cons (λ k. k ≤ limit) start (range_with_len (start + 1) n) (omega (arith, fits))
    (numbers_within (start + 1) n limit (omega (arith, fits)))

at_place : (limit reach : ℕ) → reach ≤ limit → (place : CallPlace)
    → All (IsWithin limit) (delays_at reach place)
at_place limit reach within place =
    All-map (IsWithin limit) (delay_of place) (range_with_len 1 reach)
    (numbers_within 1 reach limit (omega (arith, within)))

among : (limit reach : ℕ) → reach ≤ limit → (places : List CallPlace)
    → All (IsWithin limit) (delays_among reach places)
among limit reach within places =
    in_pieces (IsWithin limit) (λ (place : CallPlace). 0 ≤ place.line) (delays_at reach)
    (λ place some. at_place limit reach within place) places (λ k place inside. omega arith)

pairs : (limit reach : ℕ) → reach ≤ limit → (places : List CallPlace)
    → All (All (IsWithin limit)) (pairs_among reach places)
pairs limit reach within [] = All-nil (All (IsWithin limit))
pairs limit reach within (place ∷ places) =
    let P = IsWithin limit in
    let others = delays_among reach places in
    All-append (All P)
    (flat_map (λ delay. map (two_of delay) others) (delays_at reach place))
    (pairs_among reach places)
    (in_pieces (All P) P (λ delay. map (two_of delay) others)
    (λ delay first. All-map (All P) (two_of delay) others
    (All-weaker P (λ other. All P (two_of delay other)) (λ other second.
    All-cons P delay (other ∷ []) first (All-cons P other [] second (All-nil P)))
    others (among limit reach within places)))
    (delays_at reach place) (at_place limit reach within place))
    (pairs limit reach within places)

lists : (limit : ℕ) (bounds : Bounds) → bounds.reach ≤ limit
    → All (All (IsWithin limit)) (lists_of bounds)
lists limit bounds within =
    let P = IsWithin limit in
    let all = delays_among bounds.reach bounds.places in
    let two = if bounds.two then pairs_among bounds.reach bounds.places else [] in
    All-cons (All P) [] (map one_of all ++ two) (All-nil P)
    (All-append (All P) (map one_of all) two
    (All-map (All P) one_of all
    (All-weaker P (λ delay. All P (one_of delay))
    (λ delay one. All-cons P delay [] one (All-nil P)) all
    (among limit bounds.reach within bounds.places)))
    (of_two bounds.two))
  where
    of_two : (two : Bool) → All (All (IsWithin limit))
        (if two then pairs_among bounds.reach bounds.places else [])
    of_two true = pairs limit bounds.reach within bounds.places
    of_two false = All-nil (All (IsWithin limit))

of_case : {A : Type 0} (P : A → Type 0) (all : List (List A)) (case : ℕ) → All (All P) all
    → All P (get_or all case [])
of_case P [] case each = All-nil P
of_case P (list ∷ rest) zero each = All-head (All P) list rest each
of_case P (list ∷ rest) (suc case) each = of_case P rest case (All-tail (All P) list rest each)

here_or : (limit units : ℕ) (is_here : Bool) (rest : Option ℕ) → units ≤ limit
    → IfSome rest (λ units. units ≤ limit)
    → IfSome (if is_here then Some units else rest) (λ units. units ≤ limit)
here_or limit units true rest within others = within
here_or limit units false rest within others = others

in_list : (limit : ℕ) (delays : List Delay) (thread line : ℕ) → All (IsWithin limit) delays
    → IfSome (delay_in delays thread line) (λ units. units ≤ limit)
in_list limit [] thread line all = record {}
in_list limit (delay ∷ delays) thread line all =
    here_or limit delay.units (delay.place.thread == thread && delay.place.line == line)
    (delay_in delays thread line) (All-head (IsWithin limit) delay delays all)
    (in_list limit delays thread line (All-tail (IsWithin limit) delay delays all))

pub returns : goal.returns
returns c = λ bounds case thread within line.
    in_list WORK (list_of bounds case) thread line
    (of_case (IsWithin WORK) (lists_of bounds) case (lists WORK bounds within))

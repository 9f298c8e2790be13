-- Where a list of delays stands among all lists, and how many there are.
use Rattle.std.proofs.Common.{◌≡◌, ◌∙◌, ◌+◌, ◌-◌, ◌*◌, ◌/◌, ◌%◌, ◌<◌, ◌≤◌, ◌++◌, [], ◌∷◌, ℕ, zero}
use Rattle.std.proofs.Common.{suc, List}
use Rattle.std.proofs.Common.{◌^◌, ◌⊎◌, Bool, true, false, Some, None, ap, arith, get_or, inl, inr}
use Rattle.std.proofs.Common.{length}
use Rattle.std.proofs.Common.{map, refl, slice_get, subst, sym, take, option_map, drop}
use Rattle.std.specs.Prelude.{if◌then◌else◌}
use Rattle.std.specs.List.{cons_option, flat_map}
use Rattle.std.proofs.Math.Nat.{le-mul_of_pos_right, mul_comm}
use Rattle.std.proofs.Math.Nat.{mul-le-mul_right, mul-zero}
use Rattle.std.proofs.Math.Nat.{suc-mul, zero-mul}
use Rattle.std.proofs.lemmas.List.{at_drop_more, get_or-map, get_or_append_left}
use Rattle.std.proofs.lemmas.List.{get_or-append_right}
use Rattle.std.proofs.lemmas.List.{length-append, length-map, length-take-le}
use Rattle.std.proofs.lemmas.Bool.{cases_order}
use Rattle.std.proofs.lemmas.List.Concat.{get_or-flat_map}
use Rattle.std.proofs.lemmas.List.FromFn.{get_or-map-range_with_len, length-map-range_with_len}
use Rattle.std.proofs.lemmas.Nat.{div-add-mod', div_below, mod_below, mul-add-lt}
use Rattle.std.proofs.lemmas.Option.{slice_get-get_or, slice_get_cases, slice_get_past}
use Rattle.explorer.specs.Lists.{Bounds, delay_of, delays_among, delays_at, list_of, lists_of}
use Rattle.explorer.specs.Lists.{one_of}
use Rattle.explorer.specs.Lists.{pairs_among, two_of}
use Rattle.explorer.specs.ListCounts.{list_count, pair_count}
use Rattle.explorer.specs.declared.delay_list.Delay.{Delay}
use Rattle.explorer.specs.declared.places.CallPlace.{CallPlace}

-- ## Pieces of one length

-- so many pieces
pub length_of_pieces : {X A : Type 0} (f : X → List A) (n : ℕ) → ((x : X) → length (f x) ≡ n)
    → (xs : List X) → length (flat_map f xs) ≡ length xs * n
length_of_pieces f n each [] = sym (zero-mul n)
length_of_pieces f n each (x ∷ xs) =
    let rest = length_of_pieces f n each xs in
    length-append (f x) (flat_map f xs)
    ∙ (omega (arith, each x, rest) ∙ sym (suc-mul (length xs) n))

-- an element of a piece
pub in_piece : {X A : Type 0} (f : X → List A) (n : ℕ) → ((x : X) → length (f x) ≡ n)
    → (xs : List X) (i j : ℕ) (e : X) (d : A) → i < length xs → j < n
    → get_or (flat_map f xs) (i * n + j) d ≡ get_or (f (get_or xs i e)) j d
in_piece f n each xs i j e d within inside =
    let taken = length-take-le i xs (omega (arith, within)) in
    let before : length (flat_map f (take i xs)) ≡ i * n =
    length_of_pieces f n each (take i xs) ∙ ap (λ k. k * n) taken in
    ap (λ k. get_or (flat_map f xs) (k + j) d) (sym before)
    ∙ get_or-flat_map f xs i j e d within (subst (λ k. j < k) (sym (each (get_or xs i e))) inside)

-- ## One delay

pub at_one_place : (reach : ℕ) (place : CallPlace) → length (delays_at reach place) ≡ reach
at_one_place reach place = length-map-range_with_len (delay_of place) 1 reach

pub length_among : (reach : ℕ) (places : List CallPlace)
    → length (delays_among reach places) ≡ length places * reach
length_among reach places = length_of_pieces (delays_at reach) reach (at_one_place reach) places

-- a place and the units there
one_among : (reach : ℕ) (places : List CallPlace) (i j : ℕ) (e : CallPlace) (d : Delay)
    → i < length places → j < reach
    → get_or (delays_among reach places) (i * reach + j) d ≡ delay_of (get_or places i e) (1 + j)
one_among reach places i j e d within inside =
    in_piece (delays_at reach) reach (at_one_place reach) places i j e d within inside
    ∙ get_or-map-range_with_len (delay_of (get_or places i e)) 1 reach j (1 + j) d inside refl

-- that with this number, if there are so many
among_by : (reach : ℕ) (places : List CallPlace) (at : ℕ) → 0 < reach
    → ((place : CallPlace) × (at / reach < length places)
    × (slice_get places (at / reach) ≡ Some place) × (get_or places (at / reach) place ≡ place))
    ⊎ ((length places ≤ at / reach) × (slice_get places (at / reach) ≡ None))
    → slice_get (delays_among reach places) at
    ≡ option_map (λ place. delay_of place (1 + at % reach)) (slice_get places (at / reach))
among_by reach places at some (inl (place, within, is, got)) =
    let all = delays_among reach places in
    let units = mod_below at reach some in
    let split = div-add-mod' at reach in
    let d = delay_of place 0 in
    let here = one_among reach places (at / reach) (at % reach) place d within units in
    let inside = mul-add-lt (at / reach) reach (at % reach) (length places) within units in
    let turned = mul_comm reach (length places) in
    let below : at < length all =
    omega (arith, split, length_among reach places, inside, turned) in
    slice_get-get_or all at d below
    ∙ (ap Some (ap (λ n. get_or all n d) (sym split) ∙ here
    ∙ ap (λ place. delay_of place (1 + at % reach)) got)
    ∙ sym (ap (option_map (λ place. delay_of place (1 + at % reach))) is))
among_by reach places at some (inr (past, none)) =
    let whole = mul-le-mul_right reach past in
    slice_get_past (delays_among reach places) at
    (omega (arith, length_among reach places, whole, div-add-mod' at reach))
    ∙ sym (ap (option_map (λ place. delay_of place (1 + at % reach))) none)

pub among_at : (reach : ℕ) (places : List CallPlace) (at : ℕ) → 0 < reach
    → slice_get (delays_among reach places) at
    ≡ option_map (λ place. delay_of place (1 + at % reach)) (slice_get places (at / reach))
among_at reach places at some =
    among_by reach places at some (slice_get_cases places (at / reach)).1

-- with no reach there is none
pub none_among : (reach : ℕ) (places : List CallPlace) (at : ℕ) → reach ≡ 0
    → slice_get (delays_among reach places) at ≡ None
none_among reach places at none =
    let no_length : length (delays_among reach places) ≡ 0 =
    length_among reach places
    ∙ (ap (λ n. length places * n) none ∙ mul-zero (length places)) in
    slice_get_past (delays_among reach places) at (omega (arith, no_length))

-- ## How many lists there are

-- the lists of two of the places before this one, and of it, are among all
pub pairs_rise : (reach rest places : ℕ) → rest < places
    → reach * (rest * reach) + pair_count reach rest ≤ pair_count reach places
pairs_rise reach rest zero less = absurd (omega (arith, less))
pairs_rise reach rest (suc places) less =
    by_order (λ before. pairs_rise reach rest places before) (cases_order rest places)
  where
    by_order : (rest < places
        → reach * (rest * reach) + pair_count reach rest ≤ pair_count reach places)
        → (rest ≡ places) ⊎ ((rest < places) ⊎ (places < rest))
        → reach * (rest * reach) + pair_count reach rest ≤ pair_count reach (suc places)
    by_order earlier (inl same) =
        subst
        (λ n.
        reach * (n * reach) + pair_count reach n
        ≤ reach * (places * reach) + pair_count reach places)
        (sym same) (omega arith)
    by_order earlier (inr (inl before)) = omega (arith, earlier before)
    by_order earlier (inr (inr after)) = absurd (omega (arith, less, after))

-- no more delays than there are lists of one of them and another
pub factor_le : (reach n : ℕ) → 0 < reach → n ≤ reach * n
factor_le reach n some =
    subst (λ k. n ≤ k) (mul_comm n reach) (le-mul_of_pos_right n some)

-- ## All lists

pub pairs_at : (reach : ℕ) → CallPlace → List CallPlace → List (List Delay)
pairs_at reach place rest =
    flat_map (λ delay. map (two_of delay) (delays_among reach rest)) (delays_at reach place)

pairs_each : (reach : ℕ) (rest : List CallPlace) (delay : Delay)
    → length (map (two_of delay) (delays_among reach rest)) ≡ length rest * reach
pairs_each reach rest delay =
    length-map (delays_among reach rest) (two_of delay) ∙ length_among reach rest

pub length_at : (reach : ℕ) (place : CallPlace) (rest : List CallPlace)
    → length (pairs_at reach place rest) ≡ reach * (length rest * reach)
unfolding pairs_at
length_at reach place rest =
    length_of_pieces (λ delay. map (two_of delay) (delays_among reach rest)) (length rest * reach)
    (pairs_each reach rest) (delays_at reach place)
    ∙ ap (λ n. n * (length rest * reach)) (at_one_place reach place)

pub pairs_length : (reach : ℕ) (places : List CallPlace)
    → length (pairs_among reach places) ≡ pair_count reach (length places)
unfolding pairs_at
pairs_length reach [] = refl
pairs_length reach (place ∷ rest) =
    length-append (pairs_at reach place rest) (pairs_among reach rest)
    ∙ omega (arith, length_at reach place rest, pairs_length reach rest)

pub lists_length : (places : List CallPlace) (reach : ℕ) (two : Bool)
    → length (lists_of (record { places = places; reach = reach; two = two }))
    ≡ list_count (length places) reach two
lists_length places reach two = all two
  where
    one : length (map one_of (delays_among reach places)) ≡ length places * reach
    one = length-map (delays_among reach places) one_of ∙ length_among reach places

    all : (two : Bool) → length (lists_of (record { places = places; reach = reach; two = two }))
        ≡ list_count (length places) reach two
    all true =
        ap suc (length-append (map one_of (delays_among reach places)) (pairs_among reach places))
        ∙ omega (arith, one, pairs_length reach places)
    all false =
        ap suc (length-append (map one_of (delays_among reach places)) [])
        ∙ omega (arith, one)

-- ## Where a list of two delays stands

some_factor : (reach n left : ℕ) → left < reach * n → 0 < n
some_factor reach zero left inside = absurd (omega (arith, inside, mul-zero reach))
some_factor reach (suc n) left inside = omega arith

-- those at a place and one after it
pub pair_here : (reach : ℕ) (place : CallPlace) (rest : List CallPlace) (left : ℕ)
    → left < reach * (length rest * reach)
    → delay_of place (1 + left / (length rest * reach))
    ∷ cons_option (slice_get (delays_among reach rest) (left % (length rest * reach))) []
    ≡ get_or (pairs_at reach place rest) left []
unfolding pairs_at
pair_here reach place rest left inside =
    let n = length rest * reach in
    let all = delays_among reach rest in
    let some = some_factor reach n left inside in
    let below : left / n < reach = div_below left n reach some inside in
    let units = mod_below left n some in
    let d = delay_of place 0 in
    let first : get_or (delays_at reach place) (left / n) d ≡ delay_of place (1 + left / n) =
    get_or-map-range_with_len (delay_of place) 1 reach (left / n) (1 + left / n) d below refl in
    let within : left / n < length (delays_at reach place) =
    subst (λ k. left / n < k) (sym (at_one_place reach place)) below in
    let among : left % n < length all =
    subst (λ k. left % n < k) (sym (length_among reach rest)) units in
    let piece = in_piece (λ delay. map (two_of delay) all) n (pairs_each reach rest)
    (delays_at reach place) (left / n) (left % n) d [] within units in
    let other : slice_get all (left % n) ≡ Some (get_or all (left % n) d) =
    slice_get-get_or all (left % n) d among in
    let split = div-add-mod' left n in
    ap (λ o. delay_of place (1 + left / n) ∷ cons_option o []) other
    ∙ sym (ap (λ k. get_or (pairs_at reach place rest) k []) (sym split) ∙ piece
    ∙ (ap (λ delay. get_or (map (two_of delay) all) (left % n) []) first
    ∙ get_or-map (two_of (delay_of place (1 + left / n))) all (left % n) d [] among))

-- how many delays there are after a place fits where the lists do
pub others_fit : (reach n more : ℕ) → reach * (n * reach) + more < 2 ^ 64 → n * reach < 2 ^ 64
others_fit zero n more fits =
    subst (λ k. k < 2 ^ 64) (sym (mul-zero n)) (omega arith)
others_fit (suc k) n more fits =
    omega (arith, fits, factor_le (suc k) (n * suc k) (omega arith))

-- the lists of two delays at a place and those after it, and then those at the others
pub one_place_on : (reach : ℕ) (places : List CallPlace) (i : ℕ) (d : CallPlace) → i < length places
    → pairs_among reach (drop i places)
    ≡ pairs_at reach (get_or places i d) (drop (i + 1) places)
    ++ pairs_among reach (drop (i + 1) places)
unfolding pairs_at
one_place_on reach places i d inside = at_drop_more (pairs_among reach) places i d inside

pub length_on : (reach : ℕ) (places : List CallPlace) (i : ℕ) (d : CallPlace) → i < length places
    → length (pairs_among reach (drop i places))
    ≡ reach * (length (drop (i + 1) places) * reach)
    + length (pairs_among reach (drop (i + 1) places))
length_on reach places i d inside =
    let rest = drop (i + 1) places in
    let place = get_or places i d in
    ap length (one_place_on reach places i d inside)
    ∙ length-append (pairs_at reach place rest) (pairs_among reach rest)
    ∙ ap (λ n. n + length (pairs_among reach rest)) (length_at reach place rest)

-- the list is there, or among those of the others
pub found_here : (reach : ℕ) (places : List CallPlace) (i left : ℕ) (d : CallPlace)
    → i < length places → left < reach * (length (drop (i + 1) places) * reach)
    → get_or (pairs_among reach (drop i places)) left []
    ≡ get_or (pairs_at reach (get_or places i d) (drop (i + 1) places)) left []
found_here reach places i left d inside here =
    let rest = drop (i + 1) places in
    let place = get_or places i d in
    let within : left < length (pairs_at reach place rest) =
    subst (λ n. left < n) (sym (length_at reach place rest)) here in
    ap (λ l. get_or l left []) (one_place_on reach places i d inside)
    ∙ get_or_append_left (pairs_at reach place rest) (pairs_among reach rest) [] left within

pub found_later : (reach : ℕ) (places : List CallPlace) (i left : ℕ) (d : CallPlace)
    → i < length places → reach * (length (drop (i + 1) places) * reach) ≤ left
    → get_or (pairs_among reach (drop i places)) left []
    ≡ get_or (pairs_among reach (drop (i + 1) places))
    (left - reach * (length (drop (i + 1) places) * reach)) []
found_later reach places i left d inside past =
    let rest = drop (i + 1) places in
    let place = get_or places i d in
    ap (λ l. get_or l left []) (one_place_on reach places i d inside)
    ∙ get_or-append_right (pairs_at reach place rest) (pairs_among reach rest)
    (reach * (length rest * reach)) left [] (length_at reach place rest) past

-- ## The list of a case

abbrev pub bounds_of : List CallPlace → ℕ → Bool → Bounds
bounds_of places reach two = record { places = places; reach = reach; two = two }

-- one of one delay
pub case_of_one : (places : List CallPlace) (reach : ℕ) (two : Bool) (case : ℕ) → 0 < case
    → case ≤ length places * reach
    → cons_option (slice_get (delays_among reach places) (case - 1)) []
    ≡ list_of (bounds_of places reach two) case
case_of_one places reach two zero some within = absurd (omega (arith, some))
case_of_one places reach two (suc at) some within =
    let all = delays_among reach places in
    let d = delay_of (record { thread = 0; line = 0 }) 0 in
    let tail = if two then pairs_among reach places else [] in
    let inside : at < length all = omega (arith, within, length_among reach places) in
    let ones : at < length (map one_of all) = omega (arith, inside, length-map all one_of) in
    let before : suc at - 1 ≡ at = omega arith in
    let found : slice_get all at ≡ Some (get_or all at d) = slice_get-get_or all at d inside in
    ap (λ n. cons_option (slice_get all n) []) before
    ∙ (ap (λ o. cons_option o []) found
    ∙ sym (get_or_append_left (map one_of all) tail [] at ones
    ∙ get_or-map one_of all at d [] inside))

-- one of two delays
pub case_of_two : (places : List CallPlace) (reach : ℕ) (two : Bool) (case : ℕ) → two ≡ true
    → length places * reach < case
    → get_or (pairs_among reach places) (case - 1 - length places * reach) []
    ≡ list_of (bounds_of places reach two) case
case_of_two places reach two zero is past = absurd (omega (arith, past))
case_of_two places reach two (suc at) is past =
    let all = delays_among reach places in
    let ones = length places * reach in
    let so_many : length (map one_of all) ≡ ones =
    length-map all one_of ∙ length_among reach places in
    let before : suc at - 1 - ones ≡ at - ones = omega arith in
    ap (λ n. get_or (pairs_among reach places) n []) before
    ∙ (sym (get_or-append_right (map one_of all) (pairs_among reach places) ones at [] so_many
    (omega (arith, past)))
    ∙ ap (λ b. get_or (map one_of all ++ (if b then pairs_among reach places else [])) at [])
    (sym is))

-- there are lists of two where there are more than those of one
pub has_two : (places reach count case : ℕ) (two : Bool) → count ≡ list_count places reach two
    → case < count → places * reach < case → two ≡ true
has_two places reach count case true is below past = refl
has_two places reach count case false is below past = absurd (omega (arith, is, below, past))

-- and so many that they fit
pub pairs_fit : (places : List CallPlace) (reach count : ℕ) (two : Bool) → two ≡ true
    → count ≡ list_count (length places) reach two → count < 2 ^ 64
    → length (pairs_among reach places) < 2 ^ 64
pairs_fit places reach count false is same fits = absurd (cc is)
pairs_fit places reach count true is same fits =
    omega (arith, same, fits, pairs_length reach places)

pub ones_fit : (places reach count : ℕ) (two : Bool) → count ≡ list_count places reach two
    → count < 2 ^ 64 → places * reach < 2 ^ 64
ones_fit places reach count two same fits = omega (arith, same, fits)

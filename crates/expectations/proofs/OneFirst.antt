-- That there is one first unmet expectation.
use Rattle.std.proofs.Common.{◌≡◌, ◌∙◌, ap, ℕ, ◌<◌, All, List, length, take, slice_get, Some, sym, subst, arith}
use Rattle.std.proofs.lemmas.List.{get_or-take, length-take}
use Rattle.std.proofs.lemmas.Option.{get_or_from_slice_get, slice_get_within}
use Rattle.posix_terms.specs.declared.reply.Reply.{Reply}
use Rattle.expectations.specs.Unmet.{AreMet, IsFirstOfCall, IsFirstUnmet, IsMet}
use Rattle.expectations.specs.declared.expected.Expectation.{Expectation}
use Rattle.expectations.specs.declared.unmet.Unmet.{Unmet}

-- what holds of all holds of the one at a place
at_place : {X : Type 0} (P : X → Type 0) (xs : List X) (n : ℕ) (x : X) → slice_get xs n ≡ Some x → All P xs → P x
at_place P xs n x at all = subst P (get_or_from_slice_get xs n x x at) (all n x (slice_get_within xs n x at))

-- the same of those before a place
before_place : {X : Type 0} (P : X → Type 0) (xs : List X) (n m : ℕ) (x : X) → n < m → slice_get xs n ≡ Some x
    → All P (take m xs) → P x
before_place P xs n m x less at all =
    let inside : n < length (take m xs) = omega (arith, length-take m xs, slice_get_within xs n x at) in
    subst P (get_or-take m xs n x less ∙ get_or_from_slice_get xs n x x at) (all n x inside)

-- a call of which one is not met does not meet all
not_all : (es : List Expectation) (call : ℕ × Reply) (n : ℕ) → IsFirstOfCall es call n → AreMet es call → ⊥
not_all es call n first all = first.unmet.reply
    (at_place (IsMet call) es n first.expectation first.at all first.unmet.place)

not_later : (es : List Expectation) (call : ℕ × Reply) (n m : ℕ) → IsFirstOfCall es call n → IsFirstOfCall es call m
    → n < m → ⊥
not_later es call n m first other less =
    first.unmet.reply (before_place (IsMet call) es n m first.expectation less first.at other.before first.unmet.place)

one_of_call : (es : List Expectation) (call : ℕ × Reply) (n m : ℕ) → IsFirstOfCall es call n → IsFirstOfCall es call m
    → n ≡ m
one_of_call es call n m first other =
    let low : n < m → ⊥ = not_later es call n m first other in
    let high : m < n → ⊥ = not_later es call m n other first in
    omega arith

pub none_where_met : (es : List Expectation) (calls : List (ℕ × Reply)) (first : Unmet) → All (AreMet es) calls
    → IsFirstUnmet es calls first → ⊥
none_where_met es calls first all is =
    not_all es is.call first.expectation is.here (at_place (AreMet es) calls first.row is.call is.at all)

row_not_later : (es : List Expectation) (calls : List (ℕ × Reply)) (v w : Unmet) → IsFirstUnmet es calls v
    → IsFirstUnmet es calls w → v.row < w.row → ⊥
row_not_later es calls v w first other less =
    not_all es first.call v.expectation first.here
    (before_place (AreMet es) calls v.row w.row first.call less first.at other.before)

pub one_first : (es : List Expectation) (calls : List (ℕ × Reply)) (v w : Unmet) → IsFirstUnmet es calls v
    → IsFirstUnmet es calls w → v ≡ w
one_first es calls v w first other =
    let low : v.row < w.row → ⊥ = row_not_later es calls v w first other in
    let high : w.row < v.row → ⊥ = row_not_later es calls w v other first in
    let rows : v.row ≡ w.row = omega arith in
    let both : Some first.call ≡ Some other.call = sym first.at ∙ ap (slice_get calls) rows ∙ other.at in
    let call : other.call ≡ first.call = cc in
    let here : IsFirstOfCall es first.call w.expectation = subst (λ (c : ℕ × Reply). IsFirstOfCall es c w.expectation)
    call other.here in
    let expectations : v.expectation ≡ w.expectation = one_of_call es first.call v.expectation w.expectation first.here
    here in
    λ i. record { row = rows i; expectation = expectations i }

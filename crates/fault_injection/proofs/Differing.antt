-- In each case the outcomes are others than those that came.
use Rattle.std.proofs.Common.{◌≡◌, ◌≢◌, ◌<◌, ◌==◌, ◌&&◌, ◌+◌, ◌-◌, ◌/◌, ◌∙◌, ℕ, zero, suc, List, []}
use Rattle.std.proofs.Common.{◌∷◌}
use Rattle.std.proofs.Common.{All, Bool, true, false, not, ap, arith, eq-eqb, filter, get_or}
use Rattle.std.proofs.Common.{map, nat_lt, refl, rules, sym}
use Rattle.std.specs.Prelude.{Option, Some, None, if◌then◌else◌, option_map, slice_get, slice_index_or}
use Rattle.std.specs.List.{enumerate_from}
use Rattle.std.proofs.lemmas.Bool.{false≢true}
use Rattle.std.proofs.lemmas.List.Elements.{All-append, All-map, All-nil, filter_passes}
use Rattle.std.proofs.lemmas.List.Filters.{All-dedup}
use Rattle.posix_terms.specs.Errors.{code_of}
use Rattle.posix_terms.specs.declared.errno.Errno.{Errno}
use Rattle.posix_terms.specs.declared.outcome.Given.{Given}
use Rattle.posix_terms.specs.declared.outcome.OutKind.{OutKind}
use Rattle.posix_terms.specs.declared.outcome.OutKind.TheVariants as kind
use Rattle.posix_terms.specs.declared.outcome.Outcome.{Outcome}
use Rattle.posix_terms.specs.declared.outcome.Outcome.TheVariants as outcome
use Rattle.posix_terms.specs.declared.reply.ObjectKind.{ObjectKind}
use Rattle.fault_injection.specs.Cases.{cases_at, cases_of, fault_cases}
use Rattle.fault_injection.specs.Laws.{CasesDiffer}
use Rattle.fault_injection.specs.Replaced.{given_in, injected_in, of_thread_in, outcomes_in}
use Rattle.fault_injection.specs.Tried.{errors_for, failures, is_failure, short_counts}
use Rattle.fault_injection.specs.Tried.{short_successes, tried}
use Rattle.fault_injection.specs.declared.cases.Choice.{Choice}
use Rattle.fault_injection.specs.declared.cases.FaultCase.{FaultCase}
use Rattle.fault_injection.specs.declared.injected.Injected.{Injected}
use Rattle.fault_injection.specs.declared.injected.Injected.TheVariants as injected
use Rattle.fault_injection.specs.declared.places.Place.{Place}

-- what holds of each element goes over to what follows from it
weaker : {X : Type 0} (P Q : X → Type 0) (xs : List X)
    → ((x : X) → P x → Q x) → All P xs → All Q xs
weaker P Q xs follows all k d inside = follows (get_or xs k d) (all k d inside)

-- ## One outcome

-- another comes in place of this one
Differs : Outcome → Injected → Type 0
Differs recorded one = injected_in one recorded ≢ recorded

own_failure : (error : Errno) → is_failure (outcome.Fail error) error ≡ true
unfolding is_failure
own_failure error = eq-eqb (code_of error) (code_of error) refl

failures_differ : (errors : List Errno) (recorded : Outcome)
    → All (Differs recorded) (failures errors recorded)
unfolding Differs
failures_differ errors recorded =
    All-map (Differs recorded) injected.Fail
    (filter (λ error. not (is_failure recorded error)) errors)
    (weaker (λ error. not (is_failure recorded error) ≡ true)
    (λ error. Differs recorded (injected.Fail error))
    (filter (λ error. not (is_failure recorded error)) errors)
    (λ error passes same.
    let is : is_failure recorded error ≡ true =
    ap (λ o. is_failure o error) (sym same) ∙ own_failure error in
    false≢true (ap not (sym is) ∙ passes))
    (filter_passes (λ error. not (is_failure recorded error)) errors))

short_below : (count : ℕ) → All (λ n. n < count) (short_counts count)
short_below count =
    let counts : List ℕ = 0 ∷ 1 ∷ (count / 2) ∷ (count - 1) ∷ [] in
    All-dedup (λ a b. a == b) (λ n. n < count) (filter (λ n. nat_lt n count) counts)
    (weaker (λ n. nat_lt n count ≡ true) (λ n. n < count)
    (filter (λ n. nat_lt n count) counts)
    (λ n passes. search rules)
    (filter_passes (λ n. nat_lt n count) counts))

value_of : Outcome → ℕ
value_of (outcome.Ok value bytes) = value
value_of (outcome.Fail error) = 0

shorter_differ : (value : ℕ) (bytes : List ℕ)
    → All (Differs (outcome.Ok value bytes)) (map injected.Short (short_counts value))
unfolding Differs value_of
shorter_differ value bytes =
    All-map (Differs (outcome.Ok value bytes)) injected.Short (short_counts value)
    (weaker (λ n. n < value) (λ n. Differs (outcome.Ok value bytes) (injected.Short n))
    (short_counts value)
    (λ n less same. let is : n ≡ value = ap value_of same in omega (arith, is, less))
    (short_below value))

short_differ : (k : OutKind) (recorded : Outcome)
    → All (Differs recorded) (short_successes k recorded)
short_differ kind.Read (outcome.Ok value bytes) = shorter_differ value bytes
short_differ kind.Write (outcome.Ok value bytes) = shorter_differ value bytes
short_differ kind.Read (outcome.Fail error) = All-nil (Differs (outcome.Fail error))
short_differ kind.Write (outcome.Fail error) = All-nil (Differs (outcome.Fail error))
short_differ kind.Open recorded = All-nil (Differs recorded)
short_differ kind.Seek recorded = All-nil (Differs recorded)
short_differ kind.Listen recorded = All-nil (Differs recorded)
short_differ kind.Connect recorded = All-nil (Differs recorded)
short_differ kind.Accept recorded = All-nil (Differs recorded)
short_differ kind.Shutdown recorded = All-nil (Differs recorded)
short_differ kind.Close recorded = All-nil (Differs recorded)

if_chosen : (chosen : Bool) (recorded : Outcome) (short : List Injected)
    → All (Differs recorded) short
    → All (Differs recorded) (if chosen then short else [])
if_chosen true recorded short all = all
if_chosen false recorded short all = All-nil (Differs recorded)

tried_differ : (choice : Choice) (object : Option ObjectKind) (given : Given)
    → All (Differs given.outcome) (tried choice object given)
tried_differ choice object given =
    let short = short_successes given.kind given.outcome in
    let errors = errors_for choice given.kind object in
    All-append (Differs given.outcome) (failures errors given.outcome)
    (if choice.short then short else [])
    (failures_differ errors given.outcome)
    (if_chosen choice.short given.outcome short (short_differ given.kind given.outcome))

-- ## The outcome of a place

-- in place of the outcome of the case comes what is injected
in_place : (thread number : ℕ) (one : Injected) (given : Given)
    → (given_in (record { thread = thread; number = number; injected = one }) thread
    (number, given)).outcome ≡ injected_in one given.outcome
in_place thread number one given =
    let t : (thread == thread) ≡ true = eq-eqb thread thread refl in
    let n : (number == number) ≡ true = eq-eqb number number refl in
    ap (λ (b : Bool).
    (if b && number == number
    then record given { outcome = injected_in one given.outcome } else given).outcome) t
    ∙ ap (λ (b : Bool).
    (if b then record given { outcome = injected_in one given.outcome } else given).outcome) n

-- what became of the outcome with this number, if there is one
get_in : {X : Type 0} (f : ℕ × X → X) (from : ℕ) (xs : List X) (i : ℕ)
    → slice_get (map f (enumerate_from from xs)) i
    ≡ option_map (λ x. f (from + i, x)) (slice_get xs i)
get_in f from [] i = refl
get_in f from (x ∷ xs) zero =
    let e : from ≡ from + 0 = omega arith in
    ap (λ (n : ℕ). Some (f (n, x))) e
get_in f from (x ∷ xs) (suc i) =
    let e : from + 1 + i ≡ from + suc i = omega arith in
    get_in f (from + 1) xs i
    ∙ ap (λ (n : ℕ). option_map (λ y. f (n, y)) (slice_get xs i)) e

-- what became of the outcomes of a thread; where there are none, there are none then
thread_in : (case : FaultCase) (from : ℕ) (outcomes : List (List Given)) (i : ℕ)
    → slice_index_or (map (of_thread_in case) (enumerate_from from outcomes)) i []
    ≡ of_thread_in case (from + i, slice_index_or outcomes i [])
thread_in case from [] i = refl
thread_in case from (first ∷ rest) zero =
    let e : from ≡ from + 0 = omega arith in
    ap (λ (n : ℕ). of_thread_in case (n, first)) e
thread_in case from (first ∷ rest) (suc i) =
    let e : from + 1 + i ≡ from + suc i = omega arith in
    thread_in case (from + 1) rest i
    ∙ ap (λ (n : ℕ). of_thread_in case (n, slice_index_or rest i [])) e

-- the outcome of a place
at_place : Place → List (List Given) → Option Given
at_place place outcomes = slice_get (slice_index_or outcomes place.thread []) place.number

outcome_or : Option Given → Outcome → Outcome
outcome_or None d = d
outcome_or (Some given) d = given.outcome

case_at : Place → Injected → FaultCase
case_at place one =
    record { thread = place.thread; number = place.number; injected = one }

-- it is replaced in the case
place_in : (place : Place) (one : Injected) (outcomes : List (List Given)) (given : Given)
    → at_place place outcomes ≡ Some given
    → at_place place (outcomes_in (case_at place one) outcomes)
    ≡ Some (given_in (case_at place one) place.thread (place.number, given))
unfolding at_place case_at
place_in place one outcomes given is =
    let case = case_at place one in
    let of_thread = slice_index_or outcomes place.thread [] in
    let t : 0 + place.thread ≡ place.thread = omega arith in
    let n : 0 + place.number ≡ place.number = omega arith in
    ap (λ (l : List Given). slice_get l place.number) (thread_in case 0 outcomes place.thread)
    ∙ ap (λ (k : ℕ). slice_get (of_thread_in case (k, of_thread)) place.number) t
    ∙ get_in (given_in case place.thread) 0 of_thread place.number
    ∙ ap (λ (k : ℕ).
    option_map (λ (g : Given). given_in case place.thread (k, g))
    (slice_get of_thread place.number)) n
    ∙ ap (option_map (λ (g : Given). given_in case place.thread (place.number, g))) is

-- so all outcomes together are others, where this one is
place_differs : (place : Place) (one : Injected) (outcomes : List (List Given)) (given : Given)
    → at_place place outcomes ≡ Some given → Differs given.outcome one
    → outcomes_in (case_at place one) outcomes ≢ outcomes
unfolding Differs outcome_or case_at
place_differs place one outcomes given is differs same =
    differs
    (sym (in_place place.thread place.number one given)
    ∙ ap (λ (o : Option Given). outcome_or o given.outcome)
    (sym (place_in place one outcomes given is) ∙ ap (at_place place) same ∙ is))

-- ## All places

-- the outcomes are others in the case
InCase : List (List Given) → FaultCase → Type 0
InCase outcomes case = outcomes_in case outcomes ≢ outcomes

place_cases : (choice : Choice) (outcomes : List (List Given)) (place : Place)
    (there : Option Given) → at_place place outcomes ≡ there
    → All (InCase outcomes) (cases_at choice place there)
unfolding InCase case_at
place_cases choice outcomes place None is = All-nil (InCase outcomes)
place_cases choice outcomes place (Some given) is =
    All-map (InCase outcomes) (case_at place) (tried choice place.object given)
    (weaker (Differs given.outcome) (λ one. InCase outcomes (case_at place one))
    (tried choice place.object given)
    (λ one differs. place_differs place one outcomes given is differs)
    (tried_differ choice place.object given))

places_cases : (choice : Choice) (outcomes : List (List Given)) (places : List Place)
    → All (InCase outcomes) (fault_cases choice outcomes places)
unfolding at_place
places_cases choice outcomes [] = All-nil (InCase outcomes)
places_cases choice outcomes (place ∷ places) =
    All-append (InCase outcomes) (cases_of choice outcomes place)
    (fault_cases choice outcomes places)
    (place_cases choice outcomes place (at_place place outcomes) refl)
    (places_cases choice outcomes places)

pub cases_differ : CasesDiffer
unfolding InCase
cases_differ choice outcomes places = places_cases choice outcomes places

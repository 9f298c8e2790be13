-- Whose turn it is, found by looking at one thread after another.
use Rattle.std.proofs.Common.{◌≡◌, ◌≢◌, ℕ, zero, suc, ◌+◌, ◌-◌, ◌<◌, ◌≤◌, ◌^◌, List, length, get_or, None, Some, Option}
use Rattle.std.proofs.Common.{Bool, true, false, eqb, inl, inr, refl, sym, ap, ◌∙◌, subst, ◌⊎◌, arith}
use Rattle.std.specs.Prelude.{if◌then◌else◌}
use Rattle.std.proofs.Math.ListN.{get_or-map}
use Rattle.std.proofs.lemmas.Bool.{and_from, cases_eq, cases_lt, eq-eqb, ne_eqb}
use Rattle.std.proofs.lemmas.List.{get_or_past, length-map}
use Rattle.std.proofs.lemmas.List.Elements.{All-get_or, All-replicate}
use Rattle.std.proofs.lemmas.Option.{none-some}
use Rattle.posix_terms.specs.declared.limits.TheConstants.Limits as limit
use Rattle.posix_terms.specs.declared.transcript.Turn.{Turn}
use Rattle.logical_clocks.specs.ThreadClocks.{AreWithinLimit, first_clock, first_clocks, live_clock, live_clocks}
use Rattle.logical_clocks.specs.ThreadClocks.{no_thread, thread_at}
use Rattle.logical_clocks.specs.TurnOrder.{all_below, first_below, has_turn, turn_holder, yields, yields_at}
use Rattle.logical_clocks.specs.declared.clocks.ThreadClock.{ThreadClock}
use Rattle.logical_clocks.proofs.TurnLemmas.{all_below_not, first_below_found}

pub first_within_limit : (threads : ℕ) → AreWithinLimit (first_clocks threads)
first_within_limit threads = All-replicate (λ t. t.clock ≤ limit.CLOCK) threads first_clock (omega arith)

some_same : {A : Type 0} (o : Option A) (x y : A) → o ≡ Some x → o ≡ Some y → x ≡ y
some_same o x y p q = cc

live_at : (clocks : List ThreadClock) (i : ℕ) → get_or (live_clocks clocks) i None ≡ live_clock (thread_at clocks i)
live_at clocks i = get_or-map live_clock clocks i no_thread

inside_where_live : (clocks : List ThreadClock) (i clock : ℕ) → live_clock (thread_at clocks i) ≡ Some clock
    → i < length clocks
inside_where_live clocks i clock live =
    elim (cases_lt i (length clocks)) [
      | inl l ↦ l
      | inr l ↦
          let none : None ≡ Some clock = ap live_clock (sym (get_or_past clocks i no_thread l)) ∙ live in
          absurd (none-some clock none)
    ]

all_below_all : (n : ℕ) (p : ℕ → Bool) → ((k : ℕ) → p k ≡ true) → all_below n p ≡ true
all_below_all zero p all = refl
all_below_all (suc n) p all = and_from (p n) (all_below n p) (all n) (all_below_all n p all)

first_below_none : (n : ℕ) (p : ℕ → Bool) → ((k : ℕ) → k < n → p k ≡ false) → first_below n p ≡ None
unfolding first_below
first_below_none zero p none = refl
first_below_none (suc n) p none = rw (first_below_none n p (λ k l. none k (omega arith)), none n (omega arith)) refl

cases_live : (o : Option ℕ) → (o ≡ None) ⊎ ((clock : ℕ) × (o ≡ Some clock))
cases_live None = inl refl
cases_live (Some clock) = inr (clock, refl)

live_is : (t : ThreadClock) → t.live ≡ true → live_clock t ≡ Some t.clock
live_is t live = ap (λ (b : Bool). let o : Option ℕ = if b then Some t.clock else None in o) live

clock_is : (t : ThreadClock) (c : ℕ) → live_clock t ≡ Some c → c ≡ t.clock
clock_is t c is = by_live t.live is
  where
    by_live : (b : Bool) → (let o : Option ℕ = if b then Some t.clock else None in o) ≡ Some c → c ≡ t.clock
    by_live true e = cc
    by_live false e = absurd (none-some c e)

-- ## The earliest of the first threads

-- thread k has this clock, and its turn comes before those of all others below n
pub record IsEarliest (clocks : List ThreadClock) (n k least : ℕ) : Type 0 where
  pub below : k < n
  pub live : live_clock (thread_at clocks k) ≡ Some least
  pub first : (j d : ℕ) → j < n → live_clock (thread_at clocks j) ≡ Some d → (least < d) ⊎ ((least ≡ d) × (k ≤ j))

-- or none below n is live
pub record NoneIsLive (clocks : List ThreadClock) (n least : ℕ) : Type 0 where
  pub most : least ≡ 2 ^ 64 - 1
  pub none : (j : ℕ) → j < n → live_clock (thread_at clocks j) ≡ None

abbrev pub IsFoundBelow : List ThreadClock → ℕ → Option ℕ → ℕ → Type 0
IsFoundBelow clocks n None least = NoneIsLive clocks n least
IsFoundBelow clocks n (Some k) least = IsEarliest clocks n k least

pub none_found : (clocks : List ThreadClock) → IsFoundBelow clocks 0 None (2 ^ 64 - 1)
none_found clocks = record { most = refl; none = λ j l. absurd (omega arith) }

first_found : (clocks : List ThreadClock) (n least clock : ℕ) → NoneIsLive clocks n least
    → live_clock (thread_at clocks n) ≡ Some clock → IsEarliest clocks (n + 1) n clock
first_found clocks n least clock h live =
    record {
      below = omega arith;
      live = live;
      first = λ j d l is.
          elim (cases_eq j n) [
            | inl e ↦ inr (
              some_same (live_clock (thread_at clocks n)) clock d live
                  (subst (λ (k : ℕ). live_clock (thread_at clocks k) ≡ Some d) e is),
              omega arith,
            )
            | inr e ↦ absurd (none-some d (sym (h.none j (omega arith)) ∙ is))
          ];
    }

earlier_found : (clocks : List ThreadClock) (n k least clock : ℕ) → IsEarliest clocks n k least
    → live_clock (thread_at clocks n) ≡ Some clock → clock < least → IsEarliest clocks (n + 1) n clock
earlier_found clocks n k least clock h live less =
    record {
      below = omega arith;
      live = live;
      first = λ j d l is.
          elim (cases_eq j n) [
            | inl e ↦ inr (
              some_same (live_clock (thread_at clocks n)) clock d live
                  (subst (λ (k : ℕ). live_clock (thread_at clocks k) ≡ Some d) e is),
              omega arith,
            )
            | inr e ↦ let far : (least < d) ⊎ ((least ≡ d) × (k ≤ j)) = h.first j d (omega arith) is in
                inl (omega arith)
          ];
    }

none_still : (clocks : List ThreadClock) (n least : ℕ) → NoneIsLive clocks n least
    → live_clock (thread_at clocks n) ≡ None → NoneIsLive clocks (n + 1) least
none_still clocks n least h ended =
    record {
      most = h.most;
      none = λ j l.
          elim (cases_eq j n) [
            | inl e ↦ subst (λ (k : ℕ). live_clock (thread_at clocks k) ≡ None) (sym e) ended
            | inr e ↦ h.none j (omega arith)
          ];
    }

earliest_still : (clocks : List ThreadClock) (n k least : ℕ) → IsEarliest clocks n k least
    → ((d : ℕ) → live_clock (thread_at clocks n) ≡ Some d → least ≤ d) → IsEarliest clocks (n + 1) k least
earliest_still clocks n k least h late =
    record {
      below = let l = h.below in omega arith;
      live = h.live;
      first = λ j d l is.
          elim (cases_eq j n) [
            | inl e ↦ let less : least ≤ d = late d (subst (λ (i : ℕ). live_clock (thread_at clocks i) ≡ Some d) e is)
                in let below = h.below in at_least least d k j less (omega arith)
            | inr e ↦ h.first j d (omega arith) is
          ];
    }
  where
    at_least : (least d k j : ℕ) → least ≤ d → k ≤ j → (least < d) ⊎ ((least ≡ d) × (k ≤ j))
    at_least least d k j less le =
        elim (cases_lt least d) [
          | inl l ↦ inl l
          | inr l ↦ inr (omega arith, le)
        ]

pub next_is_earlier : (clocks : List ThreadClock) (n : ℕ) (o : Option ℕ) (least : ℕ) (t : ThreadClock)
    → IsFoundBelow clocks n o least → t ≡ thread_at clocks n → t.live ≡ true → t.clock < least
    → IsFoundBelow clocks (n + 1) (Some n) t.clock
next_is_earlier clocks n None least t h is live less =
    first_found clocks n least t.clock h (ap live_clock (sym is) ∙ live_is t live)
next_is_earlier clocks n (Some k) least t h is live less =
    earlier_found clocks n k least t.clock h (ap live_clock (sym is) ∙ live_is t live) less

pub next_has_ended : (clocks : List ThreadClock) (n : ℕ) (o : Option ℕ) (least : ℕ) (t : ThreadClock)
    → IsFoundBelow clocks n o least → t ≡ thread_at clocks n → t.live ≡ false → IsFoundBelow clocks (n + 1) o least
next_has_ended clocks n o least t h is ended = by_holder o h
  where
    none : live_clock (thread_at clocks n) ≡ None
    none = ap live_clock (sym is) ∙ ap (λ (b : Bool). let o : Option ℕ = if b then Some t.clock else None in o) ended

    by_holder : (o : Option ℕ) → IsFoundBelow clocks n o least → IsFoundBelow clocks (n + 1) o least
    by_holder None h = none_still clocks n least h none
    by_holder (Some k) h = earliest_still clocks n k least h (λ d live. absurd (none-some d (sym none ∙ live)))

pub next_is_later : (clocks : List ThreadClock) (n : ℕ) (o : Option ℕ) (least : ℕ) (t : ThreadClock)
    → AreWithinLimit clocks → n < length clocks → IsFoundBelow clocks n o least → t ≡ thread_at clocks n
    → least ≤ t.clock → IsFoundBelow clocks (n + 1) o least
next_is_later clocks n None least t within inside h is late =
    let own : t.clock ≤ limit.CLOCK = subst (λ (u : ThreadClock). u.clock ≤ limit.CLOCK) (sym is)
    (All-get_or (λ (u : ThreadClock). u.clock ≤ limit.CLOCK) clocks n no_thread inside within) in
    let most = h.most in
    absurd (omega arith)
next_is_later clocks n (Some k) least t within inside h is late =
    earliest_still clocks n k least h
    (λ d live. subst (λ (c : ℕ). least ≤ c) (sym (clock_is t d (ap live_clock is ∙ live))) late)

-- ## Whose turn it is

abbrev turn_of : ℕ → ℕ → Turn
turn_of clock thread = record { clock = clock; thread = thread }

others_yield : (c k d j : ℕ) → (c < d) ⊎ ((c ≡ d) × (k ≤ j)) → yields_at (turn_of c k) j (Some d) ≡ true
others_yield c k d j (inl l) = grind arith
others_yield c k d j (inr (e, l)) =
    elim (cases_eq j k) [ inl same ↦ grind arith | inr apart ↦ let less : k < j = omega arith in grind arith ]

earlier_stays : (c k d j : ℕ) → j ≢ k → (c < d) ⊎ ((c ≡ d) × (k ≤ j)) → yields_at (turn_of d j) k (Some c) ≡ false
earlier_stays c k d j apart (inl l) = grind arith
earlier_stays c k d j apart (inr (e, l)) = let less : k < j = omega arith in grind arith

earliest_has_turn : (clocks : List ThreadClock) (k least : ℕ) → IsEarliest clocks (length clocks) k least
    → has_turn (live_clocks clocks) k ≡ true
unfolding has_turn yields
earliest_has_turn clocks k least h =
    rw (live_at clocks k, h.live)
    (all_below_all (length (live_clocks clocks)) (yields (live_clocks clocks) (turn_of least k)) (λ j.
    elim (cases_live (live_clock (thread_at clocks j))) [
      | inl none ↦ rw (live_at clocks j, none) refl
      | inr is ↦ rw (live_at clocks j, is.1)
          (others_yield least k is.0 j (h.first j is.0 (inside_where_live clocks j is.0 is.1) is.1))
    ]))

others_have_none : (clocks : List ThreadClock) (k least i : ℕ) → IsEarliest clocks (length clocks) k least → i ≢ k
    → has_turn (live_clocks clocks) i ≡ false
unfolding has_turn yields
others_have_none clocks k least i h apart =
    elim (cases_live (live_clock (thread_at clocks i))) [
      | inl none ↦ rw (live_at clocks i, none) refl
      | inr is ↦
          let inside : k < length (live_clocks clocks) = rw length-map h.below in
          let not : yields (live_clocks clocks) (turn_of is.0 i) k ≡ false =
          rw (live_at clocks k, h.live) (earlier_stays least k is.0 i apart
          (h.first i is.0 (inside_where_live clocks i is.0 is.1) is.1)) in
          rw (live_at clocks i, is.1) (all_below_not (length (live_clocks clocks)) k
          (yields (live_clocks clocks) (turn_of is.0 i)) inside not)
    ]

none_has_turn : (clocks : List ThreadClock) (least i : ℕ) → NoneIsLive clocks (length clocks) least
    → has_turn (live_clocks clocks) i ≡ false
unfolding has_turn
none_has_turn clocks least i h =
    elim (cases_live (live_clock (thread_at clocks i))) [
      | inl none ↦ rw (live_at clocks i, none) refl
      | inr is ↦ absurd (none-some is.0 (sym (h.none i (inside_where_live clocks i is.0 is.1)) ∙ is.1))
    ]

pub holder_found : (clocks : List ThreadClock) (o : Option ℕ) (least : ℕ) → IsFoundBelow clocks (length clocks) o least
    → turn_holder (live_clocks clocks) ≡ o
unfolding turn_holder
holder_found clocks None least h = first_below_none (length (live_clocks clocks)) (has_turn (live_clocks clocks))
    (λ k l. none_has_turn clocks least k h)
holder_found clocks (Some k) least h =
    let before : first_below k (has_turn (live_clocks clocks)) ≡ None =
    first_below_none k (has_turn (live_clocks clocks))
    (λ i l. others_have_none clocks k least i h (omega arith)) in
    let inside : k < length (live_clocks clocks) = rw length-map h.below in
    first_below_found (length (live_clocks clocks)) k (has_turn (live_clocks clocks)) inside before
    (earliest_has_turn clocks k least h)

-- some thread is the earliest, or none is live
record Found (clocks : List ThreadClock) (n : ℕ) : Type 0 where
  holder : Option ℕ
  least : ℕ
  is : IsFoundBelow clocks n holder least

find : (clocks : List ThreadClock) (n : ℕ) → Found clocks n
find clocks zero = record { holder = None; least = 2 ^ 64 - 1; is = none_found clocks }
find clocks (suc n) = let f = find clocks n in
    one_more f.holder f.least f.is (cases_live (live_clock (thread_at clocks n)))
  where
    next : (o : Option ℕ) (least : ℕ) → IsFoundBelow clocks (n + 1) o least → Found clocks (suc n)
    next o least h = record {
      holder = o;
      least = least;
      is = subst (λ (k : ℕ). IsFoundBelow clocks k o least) (add_one n) h;
    }
      where
        add_one : (n : ℕ) → n + 1 ≡ suc n
        add_one n = omega arith

    one_more : (o : Option ℕ) (least : ℕ) → IsFoundBelow clocks n o least → (live_clock (thread_at clocks n) ≡ None)
        ⊎ ((c : ℕ) × (live_clock (thread_at clocks n) ≡ Some c)) → Found clocks (suc n)
    one_more None least h (inl none) = next None least (none_still clocks n least h none)
    one_more None least h (inr (c, live)) = next (Some n) c (first_found clocks n least c h live)
    one_more (Some k) least h (inl none) =
        next (Some k) least (earliest_still clocks n k least h (λ d live. absurd (none-some d (sym none ∙ live))))
    one_more (Some k) least h (inr (c, live)) =
        elim (cases_lt c least) [
          | inl less ↦ next (Some n) c (earlier_found clocks n k least c h live less)
          | inr late ↦ next (Some k) least
              (earliest_still clocks n k least h
              (λ d is. subst (λ (x : ℕ). least ≤ x) (some_same (live_clock (thread_at clocks n)) c d live is) late))
        ]

-- whether this thread has the turn
abbrev pub is_holder : Option ℕ → ℕ → Bool
is_holder None i = false
is_holder (Some j) i = eqb j i

turn_found : (clocks : List ThreadClock) (i : ℕ) (o : Option ℕ) (least : ℕ)
    → IsFoundBelow clocks (length clocks) o least → has_turn (live_clocks clocks) i ≡ is_holder o i
turn_found clocks i None least h = none_has_turn clocks least i h
turn_found clocks i (Some k) least h =
    elim (cases_eq k i) [
      | inl e ↦ rw (eq-eqb k i e, ← e) (earliest_has_turn clocks k least h)
      | inr e ↦ rw (ne_eqb k i e) (others_have_none clocks k least i h (λ f. e (sym f)))
    ]

pub turn_by_holder : (clocks : List ThreadClock) (i : ℕ)
    → has_turn (live_clocks clocks) i ≡ is_holder (turn_holder (live_clocks clocks)) i
turn_by_holder clocks i =
    let f = find clocks (length clocks) in
    turn_found clocks i f.holder f.least f.is
    ∙ ap (λ (o : Option ℕ). is_holder o i) (sym (holder_found clocks f.holder f.least f.is))

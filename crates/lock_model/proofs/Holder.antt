-- Some thread has the turn, unless all have ended.
use Rattle.std.proofs.Common.{◌≡◌, ℕ, zero, suc, ◌<◌, ◌≤◌, ◌⊎◌, List, length, get_or, Option, Some, None, true, sym}
use Rattle.std.proofs.Common.{refl, ap, ◌∙◌, inl, inr, ⊎_elim, arith}
use Rattle.std.proofs.lemmas.Bool.{false≢true, cases_eq, cases_lt}
use Rattle.std.proofs.lemmas.Option.{same_Some, none-some}
use Rattle.lock_model.specs.Laws.{HaveEnded}
use Rattle.lock_model.specs.State.{Phase, State, thread_of, live_clock_in, live_clock, live_clocks}
use Rattle.lock_model.specs.State.Phase.{Ended}
use Rattle.logical_clocks.specs.TurnOrder.{has_turn, turn_holder}
use Rattle.std.proofs.Common.{◌↔◌}
use Rattle.lock_model.proofs.Turn.{IsEarlier, turn_in, turn_out, turn_unique, clock_within, clock_at}
use Rattle.lock_model.proofs.Plain.{first_some, first_none}

-- the earliest of the live threads below n, if there is one
pub record Earliest (clocks : List (Option ℕ)) (n : ℕ) : Type 0 where
  pub thread : ℕ
  pub clock : ℕ
  pub below : thread < n
  pub live : get_or clocks thread None ≡ Some clock
  pub first : (j d : ℕ) → j < n → get_or clocks j None ≡ Some d → (j ≡ thread → ⊥) → IsEarlier clock thread d j

abbrev NoneLive : List (Option ℕ) → ℕ → Type 0
NoneLive clocks n = (j : ℕ) → j < n → get_or clocks j None ≡ None

earliest_more : (clocks : List (Option ℕ)) (n : ℕ) (o : Option ℕ) → get_or clocks n None ≡ o → NoneLive clocks n
    ⊎ Earliest clocks n → NoneLive clocks (suc n) ⊎ Earliest clocks (suc n)
earliest_more clocks n None e (inl none) =
    inl (λ j l. ⊎_elim (λ (q : j ≡ n). ap (λ (k : ℕ). get_or clocks k None) q ∙ e)
    (λ (q : j ≡ n → ⊥). none j (omega arith)) (cases_eq j n))
earliest_more clocks n None e (inr h) =
    inr
    (record {
      thread = h.thread;
      clock = h.clock;
      below = let l = h.below in omega arith;
      live = h.live;
      first = λ j d l q apart.
          ⊎_elim (λ (s : j ≡ n). absurd (none-some d (sym e ∙ (ap (λ (k : ℕ). get_or clocks k None) (sym s) ∙ q))))
          (λ (s : j ≡ n → ⊥). h.first j d (omega arith) q apart) (cases_eq j n);
    })
earliest_more clocks n (Some c) e (inl none) =
    inr
    (record {
      thread = n;
      clock = c;
      below = omega arith;
      live = e;
      first = λ j d l q apart. absurd (none-some d (sym (none j (omega arith)) ∙ q));
    })
earliest_more clocks n (Some c) e (inr h) =
    let below = h.below in
    ⊎_elim
    (λ (less : c < h.clock).
    inr
    (record {
      thread = n;
      clock = c;
      below = omega arith;
      live = e;
      first = λ j d l q apart.
          ⊎_elim
          (λ (s : j ≡ h.thread).
          let same : h.clock ≡ d = same_Some h.clock d (sym h.live ∙ (ap (λ (k : ℕ). get_or clocks k None) (sym s) ∙ q))
          in
          inl (omega arith))
          (λ (s : j ≡ h.thread → ⊥). let far : IsEarlier h.clock h.thread d j = h.first j d (omega arith) q s in
          inl (omega arith))
          (cases_eq j h.thread);
    }))
    (λ (more : h.clock ≤ c).
    inr
    (record {
      thread = h.thread;
      clock = h.clock;
      below = omega arith;
      live = h.live;
      first = λ j d l q apart.
          ⊎_elim
          (λ (s : j ≡ n).
          let same : c ≡ d = same_Some c d (sym e ∙ (ap (λ (k : ℕ). get_or clocks k None) (sym s) ∙ q)) in
          earlier_at h.clock h.thread d j (omega arith) (omega arith))
          (λ (s : j ≡ n → ⊥). h.first j d (omega arith) q apart)
          (cases_eq j n);
    }))
    (cases_lt c h.clock)
  where
    earlier_at : (a i d j : ℕ) → a ≤ d → i < j → IsEarlier a i d j
    earlier_at a i d j l k = ⊎_elim (λ (q : a < d). inl q) (λ (q : d ≤ a). inr (omega arith, k)) (cases_lt a d)

earliest : (clocks : List (Option ℕ)) (n : ℕ) → NoneLive clocks n ⊎ Earliest clocks n
earliest clocks zero = inl (λ j l. absurd (omega arith))
earliest clocks (suc n) = earliest_more clocks n (get_or clocks n None) refl (earliest clocks n)

-- the earliest of all live threads has the turn
earliest_turn : (clocks : List (Option ℕ)) (h : Earliest clocks (length clocks)) → has_turn clocks h.thread ≡ true
earliest_turn clocks h =
    turn_in clocks h.thread (record {
      clock = h.clock;
      live = h.live;
      first = λ j d q apart. h.first j d (clock_within clocks j d q) q apart;
    })

holder_by : (clocks : List (Option ℕ)) (i : ℕ) (o : Option ℕ) → turn_holder clocks ≡ o → has_turn clocks i ≡ true
    → turn_holder clocks ≡ Some i
unfolding turn_holder
holder_by clocks i None e h =
    let g = turn_out clocks i h in
    absurd (false≢true (sym (first_none (length clocks) i (has_turn clocks) e (clock_within clocks i g.clock g.live))
    ∙ h))
holder_by clocks i (Some k) e h = e
    ∙ ap (λ (n : ℕ). Some n) (turn_unique clocks k i (first_some (length clocks) (has_turn clocks) k e) h)

-- the holder is the thread that has the turn
pub holder_turn : (clocks : List (Option ℕ)) (i : ℕ) → (turn_holder clocks ≡ Some i) ↔ (has_turn clocks i ≡ true)
unfolding turn_holder
holder_turn clocks i = (
  λ h. first_some (length clocks) (has_turn clocks) i h,
  λ h. holder_by clocks i
      (turn_holder clocks) refl h,
)

-- and there is one where any thread is live
pub holder_there : (clocks : List (Option ℕ)) (i c : ℕ) → get_or clocks i None ≡ Some c → (k : ℕ)
    × (turn_holder clocks ≡ Some k)
holder_there clocks i c h =
    ⊎_elim
    (λ (none : NoneLive clocks (length clocks)). absurd (none-some c (sym (none i (clock_within clocks i c h)) ∙ h)))
    (λ (e : Earliest clocks (length clocks)).
    (e.thread, holder_by clocks e.thread (turn_holder clocks) refl (earliest_turn clocks e)))
    (earliest clocks (length clocks))

-- ## Where a plain run is over

live_or_ended : (p : Phase) (c : ℕ) → (p ≡ Ended) ⊎ (live_clock_in p c ≡ Some c)
live_or_ended Ended c = inl refl
live_or_ended p c = inr refl

over_by : (s : State) (o : Option ℕ) → turn_holder (live_clocks s) ≡ o → HaveEnded s
    ⊎ ((i : ℕ) × (turn_holder (live_clocks s) ≡ Some i))
over_by s (Some i) e = inr (i, e)
over_by s None e =
    inl
    (λ i.
    ⊎_elim
    (λ (h : (thread_of s i).phase ≡ Ended). h)
    (λ (h : live_clock (thread_of s i) ≡ Some (thread_of s i).clock).
    let there = holder_there (live_clocks s) i (thread_of s i).clock (clock_at s i ∙ h) in
    absurd (none-some there.0 (sym e ∙ there.1)))
    (live_or_ended (thread_of s i).phase (thread_of s i).clock))

-- all threads have ended, or one of them has the turn
pub ended_or_turn : (s : State) → HaveEnded s ⊎ ((i : ℕ) × (turn_holder (live_clocks s) ≡ Some i))
ended_or_turn s = over_by s (turn_holder (live_clocks s)) refl

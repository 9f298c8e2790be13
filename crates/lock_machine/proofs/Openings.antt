-- The least turn that is for more than an attempt that fails.
use Rattle.std.proofs.Common.{◌≡◌, ℕ, ◌+◌, ◌<◌, ◌≤◌, List, length, get_or, Option, Some, None, false, sym, subst}
use Rattle.std.proofs.Common.{⊎_elim, arith}
use Rattle.std.proofs.lemmas.Bool.{cases_eq}
use Rattle.std.proofs.lemmas.List.{get_or_default}
use Rattle.std.specs.Prelude.{IfSome}
use Rattle.det_mutex.specs.declared.lock.DetLock.{DetLock}
use Rattle.logical_clocks.specs.ThreadClocks.{clock_at}
use Rattle.logical_clocks.specs.TurnOrder.{is_before}
use Rattle.logical_clocks.specs.declared.clocks.ThreadClock.{ThreadClock}
use Rattle.lock_model.specs.Skipping.{first_from, turn_at}
use Rattle.posix_terms.specs.declared.limits.TheConstants.Limits as limit
use Rattle.posix_terms.specs.declared.transcript.Turn.{Turn}
use Rattle.lock_machine.specs.Skipping.{FailsUntil, IsDue, Opens, phase_of}
use Rattle.lock_machine.specs.Views.{no_item}
use Rattle.lock_machine.specs.declared.thread.Phase.{Phase}
use Rattle.lock_machine.specs.declared.thread.Thread.{Thread}

-- thread j does nothing but fail before any turn that is no later than this one
abbrev pub FailsBefore : DetLock → List DetLock → Turn → ℕ → ℕ → Phase → Type 0
FailsBefore table objects last j clock p = (turn : Turn) → turn.clock ≤ limit.CLOCK → is_before last turn ≡ false
    → FailsUntil table objects turn j clock p

-- of the first n threads
pub record IsLeast (table : DetLock) (objects : List DetLock) (ts : List Thread) (cs : List ThreadClock) (n : ℕ)
    (turn : Turn) : Type 0 where
  pub in_time : turn.clock ≤ limit.CLOCK
  pub within : (j : ℕ) → first_from turn j ≤ limit.CLOCK
  pub below : turn.thread ≤ n
  pub fails : (j : ℕ) → j < n → FailsBefore table objects turn j (clock_at cs j) (phase_of ts j)
  pub due : turn.clock < limit.CLOCK → IsDue table objects ts cs turn

no_later : (a b c : Turn) → is_before a b ≡ false → is_before b c ≡ false → is_before a c ≡ false
no_later a b c h g = grind arith

not_itself : (a : Turn) → is_before a a ≡ false
not_itself a = grind arith

pub none_least : (table : DetLock) (objects : List DetLock) (ts : List Thread) (cs : List ThreadClock)
    → IsLeast table objects ts cs 0 (record { clock = limit.CLOCK; thread = 0 })
none_least table objects ts cs =
    record {
      in_time = omega arith;
      within = at_limit;
      below = omega arith;
      fails = λ j l. absurd (omega arith);
      due = λ l. absurd (omega arith);
    }
  where
    at_limit : (j : ℕ) → first_from (record { clock = limit.CLOCK; thread = 0 }) j ≤ limit.CLOCK
    at_limit j = grind arith

-- what a thread opens at, if at any time
abbrev pub IsOpening : DetLock → List DetLock → ℕ → Phase → Option ℕ → Type 0
IsOpening table objects clock p o = (turn : Turn) (j : ℕ) → turn.clock ≤ limit.CLOCK
    → IfSome o (λ opens. is_before (turn_at j opens) turn ≡ false) → FailsUntil table objects turn j clock p

below_more : (table : DetLock) (objects : List DetLock) (ts : List Thread) (cs : List ThreadClock) (n : ℕ) (turn : Turn)
    → ((j : ℕ) → j < n → FailsBefore table objects turn j (clock_at cs j) (phase_of ts j))
    → FailsBefore table objects turn n (clock_at cs n) (phase_of ts n) → (j : ℕ) → j < n + 1
    → FailsBefore table objects turn j (clock_at cs j) (phase_of ts j)
below_more table objects ts cs n turn below here j l =
    ⊎_elim
    (λ (e : j ≡ n). subst (λ (k : ℕ). FailsBefore table objects turn k (clock_at cs k) (phase_of ts k)) (sym e) here)
    (λ (apart : j ≡ n → ⊥). below j (omega arith))
    (cases_eq j n)

pub later_opens : (table : DetLock) (objects : List DetLock) (ts : List Thread) (cs : List ThreadClock) (n : ℕ)
    (turn : Turn) (o : Option ℕ) → IsLeast table objects ts cs n turn
    → IsOpening table objects (clock_at cs n) (phase_of ts n) o → IfSome o (λ clock. turn.clock ≤ clock)
    → IsLeast table objects ts cs (n + 1) turn
later_opens table objects ts cs n turn o h opening late =
    record {
      in_time = h.in_time;
      within = h.within;
      below = let l = h.below in omega arith;
      fails = below_more table objects ts cs n turn h.fails
          (λ t room before. opening t n room (by_opening o late t before));
      due = h.due;
    }
  where
    behind : (a b t : Turn) → a.clock ≤ b.clock → a.thread ≤ b.thread → is_before a t ≡ false → is_before b t ≡ false
    behind a b t clock thread h = grind arith

    by_opening : (o : Option ℕ) → IfSome o (λ clock. turn.clock ≤ clock) → (t : Turn) → is_before turn t ≡ false
        → IfSome o (λ opens. is_before (turn_at n opens) t ≡ false)
    by_opening None late t before = tt
    by_opening (Some c) late t before = behind turn (turn_at n c) t late h.below before

pub earlier_opens : (table : DetLock) (objects : List DetLock) (ts : List Thread) (cs : List ThreadClock) (n clock : ℕ)
    (turn : Turn) → IsLeast table objects ts cs n turn
    → IsOpening table objects (clock_at cs n) (phase_of ts n) (Some clock) → n < length ts
    → Opens table objects (clock_at cs n) clock (phase_of ts n) → clock < turn.clock
    → IsLeast table objects ts cs (n + 1) (turn_at n clock)
earlier_opens table objects ts cs n clock turn h opening inside opens early =
    let in_time = h.in_time in
    record {
      in_time = omega arith;
      within = λ j. next_fits clock turn.clock j early h.in_time;
      below = omega arith;
      fails = below_more table objects ts cs n (turn_at n clock)
          (λ j l t room before. h.fails j l t room
          (no_later turn (turn_at n clock) t (later turn n clock early) before))
          (λ t room before. opening t n room before);
      due = λ l. record { inside = inside; opens = opens };
    }
  where
    next_fits : (clock most j : ℕ) → clock < most → most ≤ limit.CLOCK → first_from (turn_at n clock) j ≤ limit.CLOCK
    next_fits clock most j early room = grind arith

    later : (turn : Turn) (n clock : ℕ) → clock < turn.clock → is_before turn (turn_at n clock) ≡ false
    later turn n clock early = grind arith

pub least_fails : (table : DetLock) (objects : List DetLock) (ts : List Thread) (cs : List ThreadClock) (n : ℕ)
    (turn : Turn) → IsLeast table objects ts cs n turn → (j : ℕ) → j < n
    → FailsUntil table objects turn j (clock_at cs j) (phase_of ts j)
least_fails table objects ts cs n turn h j l = h.fails j l turn h.in_time (not_itself turn)

pub opening_at : (table : DetLock) (objects : List DetLock) (ts : List Thread) (n clock : ℕ) (d : Thread) (o : Option ℕ)
    → IsOpening table objects clock (let t : Thread = get_or ts n d in t.phase) o → n < length ts
    → IsOpening table objects clock (phase_of ts n) o
opening_at table objects ts n clock d o h inside = subst (λ (x : Thread). IsOpening table objects clock x.phase o)
    (get_or_default ts n d no_item inside) h

-- what a thread opens at, by its place
pub opens_at : (table : DetLock) (objects : List DetLock) (ts : List Thread) (n clock : ℕ) (d : Thread) (o : Option ℕ)
    → IfSome o (λ opens. Opens table objects clock opens (let t : Thread = get_or ts n d in t.phase)) → n < length ts
    → IfSome o (λ opens. Opens table objects clock opens (phase_of ts n))
opens_at table objects ts n clock d o h inside =
    subst (λ (x : Thread). IfSome o (λ opens. Opens table objects clock opens x.phase))
    (get_or_default ts n d no_item inside) h

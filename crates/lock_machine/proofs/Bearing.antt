-- Descriptions and objects are made in time.
use Rattle.std.proofs.Common.{◌≡◌, ℕ, ◌+◌, ◌*◌, ◌<◌, ◌≤◌, ◌^◌, List, length, replicate, set, ap, ◌∙◌, subst, sym, arith}
use Rattle.std.proofs.lemmas.List.{length-set}
use Rattle.std.proofs.lemmas.List.Sums.{sum_by-le, sum_by-set}
use Rattle.logical_clocks.specs.ThreadClocks.{AreWithinLimit, clock_at, first_clock, no_thread, thread_at}
use Rattle.logical_clocks.specs.declared.clocks.ThreadClock.{ThreadClock}
use Rattle.posix_terms.specs.declared.limits.TheConstants.Limits as limit
use Rattle.call_turns.specs.Store.{Stored, first_stored}
use Rattle.lock_machine.proofs.Joining.{agree_length}
use Rattle.lock_machine.specs.Lives.{Agree}
use Rattle.lock_machine.specs.Births.{BearsInTime, BornWithin, time_of}
use Rattle.lock_machine.specs.Threads.{KeepsOthers}
use Rattle.lock_machine.specs.declared.thread.Thread.{Thread}

-- an event leaves as many threads
pub few_kept : (ts : List Thread) (i : ℕ) (v : Thread) → length ts ≤ limit.THREADS → length (set ts i v) ≤ limit.THREADS
few_kept ts i v few = subst (λ (n : ℕ). n ≤ limit.THREADS) (sym (length-set ts i v)) few

-- there are no more clocks than threads
pub few_clocks : (ts : List Thread) (cs : List ThreadClock) → Agree ts cs → length ts ≤ limit.THREADS
    → length cs ≤ limit.THREADS
few_clocks ts cs agree few = subst (λ (n : ℕ). n ≤ limit.THREADS) (sym (agree_length ts cs agree)) few

-- nothing is made at the start
pub born_first : (n : ℕ) → BornWithin (2 * time_of (replicate n first_clock)) first_stored
born_first n =
    record {
      descriptions = none (time_of (replicate n first_clock));
      objects = none (time_of (replicate n first_clock));
    }
  where
    none : (time : ℕ) → 0 ≤ 2 * time
    none time = omega arith

-- so few threads make far less than there are numbers
pub few_born : (cs : List ThreadClock) (t : Stored) → length cs ≤ limit.THREADS → AreWithinLimit cs
    → BornWithin (2 * time_of cs) t → BornWithin (2 ^ 126) t
few_born cs t few within born =
    let most : time_of cs ≤ length cs * 2 ^ 62 = sum_by-le (λ (c : ThreadClock). c.clock) limit.CLOCK cs within in
    record {
      descriptions = below (length cs) (time_of cs) t.table.descriptions.made few most born.descriptions;
      objects = below (length cs) (time_of cs) t.table.made_objects few most born.objects;
    }
  where
    below : (n time made : ℕ) → n ≤ limit.THREADS → time ≤ n * 2 ^ 62 → made ≤ 2 * time → made ≤ 2 ^ 126
    below n time made few most born = omega arith

-- nothing is made
pub bears_none : (before after : ℕ) (t : Stored) → before ≤ after → BearsInTime before t after t
bears_none before after t forward = record {
  descriptions = none t.table.descriptions.made before after forward;
  objects = none t.table.made_objects before after forward;
}
  where
    none : (n a b : ℕ) → a ≤ b → n + 2 * a ≤ n + 2 * b
    none n a b forward = omega arith

-- an event of thread i moves all clocks together by as much as its own
time_moved : (cs ds : List ThreadClock) (i : ℕ) (x v : Thread) → i < length cs → KeepsOthers i x cs v ds
    → time_of ds + clock_at cs i ≡ time_of cs + clock_at ds i
time_moved cs ds i x v inside h = ap (λ (l : List ThreadClock). time_of l + clock_at cs i) h.others
    ∙ sum_by-set (λ (c : ThreadClock). c.clock) cs i (thread_at ds i) no_thread inside

pub born_later : (cs ds : List ThreadClock) (i : ℕ) (x v : Thread) (old new : Stored) → i < length cs
    → KeepsOthers i x cs v ds → BearsInTime (clock_at cs i) old (clock_at ds i) new → BornWithin (2 * time_of cs) old
    → BornWithin (2 * time_of ds) new
born_later cs ds i x v old new inside h bears born =
    let moved = time_moved cs ds i x v inside h in
    record {
      descriptions = later (time_of cs) (time_of ds) (clock_at cs i) (clock_at ds i) old.table.descriptions.made
          new.table.descriptions.made moved bears.descriptions born.descriptions;
      objects = later (time_of cs) (time_of ds) (clock_at cs i) (clock_at ds i) old.table.made_objects
          new.table.made_objects moved bears.objects born.objects;
    }
  where
    later : (s t a b m n : ℕ) → t + a ≡ s + b → n + 2 * a ≤ m + 2 * b → m ≤ 2 * s → n ≤ 2 * t
    later s t a b m n moved bears born = omega arith

-- and one that makes nothing
pub born_still : (cs ds : List ThreadClock) (i : ℕ) (x v : Thread) (t : Stored) → i < length cs
    → KeepsOthers i x cs v ds → BornWithin (2 * time_of cs) t → BornWithin (2 * time_of ds) t
born_still cs ds i x v t inside h born =
    born_later cs ds i x v t t inside h (bears_none (clock_at cs i) (clock_at ds i) t h.forward) born

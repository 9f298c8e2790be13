use Rattle.std.proofs.Common.{◌≡◌, ℕ, ◌<◌, map, take, Some, Ok, Err}
use Rattle.expectations.specs.Expected.{expected_at, expected_before, seen_of}
use Rattle.expectations.specs.declared.fault.Reason.{Reason}
use Rattle.expectations.proofs.expected.expectations_of.Given as goal

-- the lines so far are seen, and their expectations are good and are these
abbrev pub invariant-loop-i : goal.invariant-loop-i
invariant-loop-i l =
    let texts = map (λ line. line.now) l.lines.items in
    record {
      above : l.above ≡ seen_of (take l.i texts);
      so_far : expected_before texts l.i ≡ map (λ e. Ok e) l.expectations.items;
      good : (j : ℕ) → j < l.i → (why : Reason) → expected_at texts j ≡ Some (Err why) → ⊥;
    }

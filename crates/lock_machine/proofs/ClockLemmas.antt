-- An event of a thread changes no clock but its own.
use Rattle.std.proofs.Common.{◌≡◌, ℕ, ◌<◌, ◌≤◌, List, length, set, sym, ap, ◌∙◌, subst, arith}
use Rattle.std.proofs.lemmas.List.{get_or-set_same, set-get_or}
use Rattle.logical_clocks.specs.ThreadClocks.{clock_at, no_thread, thread_at}
use Rattle.logical_clocks.specs.declared.clocks.ThreadClock.{ThreadClock}
use Rattle.lock_machine.specs.Lives.{is_live}
use Rattle.lock_machine.specs.Threads.{KeepsOthers}
use Rattle.lock_machine.specs.declared.thread.Thread.{Thread}

kept_by : (i : ℕ) (t u : Thread) (cs ds : List ThreadClock) (c : ThreadClock) → i < length cs → ds ≡ set cs i c
    → clock_at cs i ≤ c.clock
    → ((let b : ThreadClock = thread_at cs i in b.live) ≡ is_live t.phase → c.live ≡ is_live u.phase)
    → KeepsOthers i t cs u ds
kept_by i t u cs ds c inside is forward live =
    let own : thread_at ds i ≡ c = ap (λ (xs : List ThreadClock). thread_at xs i) is
    ∙ get_or-set_same cs i c no_thread inside in
    record {
      others = is ∙ ap (set cs i) (sym own);
      forward = subst (λ (x : ThreadClock). clock_at cs i ≤ x.clock) (sym own) forward;
      live = λ h. ap (λ (x : ThreadClock). x.live) own ∙ live h;
    }

-- nothing has changed in its clock
pub kept_still : (i : ℕ) (t u : Thread) (cs ds : List ThreadClock) → i < length cs → ds ≡ cs
    → is_live t.phase ≡ is_live u.phase → KeepsOthers i t cs u ds
kept_still i t u cs ds inside is same =
    kept_by i t u cs ds (thread_at cs i) inside (is ∙ sym (set-get_or cs i no_thread)) (omega arith) (λ h. h ∙ same)

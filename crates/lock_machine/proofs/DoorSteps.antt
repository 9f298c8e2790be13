-- The phase of a thread that an event changed.
use Rattle.std.proofs.Common.{◌≡◌, ℕ, ◌<◌, List, length, get_or, set, true, refl, sym, ap, ◌∙◌, subst}
use Rattle.std.proofs.lemmas.List.{get_or-set_same, length-set}
use Rattle.logical_clocks.specs.declared.clocks.ThreadClock.{ThreadClock}
use Rattle.lock_machine.specs.Refusals.{wants_object}
use Rattle.lock_machine.specs.Shows.{WantsIn}
use Rattle.lock_machine.specs.Threads.{Thread as Seen, joined}
use Rattle.lock_machine.specs.Views.{no_item, no_thread}
use Rattle.lock_machine.specs.declared.thread.Phase.{Phase}
use Rattle.lock_machine.specs.declared.thread.Phase.TheVariants as phase
use Rattle.lock_machine.specs.declared.thread.Thread.{Thread}
use Rattle.lock_machine.proofs.Joining.{get-joined}

pub phase_set : (ts : List Thread) (cs : List ThreadClock) (i : ℕ) (v : Thread) → i < length ts
    → (let t : Seen = get_or (joined (set ts i v) cs) i no_thread in t.phase) ≡ v.phase
phase_set ts cs i v inside =
    ap (λ (t : Seen). t.phase)
    (get-joined (set ts i v) cs i (subst (λ (n : ℕ). i < n) (sym (length-set ts i v)) inside))
    ∙ ap (λ (t : Thread). t.phase) (get_or-set_same ts i v no_item inside)

pub wants_in : (p : Phase) (object : ℕ) → WantsIn p object → wants_object p ≡ true
wants_in (phase.WantsObject call carried clock other) object h = refl
wants_in p object h = absurd h

-- The clocks of a run are those of the lock machine.
use Rattle.std.proofs.Common.{◌≡◌, ℕ, ◌<◌, List, length, sym, ap, ◌∙◌, subst}
use Rattle.std.proofs.lemmas.List.{get_or-map, length-map, same_lists}
use Rattle.lock_model.specs.State as lock
use Rattle.lock_model.specs.State.{Row, State, live_clock, live_clock_in, live_clocks, nobody, thread_of}
use Rattle.lock_machine.specs.Conditions.{Conditions}
use Rattle.lock_machine.specs.Shows.{PhaseShows, Shows, ThreadShows}
use Rattle.lock_machine.specs.Whole.{Whole, thread_at}
use Rattle.lock_machine.specs.Views.{clocks_of, live_clock_of, live_in, no_thread}
use Rattle.lock_machine.specs.declared.thread.Phase.{Phase}
use Rattle.lock_machine.specs.declared.thread.Phase.TheVariants as phase
use Rattle.lock_machine.specs.Threads.{Thread}

live_phase : (terms : Conditions) (i : ℕ) (rows : List Row) (t : Thread) (u : lock.Thread) (p : Phase) (c : ℕ)
    → PhaseShows terms i rows t u p → live_clock_in u.phase c ≡ live_in p c
live_phase terms i rows t u phase.Working c h = ap (λ (p : lock.Phase). live_clock_in p c) h
live_phase terms i rows t u (phase.WantsTable call carried) c h = ap (λ (p : lock.Phase). live_clock_in p c) h
live_phase terms i rows t u (phase.WantsObject call carried clock object) c h =
    ap (λ (p : lock.Phase). live_clock_in p c) h.1.0
live_phase terms i rows t u (phase.Granted place object e) c h = ap (λ (p : lock.Phase). live_clock_in p c) h.1.0
live_phase terms i rows t u (phase.ToOutside outing) c h = ap (λ (p : lock.Phase). live_clock_in p c) h.1.0
live_phase terms i rows t u (phase.Outside outing) c h = ap (λ (p : lock.Phase). live_clock_in p c) h.1.0
live_phase terms i rows t u (phase.Recorded outing) c h = ap (λ (p : lock.Phase). live_clock_in p c) h.1.0
live_phase terms i rows t u (phase.Blocked carried) c h = ap (λ (p : lock.Phase). live_clock_in p c) h.1
live_phase terms i rows t u phase.Ended c h = ap (λ (p : lock.Phase). live_clock_in p c) h

live_thread : (terms : Conditions) (i : ℕ) (rows : List Row) (t : Thread) (u : lock.Thread)
    → ThreadShows terms i rows t u → live_clock u ≡ live_clock_of t
live_thread terms i rows t u h = ap (live_clock_in u.phase) h.clock
    ∙ live_phase terms i rows t u t.phase t.clock h.phase

pub clocks_shown : (terms : Conditions) (w : Whole) (s : State) → Shows terms w s → live_clocks s ≡ clocks_of w.threads
clocks_shown terms w s h =
    let clocks : length (live_clocks s) ≡ length s.threads = length-map s.threads live_clock in
    let seen : length (clocks_of w.threads) ≡ length w.threads = length-map w.threads live_clock_of in
    same_lists (live_clocks s) (clocks_of w.threads) (clocks ∙ h.count ∙ sym seen) (λ k d inside.
    let within : k < length s.threads = subst (λ (n : ℕ). k < n) clocks inside in
    get_or-map live_clock s.threads k nobody d within
    ∙ live_thread terms k s.rows (thread_at w k) (thread_of s k) (h.threads k)
    ∙ sym (get_or-map live_clock_of w.threads k no_thread d (subst (λ (n : ℕ). k < n) h.count within)))

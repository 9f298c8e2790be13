use Rattle.std.proofs.Common.{◌∙◌, ◌<◌, ◌++◌, [], append_assoc, ap, arith, rules, sym, List}
use Rattle.fault_injection.specs.Places.{places_from}
use Rattle.fault_injection.specs.declared.places.Place.{Place}
use Rattle.fault_injection.proofs.Walking.{from_thread}
use Rattle.fault_injection.proofs.places.places_in.Goals as goal

pub loop-thread-preserved : goal.loop-thread-preserved
loop-thread-preserved c =
    let so_far = c.loop-thread.invariant in
    let inside : c.loop-thread.thread < c.args.threads = search rules in
    let next = from_thread (λ thread. places_from thread 0 [] c.args.history.now)
    c.loop-thread.thread c.args.threads inside in
    record {
      whole = rw c.in_ok-push_of_thread.ensures
          (append_assoc c.loop-thread.places.items _ _
          ∙ ap (λ (l : List Place). c.loop-thread.places.items ++ l) (sym next)
          ∙ so_far.whole);
      within = omega (arith, inside);
    }

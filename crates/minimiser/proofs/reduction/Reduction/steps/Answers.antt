use Rattle.std.proofs.Common.{◌≡◌, inl, inr, ℕ, ◌+◌, ◌<◌, ◌≤◌, ◌++◌, ◌∷◌, [], length, Contains}
use Rattle.std.proofs.Common.{true, subst, sym, rules}
use Rattle.minimiser.specs.Reductions.{is_kept}
use Rattle.minimiser.specs.declared.step.Removal.{Removal}
use Rattle.minimiser.specs.declared.step.Removal.TheVariants as step
use Rattle.minimiser.proofs.Keeping.{each_step, here_or_earlier, now_there, still_there}
use Rattle.minimiser.proofs.reduction.Reduction.steps.Goals as goal

pub loop-thread-preserved : goal.loop-thread-preserved
loop-thread-preserved c =
    let new : Removal = step.Thread c.loop-thread.thread in
    let old = c.loop-thread.steps.items in
    let all = c.push.new.self.items in
    let is : all ≡ old ++ new ∷ [] = search rules in
    record {
      lines = λ (thread line : ℕ).
          λ (kept : is_kept c.args.self.now (step.Line thread line) ≡ true).
          still_there old all new (step.Line thread line) is
          (c.loop-thread.invariant.lines thread line kept);
      threads = λ (thread : ℕ). λ (below : thread < c.loop-thread.thread + 1).
          elim (here_or_earlier c.loop-thread.thread thread below) [
            | inl same ↦
                subst (λ (n : ℕ). Contains all (step.Thread n)) (sym same)
                (now_there old all new is)
            | inr earlier ↦
                still_there old all new (step.Thread thread) is
                (c.loop-thread.invariant.threads thread earlier)
          ];
    }

pub returns : goal.returns
returns c =
    let kept = c.args.self.now in
    let all : length kept ≤ c.loop-thread.thread = search rules in
    each_step kept c.loop-thread.steps.items c.loop-thread.thread all
    c.loop-thread.invariant.lines c.loop-thread.invariant.threads

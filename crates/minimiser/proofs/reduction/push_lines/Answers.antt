use Rattle.std.proofs.Common.{◌≡◌, inl, inr, ℕ, ◌-◌, ◌<◌, ◌≤◌, ◌++◌, ◌∷◌, [], Contains}
use Rattle.std.proofs.Common.{rules, subst, sym}
use Rattle.minimiser.specs.declared.step.Removal.{Removal}
use Rattle.minimiser.specs.declared.step.Removal.TheVariants as step
use Rattle.minimiser.proofs.Keeping.{here_or_later, now_there, still_there}
use Rattle.minimiser.proofs.reduction.push_lines.Goals as goal

pub loop-line-preserved : goal.loop-line-preserved
loop-line-preserved c =
    let here = c.loop-line.line - 1 in
    let new : Removal = step.Line c.args.thread here in
    let old = c.loop-line.steps.items in
    let all = c.push.new.self.items in
    let is : all ≡ old ++ new ∷ [] = search rules in
    record {
      before = λ (step : Removal). λ (among : Contains c.args.steps.now.items step).
          still_there old all new step is (c.loop-line.invariant.before step among);
      lines = λ (line : ℕ). λ (from : here ≤ line). λ (below : line < c.args.lines).
          elim (here_or_later c.loop-line.line line from) [
            | inl same ↦
                subst (λ (n : ℕ). Contains all (step.Line c.args.thread n)) (sym same)
                (now_there old all new is)
            | inr later ↦
                still_there old all new (step.Line c.args.thread line) is
                (c.loop-line.invariant.lines line later below)
          ];
    }

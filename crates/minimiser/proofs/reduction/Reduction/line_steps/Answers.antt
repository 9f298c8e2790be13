use Rattle.std.proofs.Common.{◌≡◌, inl, inr, ℕ, ◌<◌, ◌≤◌, [], Contains, true, subst, sym, rules}
use Rattle.std.proofs.Common.{length}
use Rattle.std.proofs.Common.{arith}
use Rattle.std.specs.Prelude.{unwrap_or}
use Rattle.minimiser.specs.Reductions.{is_kept, kept_of}
use Rattle.minimiser.specs.declared.step.Removal.TheVariants as step
use Rattle.minimiser.proofs.Keeping.{here_or_earlier, kept_within, thread_of_line_within}
use Rattle.minimiser.proofs.reduction.Reduction.line_steps.Goals as goal

pub loop-thread-preserved : goal.loop-thread-preserved
loop-thread-preserved c thread line below is =
    let kept = c.args.self.now in
    let here = c.loop-thread.thread in
    let all = c.push_lines.new.steps.items in
    let now = c.in_ok-push_lines.ensures in
    elim (here_or_earlier here thread below) [
      | inl same ↦
          let at : is_kept kept (step.Line here line) ≡ true =
          subst (λ (n : ℕ). is_kept kept (step.Line n line) ≡ true) same is in
          let within : line < c.count_of.result =
          subst (λ (n : ℕ). line < n) (sym c.count_of.ensures)
          (kept_within (unwrap_or (kept_of kept here) []) line at) in
          subst (λ (n : ℕ). Contains all (step.Line n line)) (sym same) (now.lines line within)
      | inr earlier ↦
          now.before (step.Line thread line) (c.loop-thread.invariant thread line earlier is)
    ]

pub returns : goal.returns
returns c thread line is =
    let kept = c.args.self.now in
    let all : length kept ≤ c.loop-thread.thread = search rules in
    let within = thread_of_line_within kept thread line is in
    c.loop-thread.invariant thread line (omega (arith, within, all)) is

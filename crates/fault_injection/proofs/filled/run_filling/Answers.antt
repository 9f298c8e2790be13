use Rattle.std.proofs.Common.{◌≡◌, ◌+◌, ◌-◌, ◌∙◌, ℕ, suc, arith, rules, subst, sym, false, true}
use Rattle.std.proofs.Common.{Err, IfErr, Result}
use Rattle.std.proofs.lemmas.Result.{IfErr-weaker, IfOk-weaker}
use Rattle.call_machine.specs.declared.plain.Plain.{Plain}
use Rattle.explorer.specs.Runs.{IsFault}
use Rattle.explorer.specs.Subject.{Subject}
use Rattle.explorer.specs.declared.fault.RunFault.{RunFault}
use Rattle.fault_injection.specs.Filled.{IsFilledRun}
use Rattle.fault_injection.proofs.FilledRuns.{fault_stays, last_run, no_more, none_filled}
use Rattle.fault_injection.proofs.FilledRuns.{one_filled, one_more, run_stays, same_fault}
use Rattle.fault_injection.proofs.FilledRuns.{subject_of}
use Rattle.fault_injection.proofs.filled.run_filling.Goals as goal

pub returns-in_err-plain-clause-err : goal.returns-in_err-plain-clause-err
returns-in_err-plain-clause-err c =
    let first = subject_of c.args.texts.now c.args.outcomes.items c.args.settings in
    let fault : IsFault first c.in_err-plain.field-0.0 =
    fault_stays first c.loop.outcomes.items c.deref.result.now c.in_err-plain.field-0.0
    c.deref.ensures.value c.loop.invariant.lists c.in_err-plain.ensures.err in
    let is : c.from_residual.result ≡ Err c.in_err-plain.field-0.0 = search rules in
    subst (λ (r : Result Plain RunFault). IfErr r (IsFault first)) (sym is) fault

pub returns-then-not-branch-clause-ok : goal.returns-then-not-branch-clause-ok
returns-then-not-branch-clause-ok c =
    let first = subject_of c.args.texts.now c.args.outcomes.items c.args.settings in
    let now : Subject = record first { outcomes = c.loop.outcomes.items } in
    let run = c.in_ok-plain.plain in
    let none : c.in_ok-fill.field-0 ≡ false = search rules in
    c.loop.invariant.reaches run
    (no_more (c.args.most - c.loop.counter) c.args.filling now run
    (run_stays first c.loop.outcomes.items c.deref.result.now run c.deref.ensures.value
    c.in_ok-plain.ensures.ok)
    (none_filled c.in_ok-fill.field-0 c.fill.new.outcomes.items _ none
    c.in_ok-fill.ensures.filled))

pub loop-preserved : goal.loop-preserved
loop-preserved c =
    let first = subject_of c.args.texts.now c.args.outcomes.items c.args.settings in
    let now : Subject = record first { outcomes = c.loop.outcomes.items } in
    let run = c.in_ok-plain.plain in
    let one : c.in_ok-fill.field-0 ≡ true = search rules in
    let left = c.args.most - (c.loop.counter + 1) in
    let more : suc left ≡ c.args.most - c.loop.counter = omega (arith, c.loop-test.true) in
    record {
      reaches = λ plain later.
          c.loop.invariant.reaches plain
          (subst (λ (n : ℕ). IsFilledRun n c.args.filling now plain) more
          (one_more left c.args.filling now c.fill.new.outcomes.items run plain
          (run_stays first c.loop.outcomes.items c.deref.result.now run c.deref.ensures.value
          c.in_ok-plain.ensures.ok)
          (one_filled c.in_ok-fill.field-0 c.fill.new.outcomes.items _ one
          c.in_ok-fill.ensures.filled)
          later));
      lists = c.in_ok-fill.ensures.length ∙ c.loop.invariant.lists;
      within = omega (arith, c.loop-test.true);
    }

pub returns-clause-ok : goal.returns-clause-ok
returns-clause-ok c =
    let first = subject_of c.args.texts.now c.args.outcomes.items c.args.settings in
    let now : Subject = record first { outcomes = c.loop.outcomes.items } in
    let none : 0 ≡ c.args.most - c.loop.counter = omega (arith, c.loop-test.false) in
    IfOk-weaker c.run_texts.result _ _
    (λ run is.
    c.loop.invariant.reaches run
    (subst (λ (n : ℕ). IsFilledRun n c.args.filling now run) none
    (last_run c.args.filling now run is)))
    c.run_texts.ensures.ok

pub returns-clause-err : goal.returns-clause-err
returns-clause-err c =
    let first = subject_of c.args.texts.now c.args.outcomes.items c.args.settings in
    IfErr-weaker c.run_texts.result _ _
    (λ fault is. same_fault first c.loop.outcomes.items fault c.loop.invariant.lists is)
    c.run_texts.ensures.err

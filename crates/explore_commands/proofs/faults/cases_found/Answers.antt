use Rattle.std.proofs.Common.{rules, ◌≡◌, ◌∙◌, ◌+◌, ◌<◌, ◌≤◌, ℕ, List, arith, length, subst, sym, take}
use Rattle.std.specs.List.{AllZip}
use Rattle.explorer.specs.Subject.{subject}
use Rattle.fault_injection.specs.declared.cases.FaultCase.{FaultCase}
use Rattle.explore_commands.specs.Injections.{IsCaseFinding}
use Rattle.explore_commands.proofs.Failing.{pairs_pushed, pushed_length}
use Rattle.explore_commands.proofs.faults.cases_found.Goals as goal

pub loop-alloc-smaller : goal.loop-alloc-smaller
loop-alloc-smaller g c =
    let made = c.len-made.result in
    let is : made ≡ length c.loop-alloc.findings.items = search rules in
    let some : 0 < c.min-count.result = search rules in
    let found = c.in_ok-found.found.items in
    let len : length found ≡ c.min-count.result =
    c.in_ok-found.ensures.len ∙ c.next_of-next.ensures.len in
    let grown = pushed_length found c.loop-alloc.findings.items c.push_all.new.findings.items
    c.in_ok-push_all.ensures in
    let before : length c.loop-alloc.findings.items < length c.args.cases.now = search rules in
    omega (arith, is, some, len, grown, before)

pub loop-alloc-preserved : goal.loop-alloc-preserved
loop-alloc-preserved g c =
    let cases = c.args.cases.now in
    let old = c.loop-alloc.findings.items in
    let new = c.push_all.new.findings.items in
    let found = c.in_ok-found.found.items in
    let next = c.next_of-next.result.now in
    let made = c.len-made.result in
    let count = c.min-count.result in
    let R = IsCaseFinding c.args.options (subject c.args.trial) c.args.before.observation.now
    c.args.before.looked.now in
    let is : length old ≡ made = search rules in
    let within : made + count ≤ length cases = search rules in
    let so_far = subst (λ (n : ℕ). AllZip R (take n cases) old) is c.loop-alloc.invariant.found in
    let pushed = c.in_ok-push_all.ensures in
    let all = pairs_pushed R next found (take made cases) old new so_far
    c.in_ok-found.ensures.len pushed c.in_ok-found.ensures.each in
    let grown : length new ≡ made + count =
    omega (
      arith,
      pushed_length found old new pushed,
      is,
      c.in_ok-found.ensures.len,
      c.next_of-next.ensures.len,
    ) in
    record {
      found = subst (λ (n : ℕ). AllZip R (take n cases) new) (sym grown)
          (subst (λ (l : List FaultCase). AllZip R l new) (sym c.next_of-next.ensures.more) all);
      within = omega (arith, grown, within);
    }

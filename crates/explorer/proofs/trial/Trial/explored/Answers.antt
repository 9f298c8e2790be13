use Rattle.std.proofs.Common.{rules, ◌≡◌, ◌⊎◌, ◌+◌, ◌-◌, ◌<◌, ◌≤◌, [], ℕ, Err, IfErr, List, Result, arith}
use Rattle.std.proofs.Common.{Option, inl, inr, length, slice_index_or, subst, sym}
use Rattle.std.specs.List.{range_with_len}
use Rattle.explorer.specs.Cases.{CasesJoin, IsFaultOf}
use Rattle.explorer.specs.Joining.{CaseGives, HasFault}
use Rattle.explorer.specs.Subject.{Subject, subject}
use Rattle.explorer.specs.declared.fault.RunFault.{RunFault}
use Rattle.explorer.specs.declared.fault.RunFault.TheVariants as fault
use Rattle.explorer.specs.declared.groups.Group.{Group}
use Rattle.explorer.specs.declared.observation.Observation.{Observation}
use Rattle.explorer.proofs.Grouping.{EachGives, all_runs_more, fault_among, next_cases, no_memory}
use Rattle.explorer.proofs.trial.Trial.explored.Goals as goal

-- why one of these cases was not made, where it was for want of memory or is among these
of_either : (tried : Subject) (delays : ℕ → ℕ → ℕ → Option ℕ) (start case end : ℕ)
    (seen : List (Result Observation RunFault)) (why : RunFault) → start ≤ case → case < end
    → case + length seen ≤ end → EachGives tried delays case seen
    → (why ≡ fault.Memory) ⊎ HasFault seen why → IsFaultOf tried delays start end why
of_either tried delays start case end seen why from before within each (inl none) =
    subst (IsFaultOf tried delays start end) (sym none)
    (no_memory tried delays start case end from before)
of_either tried delays start case end seen why from before within each (inr found) =
    fault_among tried delays start case end seen why from within each found

pub returns-in_err-join_all-clause-err : goal.returns-in_err-join_all-clause-err
returns-in_err-join_all-clause-err g c =
    let inv = c.loop-case.invariant in
    let tried = subject c.args.self in
    let delays = g.D.Delays.delays_of c.args.delays.now in
    let seen = c.in_ok-seen.seen.items in
    let case = c.loop-case.case in
    let end = c.args.cases.end in
    let why = c.in_err-join_all.field-0.0 in
    let count : length seen ≡ c.min-count.result = c.in_ok-seen.ensures.len in
    let less : c.min-count.result ≤ end - case = search rules in
    let before : case < end = c.loop-case-test.true in
    let each : EachGives tried delays case seen =
    λ i d inside.
    subst
    (λ (read : Subject). CaseGives read delays (case + i) (slice_index_or seen i d))
    c.new-read.ensures
    (c.in_ok-seen.ensures.each i d (omega (arith, inside, count))) in
    let is : c.from_residual-in_err-join_all.result ≡ Err why = search rules in
    subst
    (λ (r : Result (List Group) RunFault).
    IfErr r (IsFaultOf tried delays c.args.cases.start end))
    (sym is)
    (of_either tried delays c.args.cases.start case end seen why inv.from before
    (omega (arith, count, less, before)) each c.in_err-join_all.ensures.err)

pub loop-case-preserved : goal.loop-case-preserved
loop-case-preserved g c =
    let inv = c.loop-case.invariant in
    let tried = subject c.args.self in
    let delays = g.D.Delays.delays_of c.args.delays.now in
    let seen = c.in_ok-seen.seen.items in
    let case = c.loop-case.case in
    let start = c.args.cases.start in
    let end = c.args.cases.end in
    let now = c.join_all.new.groups in
    let count : length seen ≡ c.min-count.result = c.in_ok-seen.ensures.len in
    let less : c.min-count.result ≤ end - case = search rules in
    let before : case < end = c.loop-case-test.true in
    let each : EachGives tried delays case seen =
    λ i d inside.
    subst
    (λ (read : Subject). CaseGives read delays (case + i) (slice_index_or seen i d))
    c.new-read.ensures
    (c.in_ok-seen.ensures.each i d (omega (arith, inside, count))) in
    let joins = c.in_ok-join_all.ensures.ok in
    let more = all_runs_more case seen c.loop-case.groups now joins in
    record {
      joined = subst
          (λ (n : ℕ). CasesJoin tried delays [] (range_with_len start (case + n - start)) now) count
          (next_cases tried delays start case seen c.loop-case.groups now inv.from inv.joined joins
          each);
      counted = omega (arith, more, inv.counted, inv.from, count);
      from = omega (arith, inv.from);
      within = omega (arith, inv.from, less, before);
    }

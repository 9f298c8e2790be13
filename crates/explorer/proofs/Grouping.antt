-- How many runs there are in groups, and how the runs of cases join them.
use Rattle.std.proofs.Common.{◌≡◌, ◌+◌, ◌-◌, ◌<◌, ◌≤◌, ℕ, zero, suc, arith, All, List, []}
use Rattle.std.proofs.Common.{◌∷◌, ◌++◌, ap, ◌∙◌, refl, sym, subst, Option, None, Err}
use Rattle.std.proofs.Common.{inl, inr, get_or, length, Ok, Result}
use Rattle.std.specs.List.{range_with_len}
use Rattle.std.proofs.lemmas.List.Elements.{All-from_get_or}
use Rattle.std.proofs.lemmas.List.Sums.{get_or-le-sum_by, sum_by-set, sum_by_push}
use Rattle.std.proofs.lemmas.Option.{get_or_from_slice_get, slice_get_within}
use Rattle.call_machine.specs.Plain.{Runs}
use Rattle.call_machine.specs.Setup.{Inputs}
use Rattle.call_machine.specs.declared.fault.PlainFault.{PlainFault}
use Rattle.call_machine.specs.declared.fault.PlainFault.TheVariants as plain_fault
use Rattle.explorer.specs.Cases.{CaseJoins, CasesJoin, IsFaultOf, with_delays}
use Rattle.explorer.specs.Groups.{Joins, runs_of}
use Rattle.explorer.specs.Joining.{AllJoin, CaseGives, HasFault}
use Rattle.explorer.specs.Runs.{IsNotRun, Sees}
use Rattle.explorer.specs.declared.fault.RunFault.{RunFault}
use Rattle.explorer.specs.declared.fault.RunFault.TheVariants as fault
use Rattle.command_texts.specs.declared.first_fault.FirstFault.TheVariants as first_fault
use Rattle.explorer.specs.Subject.{Subject}
use Rattle.explorer.specs.declared.groups.Group.{Group}
use Rattle.explorer.specs.declared.observation.Observation.{Observation}

-- a run that joins is one more
pub one_more_run : (case : ℕ) (seen : Observation) (old new : List Group)
    → Joins case seen old new → runs_of new ≡ runs_of old + 1
one_more_run case seen old new (inl one) =
    let inside = slice_get_within old one.place one.group one.at in
    let here = get_or_from_slice_get old one.place one.group one.group one.at in
    let more = record one.group { runs = one.group.runs + 1 } in
    let sums = sum_by-set (λ (g : Group). g.runs) old one.place more one.group inside in
    ap runs_of one.joined ∙ omega (arith, sums, ap (λ (g : Group). g.runs) here)
one_more_run case seen old new (inr begins) =
    ap runs_of begins.begun
    ∙ sum_by_push (λ (g : Group). g.runs) old
    (record { first = case; runs = 1; observation = seen })

no_group : Group
no_group = record { first = 0; runs = 0; observation = record { seen = []; ended = []; stop = None; blocked = [] } }

-- no group has more runs than all together
pub each_below : (groups : List Group) (limit : ℕ) → runs_of groups + 1 < limit
    → All (λ (group : Group). group.runs + 1 < limit) groups
each_below groups limit less =
    All-from_get_or (λ (group : Group). group.runs + 1 < limit) groups no_group
    (λ i inside.
    let here = get_or-le-sum_by (λ (g : Group). g.runs) groups i no_group inside in
    omega (arith, here, less))

-- the cases and one more
pub one_more_case : (subject : Subject) (delays : ℕ → ℕ → ℕ → Option ℕ) (old mid new : List Group)
    (cases : List ℕ) (case : ℕ) → CasesJoin subject delays old cases mid
    → CaseJoins subject (delays case) case mid new
    → CasesJoin subject delays old (cases ++ case ∷ []) new
one_more_case subject delays old mid new [] case is joins =
    (new, subst (λ groups. CaseJoins subject (delays case) case groups new) is joins, refl)
one_more_case subject delays old mid new (first ∷ cases) case (joined, here, rest) joins =
    (joined, here, one_more_case subject delays joined mid new cases case rest joins)

range_more : (start n : ℕ)
    → range_with_len start (suc n) ≡ range_with_len start n ++ (start + n) ∷ []
range_more start zero = ap (λ (k : ℕ). k ∷ []) (omega arith)
range_more start (suc n) =
    ap (λ (ks : List ℕ). start ∷ ks)
    (range_more (start + 1) n
    ∙ ap (λ (k : ℕ). range_with_len (start + 1) n ++ k ∷ []) (omega arith))

-- the cases from this one on, and the next
pub next_case : (subject : Subject) (delays : ℕ → ℕ → ℕ → Option ℕ) (start case : ℕ)
    (mid new : List Group) → start ≤ case
    → CasesJoin subject delays [] (range_with_len start (case - start)) mid
    → CaseJoins subject (delays case) case mid new
    → CasesJoin subject delays [] (range_with_len start (case + 1 - start)) new
next_case subject delays start case mid new from joined joins =
    let one : case + 1 - start ≡ suc (case - start) = omega (arith, from) in
    let last : start + (case - start) ≡ case = omega (arith, from) in
    let before = range_with_len start (case - start) in
    let cases : range_with_len start (case + 1 - start) ≡ before ++ case ∷ [] =
    ap (range_with_len start) one ∙ range_more start (case - start)
    ∙ ap (λ (k : ℕ). before ++ k ∷ []) last in
    subst (λ (ks : List ℕ). CasesJoin subject delays [] ks new) (sym cases)
    (one_more_case subject delays [] mid new before case joined joins)

-- why there was no run
pub not_run : (input : Inputs) (why : PlainFault) → Runs (Err why) input → IsNotRun input why
not_run input plain_fault.Threads is = is
not_run input plain_fault.Settings is = is
not_run input plain_fault.Memory is = record {}

-- ## Many cases at a time

abbrev pub EachGives : Subject → (ℕ → ℕ → ℕ → Option ℕ) → ℕ → List (Result Observation RunFault)
    → Type 0
EachGives subject delays case seen =
    (i : ℕ) (d : Result Observation RunFault) → i < length seen
    → CaseGives subject delays (case + i) (get_or seen i d)

-- what is seen in the next cases joins the groups, as the cases do
pub next_cases : (subject : Subject) (delays : ℕ → ℕ → ℕ → Option ℕ) (start case : ℕ)
    (seen : List (Result Observation RunFault)) (mid new : List Group) → start ≤ case
    → CasesJoin subject delays [] (range_with_len start (case - start)) mid
    → AllJoin case seen mid new → EachGives subject delays case seen
    → CasesJoin subject delays [] (range_with_len start (case + length seen - start)) new
next_cases subject delays start case [] mid new from joined is each =
    subst (λ (n : ℕ). CasesJoin subject delays [] (range_with_len start n) new) (omega arith)
    (subst (λ (groups : List Group).
    CasesJoin subject delays [] (range_with_len start (case - start)) groups) (sym is) joined)
next_cases subject delays start case (Ok observation ∷ seen) mid new from joined
    (now, joins, later) each =
    let sees = subst (λ (k : ℕ). Sees (with_delays (delays k) subject) observation)
    (omega arith) (each 0 (Ok observation) (omega arith)) in
    let one = next_case subject delays start case mid now from joined
    (observation, sees, joins) in
    let shifted : EachGives subject delays (case + 1) seen = λ i d inside.
    subst (λ (k : ℕ). CaseGives subject delays k (get_or seen i d)) (omega arith)
    (each (suc i) d (omega (arith, inside))) in
    subst (λ (n : ℕ). CasesJoin subject delays [] (range_with_len start n) new) (omega arith)
    (next_cases subject delays start (case + 1) seen now new (omega (arith, from)) one later
    shifted)
next_cases subject delays start case (Err why ∷ seen) mid new from joined none each = elim none [ ]

pub all_runs_more : (case : ℕ) (seen : List (Result Observation RunFault)) (old new : List Group)
    → AllJoin case seen old new → runs_of new ≡ runs_of old + length seen
all_runs_more case [] old new is = omega (arith, ap runs_of is)
all_runs_more case (Ok observation ∷ seen) old new (now, joins, later) =
    let one = one_more_run case observation old now joins in
    omega (arith, one, all_runs_more (case + 1) seen now new later)
all_runs_more case (Err why ∷ seen) old new none = elim none [ ]

-- a run among them that was not made is one of these cases
pub fault_among : (subject : Subject) (delays : ℕ → ℕ → ℕ → Option ℕ) (start case end : ℕ)
    (seen : List (Result Observation RunFault)) (why : RunFault) → start ≤ case
    → case + length seen ≤ end → EachGives subject delays case seen → HasFault seen why
    → IsFaultOf subject delays start end why
fault_among subject delays start case end seen why from within each (i, at) =
    let inside = slice_get_within seen i (Err why) at in
    let read = get_or_from_slice_get seen i (Err why) (Err why) at in (
      case + i,
      omega (arith, from),
      omega (arith, within, inside),
      subst (CaseGives subject delays (case + i)) read (each i (Err why) inside),
    )

-- for want of memory any case was not made
pub no_memory : (subject : Subject) (delays : ℕ → ℕ → ℕ → Option ℕ) (start case end : ℕ)
    → start ≤ case → case < end → IsFaultOf subject delays start end fault.Memory
no_memory subject delays start case end from before =
    (case, from, before, inl (first_fault.Memory, refl, record {}))

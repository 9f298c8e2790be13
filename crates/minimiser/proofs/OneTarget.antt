-- One expectation at most is the first that is not met in a plain run.
use Rattle.std.proofs.Common.{◌≡◌, ◌⊎◌, inl, inr, ℕ, ◌<◌, List, All, length, take, ap, ◌∙◌}
use Rattle.std.proofs.Common.{slice_get, Option, Some, None, sym, subst, arith}
use Rattle.std.proofs.lemmas.Bool.{cases_order}
use Rattle.std.proofs.lemmas.List.{get_or-take, length-take}
use Rattle.std.proofs.lemmas.List.Elements.{All-get_or}
use Rattle.std.proofs.lemmas.Option.{get_or_from_slice_get, slice_get_within}
use Rattle.std.specs.List.{zip}
use Rattle.std.specs.Prelude.{◌↔◌, MatchOption}
use Rattle.posix_terms.specs.declared.reply.Reply.{Reply}
use Rattle.posix_terms.specs.declared.transcript.Row.{Row}
use Rattle.thread_scripts.specs.Words.{lines_of}
use Rattle.thread_scripts.specs.declared.line.Line.{Line}
use Rattle.expectations.specs.Laws.{NoneWhereMet, OneFirst, OneList}
use Rattle.expectations.specs.Unmet.{IsFirstUnmet}
use Rattle.expectations.specs.declared.unmet.Unmet.{Unmet}
use Rattle.expectations.specs.declared.expected.Expectation.{Expectation}
use Rattle.call_machine.specs.Plain.{IsPlainRun, OnePlainRun}
use Rattle.explorer.specs.Runs.{inputs_of}
use Rattle.explorer.specs.Observations.{observed}
use Rattle.explorer.specs.Subject.{Subject}
use Rattle.explorer.specs.declared.observation.Observation.{Observation}
use Rattle.minimiser.specs.Failing.{Fails, IsRunOf}
use Rattle.minimiser.specs.Targets.{Expects, IsAsExpected, IsFirstTarget, IsUnmetIn}
use Rattle.minimiser.specs.Targets.{came_of}
use Rattle.minimiser.specs.declared.target.Sameness.{Sameness}
use Rattle.minimiser.specs.declared.target.Target.{Target}

all_at : {A : Type 0} (P : A → Type 0) (xs : List A) (i : ℕ) (x : A) → All P xs
    → slice_get xs i ≡ Some x → P x
all_at P xs i x all at =
    subst P (get_or_from_slice_get xs i x x at)
    (All-get_or P xs i x (slice_get_within xs i x at) all)

all_before : {A : Type 0} (P : A → Type 0) (xs : List A) (n i : ℕ) (x : A) → All P (take n xs)
    → i < n → slice_get xs i ≡ Some x → P x
all_before P xs n i x all before at =
    let inside : i < length (take n xs) =
    omega (arith, length-take n xs, slice_get_within xs i x at, before) in
    subst P (get_or-take n xs i x before ∙ get_or_from_slice_get xs i x x at)
    (All-get_or P (take n xs) i x inside all)

-- one thing is seen at most
pub one_seen : (law : OnePlainRun) (subject : Subject) (seen other : Observation)
    → IsRunOf subject seen → IsRunOf subject other → seen ≡ other
one_seen law subject seen other a b =
    let (scripts, are, run) = a.sees.1 in
    let (others, also, other_run) = b.sees.1 in
    let same : scripts ≡ others = cc (are, also) in
    let one = law (inputs_of subject others) a.sees.0 b.sees.0
    (subst (λ (all : List (List Line)). IsPlainRun (inputs_of subject all) a.sees.0) same run)
    other_run in
    a.sees.2 ∙ ap observed one ∙ sym b.sees.2

-- a thread has one list of calls at most, and one of expectations
one_calls : (thread : List ℕ × List Row) (calls others : List (ℕ × Reply))
    (expectations more : List Expectation) → Expects thread calls expectations
    → Expects thread others more → calls ≡ others
one_calls thread calls others expectations more a b =
    let same : a.script ≡ b.script = cc (a.is_script, b.is_script) in
    cc (same, a.are_calls, b.are_calls)

one_list : (law : OneList) (thread : List ℕ × List Row) (calls others : List (ℕ × Reply))
    (expectations more : List Expectation) → Expects thread calls expectations
    → Expects thread others more → expectations ≡ more
one_list law thread calls others expectations more a b =
    law (lines_of thread.0) expectations more a.are_expected b.are_expected

-- the first that is not met is so for the same lists
along : (calls others : List (ℕ × Reply)) (expectations more : List Expectation) (first : Unmet)
    → calls ≡ others → expectations ≡ more → IsFirstUnmet expectations calls first
    → IsFirstUnmet more others first
along calls others expectations more first same alike is =
    subst (λ (all : List Expectation). IsFirstUnmet all others first) alike
    (subst (λ (all : List (ℕ × Reply)). IsFirstUnmet expectations all first) same is)

-- where all replies are as expected, none is not
apart : (list : OneList) (none : NoneWhereMet) (s : Sameness) (number : ℕ)
    (thread : List ℕ × List Row) (target : Target) → IsAsExpected thread
    → IsUnmetIn s number thread target → ⊥
apart list none s number thread target all unmet =
    let same = one_calls thread unmet.calls all.calls unmet.expectations all.expectations
    unmet.expects all.expects in
    let alike = one_list list thread unmet.calls all.calls unmet.expectations all.expectations
    unmet.expects all.expects in
    none all.expectations all.calls unmet.first all.met
    (along unmet.calls all.calls unmet.expectations all.expectations unmet.first same alike
    unmet.is_first)

-- and one at most is the first
one_in_thread : (list : OneList) (one : OneFirst) (s : Sameness) (number : ℕ)
    (thread : List ℕ × List Row) (target other : Target) → IsUnmetIn s number thread target
    → IsUnmetIn s number thread other → target ≡ other
one_in_thread list one s number thread target other a b =
    let same = one_calls thread a.calls b.calls a.expectations b.expectations a.expects b.expects in
    let alike =
    one_list list thread a.calls b.calls a.expectations b.expectations a.expects b.expects in
    let first : a.first ≡ b.first = one b.expectations b.calls a.first b.first
    (along a.calls b.calls a.expectations b.expectations a.first same alike a.is_first)
    b.is_first in
    let expectation : a.expectation ≡ b.expectation = cc (alike, first, a.at, b.at) in
    let call : a.is_first.call ≡ b.is_first.call =
    cc (same, first, a.is_first.at, b.is_first.at) in
    let made : Expectation → ℕ × Reply → Target =
    λ (e : Expectation). λ (call : ℕ × Reply). record {
      place = record { thread = number; call = e.call; line = e.line };
      came = came_of s call.1;
    } in
    a.is ∙ ap (λ (e : Expectation). made e a.is_first.call) expectation
    ∙ ap (made b.expectation) call ∙ sym b.is

-- ## All threads

-- the laws of runs and expectations
pub record Laws : Type 0 where
  pub run : OnePlainRun
  pub list : OneList
  pub none : NoneWhereMet
  pub first : OneFirst

-- of two threads with such a reply, the least one
not_before : (laws : Laws) (s : Sameness) (threads : List (List ℕ × List Row))
    (target other : Target) → (a : IsFirstTarget s threads target)
    → (b : IsFirstTarget s threads other) → ¬ (a.number < b.number)
not_before laws s threads target other a b before =
    let expected =
    all_before IsAsExpected threads b.number a.number a.thread b.before before a.at in
    apart laws.list laws.none s a.number a.thread target expected a.unmet

one_target : (laws : Laws) (s : Sameness) (threads : List (List ℕ × List Row))
    (target other : Target) → IsFirstTarget s threads target → IsFirstTarget s threads other
    → target ≡ other
one_target laws s threads target other a b = by_order (cases_order a.number b.number)
  where
    by_order : (a.number ≡ b.number) ⊎ ((a.number < b.number) ⊎ (b.number < a.number))
        → target ≡ other
    by_order (inl same) =
        let thread : a.thread ≡ b.thread = cc (same, a.at, b.at) in
        let here = subst (λ (n : ℕ). IsUnmetIn s n a.thread target) same a.unmet in
        let unmet = subst (λ (thread : List ℕ × List Row). IsUnmetIn s b.number thread target) thread
        here in
        one_in_thread laws.list laws.first s b.number b.thread target other unmet b.unmet
    by_order (inr (inl before)) = absurd (not_before laws s threads target other a b before)
    by_order (inr (inr after)) = absurd (not_before laws s threads other target b a after)

-- ## What is found

-- where nothing is run nothing fails
pub none_run : (s : Sameness) (subject : Subject)
    → ((seen : Observation) → ¬ (IsRunOf subject seen)) → (target : Target)
    → (None ≡ Some target) ↔ Fails s subject target
none_run s subject none target = (
  λ (is : None ≡ Some target). absurd (cc is),
  λ (fails : Fails s subject target). absurd (none fails.observation fails.run),
)

-- what is found in what is seen fails in the run
pub found_in : (laws : Laws) (s : Sameness) (subject : Subject) (seen : Observation) → IsRunOf subject seen
    → (found : Option Target)
    → MatchOption found (All IsAsExpected (zip subject.texts seen.seen))
    (IsFirstTarget s (zip subject.texts seen.seen))
    → (target : Target) → (found ≡ Some target) ↔ Fails s subject target
found_in laws s subject seen run None all target = (
  λ (is : None ≡ Some target). absurd (cc is),
  λ (fails : Fails s subject target).
      let same = one_seen laws.run subject fails.observation seen fails.run run in
      let first = subst (λ (o : Observation). IsFirstTarget s (zip subject.texts o.seen) target) same
      fails.first in
      let threads = zip subject.texts seen.seen in
      absurd (apart laws.list laws.none s first.number first.thread target
      (all_at IsAsExpected threads first.number first.thread all first.at) first.unmet),
)
found_in laws s subject seen run (Some found) is_first target = (
  λ (is : Some found ≡ Some target).
      let same : found ≡ target = cc is in
      record {
        observation = seen;
        run = run;
        first = subst (IsFirstTarget s (zip subject.texts seen.seen)) same is_first;
      },
  λ (fails : Fails s subject target).
      let same = one_seen laws.run subject fails.observation seen fails.run run in
      let first = subst (λ (o : Observation). IsFirstTarget s (zip subject.texts o.seen) target) same
      fails.first in
      ap Some (one_target laws s (zip subject.texts seen.seen) found target is_first first),
)

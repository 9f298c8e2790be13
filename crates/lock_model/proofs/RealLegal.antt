-- A history that is legal for the real calls is one of the sequential object.
use Rattle.std.proofs.Common.{◌≡◌, ◌≤◌, ℕ, suc, List, [], ◌∷◌, map, Option, Some, None, Bool, true, false, ◌&&◌, refl}
use Rattle.std.proofs.Common.{sym, ap, ◌∙◌, subst, if◌then◌else◌, ◌==◌, arith}
use Rattle.std.proofs.lemmas.Bool.{false≢true}
use Rattle.std.specs.Prelude.{is_none, is_some}
use Rattle.sequential_object.specs.Legal.{Answers, IsLegalFrom, MayBe, carried_after, carried_on}
use Rattle.sequential_object.specs.Locked as locked
use Rattle.sequential_object.specs.Locked.{LeavesAlike, LocksDoor, OutsideLocks, locked_object}
use Rattle.sequential_object.specs.Object as posix_object
use Rattle.sequential_object.specs.Step.{Carried, Stepped, asks, step}
use Rattle.posix_terms.specs.Calls.{Call}
use Rattle.posix_terms.specs.Outcomes.{fits, is_kind}
use Rattle.posix_terms.specs.Outcomes.{undated}
use Rattle.posix_terms.specs.declared.outcome.Given.{Given}
use Rattle.posix_terms.specs.declared.outcome.Outcome.{Outcome}
use Rattle.posix_terms.specs.declared.reply.Answer as posix
use Rattle.posix_terms.specs.declared.reply.Answer.TheVariants as answer
use Rattle.posix_terms.specs.declared.transcript.Settings.{Settings}
use Rattle.lock_model.specs.CallTable.{CallTable, goes_outside, keeps_table}
use Rattle.sequential_object.specs.declared.turn_end.TurnEnd.{TurnEnd}
use Rattle.sequential_object.specs.declared.turn_end.TurnEnd.TheVariants as turn_end
use Rattle.lock_model.specs.Legal as machine
use Rattle.lock_model.specs.Machine.{first_of}
use Rattle.sequential_object.specs.Numbers.{world_with}
use Rattle.lock_model.specs.RealCalls.{plan_of, real_calls, way_of}
use Rattle.sequential_object.specs.Answers.{answer_in, answered_with, answers_query, numbered, outcome_in}
use Rattle.lock_model.specs.State.{Row}
use Rattle.posix_terms.specs.Queries.{Query}
use Rattle.sequential_object.specs.Worlds.{World}
use Rattle.lock_model.specs.Rows.{shown, shown_answer}

shown_back : (a : posix.Answer) (b : Carried) → shown_answer (Some (answered_with a b)) ≡ Some a
shown_back (answer.Reply r) b = refl
shown_back answer.Again b = refl

carried_back : (a : posix.Answer) (b more : Carried) → turn_end.Blocked more ≡ answered_with a b → more ≡ b
carried_back (answer.Reply r) b more e = cc
carried_back answer.Again b more e = cc

chosen_same : (b : Bool) (x y u v : Carried) → x ≡ u → y ≡ v → (if b then x else y) ≡ (if b then u else v)
chosen_same true x y u v e f = e
chosen_same false x y u v e f = f

-- ## What a call locks, and whether it goes outside

abbrev goes : World → Call → Carried → Bool
goes w c b = is_some (asks w.object c b)

goes_by : (g keeps : Bool) (o : Option ℕ) → (g ≡ true → is_some o ≡ true)
    → goes_outside (plan_of (way_of g keeps) o) ≡ g
goes_by true keeps None h = absurd (false≢true (h refl))
goes_by true true (Some n) h = refl
goes_by true false (Some n) h = refl
goes_by false keeps None h = refl
goes_by false keeps (Some n) h = refl

keeps_by : (g keeps : Bool) (o : Option ℕ) → (g ≡ true → is_some o ≡ true)
    → keeps_table (plan_of (way_of g keeps) o) ≡ (g && keeps)
keeps_by true keeps None h = absurd (false≢true (h refl))
keeps_by true true (Some n) h = refl
keeps_by true false (Some n) h = refl
keeps_by false keeps None h = refl
keeps_by false keeps (Some n) h = refl

some_numbered : (w : World) (o : Option ℕ) → is_some (numbered w o) ≡ is_some o
some_numbered w None = refl
some_numbered w (Some object) = refl

-- a door that is locked is the lock of some object
some_locked : (s : posix_object.State) (keeps : Bool) (o : Option ℕ) → LocksDoor s keeps o → is_some o ≡ true
some_locked s keeps None h = absurd h
some_locked s keeps (Some object) h = refl

locks_number : OutsideLocks → (w : World) (c : Call) (b : Carried) → goes w c b ≡ true
    → is_some (numbered w (locked_object w.object c b)) ≡ true
locks_number locks w c b h =
    some_numbered w (locked_object w.object c b)
    ∙ some_locked w.object (locked.keeps_table c) (locked_object w.object c b) (locks w.object c b h)

goes_is : OutsideLocks → (settings : Settings) (w : World) (c : Call) (b : Carried)
    → goes_outside ((real_calls settings).plan w c b) ≡ goes w c b
goes_is locks settings w c b = goes_by (goes w c b) (locked.keeps_table c) (numbered w (locked_object w.object c b))
    (locks_number locks w c b)

keeps_is : OutsideLocks → (settings : Settings) (w : World) (c : Call) (b : Carried)
    → keeps_table ((real_calls settings).plan w c b) ≡ (goes w c b && locked.keeps_table c)
keeps_is locks settings w c b = keeps_by (goes w c b) (locked.keeps_table c) (numbered w (locked_object w.object c b))
    (locks_number locks w c b)

-- ## One row

some_outcome : (came : Option Given) → is_some (outcome_in came) ≡ is_some came
some_outcome None = refl
some_outcome (Some g) = refl

-- a row that was answered had its outcome, if it needed one
settled : (query : Option Query) (came : Option Given) (o : Option Outcome) → MayBe query (outcome_in came) o
    → is_some came ≡ is_some query → o ≡ outcome_in came
settled query (Some g) o may whole = may
settled (Some r) None o may whole = absurd (false≢true whole)
settled None None o may whole = may

not_none : {A : Type 0} (x : Option A) (a : A) → x ≡ Some a → is_none x ≡ false
not_none x a is = ap is_none is

-- the answer of a row is that of the step, with any outcome that the row may have
answers_now : OutsideLocks → (settings : Settings) (w : World) (b : Carried) (r : Row) (o : Option Outcome)
    → machine.IsRight (real_calls settings) w b r → MayBe (asks w.object r.call b) (outcome_in r.outcome) o
    → (a : TurnEnd) → r.answer ≡ Some a → a ≡ answer_in (step settings w.object r.call o b)
answers_now locks settings w b r o right may a is =
    let whole = right.whole (not_none r.answer a is) ∙ goes_is locks settings w r.call b in
    let same : o ≡ outcome_in r.outcome = settled (asks w.object r.call b) r.outcome o may whole in
    right.answer a is ∙ ap (λ (x : Option Outcome). answer_in (step settings w.object r.call x b)) (sym same)

answer_shown : (now : Stepped) (o : Option TurnEnd) (given : posix.Answer)
    → ((a : TurnEnd) → o ≡ Some a → a ≡ answer_in now) → shown_answer o ≡ Some given → given ≡ now.answer
answer_shown now None given right e = cc
answer_shown now (Some a) given right e =
    let back : Some given ≡ Some now.answer = sym e ∙ ap (λ (x : TurnEnd). shown_answer (Some x)) (right a refl)
    ∙ shown_back now.answer now.carried in cc

-- a thread carries the same in both definitions after a row, if it did so before
carried_same : (settings : Settings) (now : Stepped) (o : Option TurnEnd) (x y : Carried) → x ≡ y
    → ((a : TurnEnd) → o ≡ Some a → a ≡ answer_in now)
    → machine.carried_after (real_calls settings) x o ≡ carried_after y (shown_answer o) now
carried_same settings now None x y same right = same
carried_same settings now (Some (turn_end.Reply reply)) x y same right = refl
carried_same settings now (Some (turn_end.Blocked more)) x y same right =
    carried_back now.answer now.carried more (right (turn_end.Blocked more) refl)

second : (b c : Bool) → (b && c) ≡ true → c ≡ true
second true c e = e
second false c e = absurd (false≢true e)

-- a clock does not matter to a query
at_any_clock : (query : Option Query) (g : Given) → answers_query query (undated g) ≡ answers_query query g
at_any_clock (Some q) g = refl
at_any_clock None g = refl

outcome_right : (query : Option Query) (came : Option Given)
    → ((g : Given) → came ≡ Some g → answers_query query g ≡ true) → Answers query (outcome_in came)
outcome_right (Some r) (Some g) right = second (is_kind g.kind r.kind) (fits r.kind r.asked g.outcome) (right g refl)
outcome_right (Some r) None right = tt
outcome_right None (Some g) right = absurd (false≢true (right g refl))
outcome_right None None right = refl

answer_some : (o : Option TurnEnd) (given : posix.Answer) → shown_answer o ≡ Some given → is_none o ≡ false
answer_some None given e = cc
answer_some (Some a) given e = refl

-- ## The state after a row

-- an outcome that a row may have, as what comes for its query
abbrev given_of : Option Query → Option Outcome → Option Given
given_of (Some r) (Some x) = Some (record { kind = r.kind; clock = None; outcome = x })
given_of (Some r) None = None
given_of None o = None

-- it completes the row
completed_by : (query : Option Query) (came : Option Given) (o : Option Outcome) → MayBe query (outcome_in came) o
    → is_some query ≡ true → (g : Given) × ((first_of came (given_of query o) ≡ Some g) × (o ≡ Some g.outcome))
completed_by query (Some g) o may asks = (g, (refl, may))
completed_by (Some r) None (Some x) may asks = (record { kind = r.kind; clock = None; outcome = x }, (refl, refl))
completed_by (Some r) None None may asks = absurd (false≢true may.0)
completed_by None None o may asks = absurd (false≢true asks)

no_outcome : (query : Option Query) (came : Option Given) (o : Option Outcome) → MayBe query (outcome_in came) o
    → is_some query ≡ false → ((g : Given) → came ≡ Some g → is_some query ≡ true) → o ≡ None
no_outcome query (Some g) o may inside right = absurd (false≢true (sym inside ∙ right g refl))
no_outcome (Some r) None o may inside right = absurd (false≢true (sym inside))
no_outcome None None o may inside right = may

leaves : LeavesAlike → (settings : Settings) (w : World) (c : Call) (b : Carried) (came : Option Given)
    (o : Option Outcome) → MayBe (asks w.object c b) (outcome_in came) o
    → ((g : Given) → came ≡ Some g → is_some (asks w.object c b) ≡ true)
    → (g keeps : Bool) → goes w c b ≡ g → locked.keeps_table c ≡ keeps
    → (machine.changed (real_calls settings) w c b (machine.completed g came (given_of (asks w.object c b) o))
    (g && keeps)).object ≡ (step settings w.object c o b).after
unfolding world_with
leaves alike settings w c b came o may right true true goes keeps =
    let (x, (first, is)) = completed_by (asks w.object c b) came o may goes in
    ap (λ (y : Option Given). (machine.changed (real_calls settings) w c b y true).object) first
    ∙ ap (λ (y : Option Outcome). (step settings w.object c y b).after) (sym is)
leaves alike settings w c b came o may right true false goes keeps = sym (alike settings w.object c o b keeps)
leaves alike settings w c b came o may right false keep goes keeps =
    ap (λ (y : Option Outcome). (step settings w.object c y b).after)
    (sym (no_outcome (asks w.object c b) came o may goes right))

-- ## All rows

-- only the places of the rows count
legal_at : (calls : CallTable) (one other : ℕ → Option Given) (k : ℕ) (w : World) (c : ℕ → Carried) (rows : List Row)
    → ((j : ℕ) → k ≤ j → one j ≡ other j) → machine.IsLegal calls one k w c rows
    → machine.IsLegal calls other k w c rows
legal_at calls one other k w c [] same h = tt
legal_at calls one other k w c (r ∷ rows) same (right, rest) =
    let b = c r.turn.thread in
    let plan = calls.plan w r.call b in
    let K : Option Given → Type 0 =
    λ x. machine.IsLegal calls other (suc k)
    (machine.changed calls w r.call b (machine.completed (goes_outside plan) r.outcome x) (keeps_table plan))
    (machine.handed_on calls c r) rows in (
      right,
      subst K (same k (omega arith))
          (legal_at calls one other (suc k)
          (machine.changed calls w r.call b (machine.completed (goes_outside plan) r.outcome (one k))
          (keeps_table plan))
          (machine.handed_on calls c r) rows (λ j l. same j (omega arith)) rest),
    )

-- with this outcome at one place
abbrev at_place : ℕ → Option Given → (ℕ → Option Given) → ℕ → Option Given
at_place k o chosen j = if j == k then o else chosen j

place_there : (k : ℕ) (o : Option Given) (chosen : ℕ → Option Given) → at_place k o chosen k ≡ o
place_there k o chosen = grind arith

place_after : (k : ℕ) (o : Option Given) (chosen : ℕ → Option Given) (j : ℕ) → suc k ≤ j
    → at_place k o chosen j ≡ chosen j
place_after k o chosen j l = grind arith

-- what the threads carry is the same in both definitions
pub legal_shown : OutsideLocks → LeavesAlike
    → (settings : Settings) (k : ℕ) (w : World) (c d : ℕ → Carried) (rows : List Row) → ((i : ℕ) → c i ≡ d i)
    → ((chosen : ℕ → Option Given) → machine.IsLegal (real_calls settings) chosen k w c rows)
    → IsLegalFrom settings w.object d (map shown rows)
legal_shown locks alike settings k w c d [] same h = tt
legal_shown locks alike settings k w c d (r ∷ rows) same h = λ o may.
    let calls = real_calls settings in
    let i = r.turn.thread in
    let M : Carried → Type 0 = λ b. machine.IsRight calls w b r in
    let right : M (d i) = subst M (same i) (h (λ j. None)).0 in
    let now : Stepped = step settings w.object r.call o (d i) in
    let answers : (a : TurnEnd) → r.answer ≡ Some a
    → a ≡ answer_in now = answers_now locks settings w (d i) r o right may in
    let chosen_here : Option Given = given_of (asks w.object r.call (d i)) o in
    let out : (x : Given) → r.outcome ≡ Some x
    → is_some (asks w.object r.call (d i)) ≡ true = λ x is. sym (goes_is locks settings w r.call (d i))
    ∙ (right.outcome x is).0 in
    let W : Bool → Bool → Carried → World =
    λ g keeps b. machine.changed calls w r.call b (machine.completed g r.outcome chosen_here) keeps in
    let plan = calls.plan w r.call (d i) in
    let behind : (W (goes_outside plan) (keeps_table plan) (d i)).object ≡ now.after =
    ap (λ (g : Bool). (W g (keeps_table plan) (d i)).object) (goes_is locks settings w r.call (d i))
    ∙ ap (λ (keeps : Bool). (W (goes w r.call (d i)) keeps (d i)).object) (keeps_is locks settings w r.call (d i))
    ∙ leaves alike settings w r.call (d i) r.outcome o may out (goes w r.call (d i)) (locked.keeps_table r.call) refl
    refl in
    let Q : posix_object.State → Type 0 = λ x. IsLegalFrom settings x (carried_on d (shown r) now) (map shown rows) in
    let next : World = W (goes_outside plan) (keeps_table plan) (d i) in
    let K : (ℕ → Option Given) → Carried
    → Type 0 = λ chosen b. machine.IsLegal calls chosen (suc k)
    (machine.changed calls w r.call b
    (machine.completed (goes_outside (calls.plan w r.call b)) r.outcome chosen_here)
    (keeps_table (calls.plan w r.call b))) (machine.handed_on calls c r) rows in
    let L : (ℕ → Option Given) → Option Given
    → Type 0 = λ chosen x. machine.IsLegal calls chosen (suc k)
    (machine.changed calls w r.call (c i)
    (machine.completed (goes_outside (calls.plan w r.call (c i))) r.outcome x)
    (keeps_table (calls.plan w r.call (c i)))) (machine.handed_on calls c r) rows in
    let rest : (chosen : ℕ → Option Given) → K chosen (d i) =
    λ chosen. subst (K chosen) (same i)
    (legal_at calls (at_place k chosen_here chosen) chosen (suc k)
    (machine.changed calls w r.call (c i)
    (machine.completed (goes_outside (calls.plan w r.call (c i))) r.outcome chosen_here)
    (keeps_table (calls.plan w r.call (c i)))) (machine.handed_on calls c r) rows
    (place_after k chosen_here chosen)
    (subst (L (at_place k chosen_here chosen)) (place_there k chosen_here chosen)
    (h (at_place k chosen_here chosen)).1)) in (
      record {
        answer_is = λ given is. answer_shown now r.answer given answers is;
        outcome_is = outcome_right (asks w.object r.call (d i)) r.outcome
            (λ x is. sym (at_any_clock (asks w.object r.call (d i)) x) ∙ (right.outcome x is).1);
        outcome_came = λ given is. some_outcome r.outcome ∙ right.whole (answer_some r.answer given is)
            ∙ goes_is locks settings w r.call (d i);
      },
      subst Q behind
          (legal_shown locks alike settings (suc k) next (machine.handed_on calls c r) (carried_on d (shown r) now) rows
          (λ j. chosen_same (i == j) (machine.carried_after calls (c j) r.answer) (c j)
          (carried_after (d j) (shown_answer r.answer) now) (d j)
          (carried_same settings now r.answer (c j) (d j) (same j) answers) (same j))
          rest),
    )

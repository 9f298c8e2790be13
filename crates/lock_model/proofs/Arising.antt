-- Each event leads from a state that arises to one that arises.
use Rattle.std.proofs.Common.{◌≡◌, ℕ, zero, suc, List, [], ◌∷◌, ◌++◌, length, slice_get, Option, Some, None, Bool, true}
use Rattle.std.proofs.Common.{false, is_some, cond, nat_le, sym, refl, ap, ◌∙◌, subst, inr, ⊎_elim}
use Rattle.std.proofs.lemmas.Bool.{le-leb, cond-true, cases_Bool}
use Rattle.std.proofs.lemmas.Option.{same_Some, none-some, slice_get_within}
use Rattle.lock_model.specs.CallTable.{CallTable}
use Rattle.lock_model.specs.History.{IsPrefixOf}
use Rattle.lock_model.specs.Laws.{Begins, DatedOfArisen}
use Rattle.lock_model.specs.Machine.{Setup, Moved, Event, quiet, quietly, after_step, ask, fits_job, with_outcome}
use Rattle.lock_model.specs.Machine.{record_outcome, moves_in, within, moves, move, advance, can_attempt, attempt}
use Rattle.lock_model.specs.Machine.{is_allowed, happens}
use Rattle.lock_model.specs.Machine.Event.{Advances, Attempts}
use Rattle.lock_model.specs.Programs.{Supply, Finite}
use Rattle.posix_terms.specs.declared.step.Step.{Step}
use Rattle.posix_terms.specs.declared.step.Step.TheVariants as step
use Rattle.lock_model.specs.Runs.{Arises, Becomes, IsRun, Supplies, run, supplied, own}
use Rattle.lock_model.specs.Schedule.{EndsIn}
use Rattle.lock_model.specs.State.{Job, Phase, Thread, State, thread_of, start}
use Rattle.lock_model.specs.State.Phase.{Working, Outside, Recorded}
use Rattle.sequential_object.specs.Worlds.{World}
use Rattle.posix_terms.specs.Outcomes.{dated}
use Rattle.posix_terms.specs.declared.outcome.Given.{Given}
use Rattle.posix_terms.specs.declared.reply.Reply.{Reply}
use Rattle.lock_model.specs.Legal.{IsLegalHistory}
use Rattle.lock_model.proofs.Commute.{advance_move}
use Rattle.lock_model.proofs.Dating.{dated_alike, dated_fits, fits_alike, fitting_becomes, supplies_itself}
use Rattle.lock_model.proofs.Turn.{moves_out, thread_moved}
use Rattle.lock_model.proofs.Attempt.{move_of}
use Rattle.lock_model.proofs.Diamond.{not_allowed}
use Rattle.lock_model.proofs.Growth.{Adds, adds_event}
use Rattle.lock_model.proofs.Kept.{run_keeps}
use Rattle.lock_model.proofs.Legal.{legal_law, dated_rows}
use Rattle.lock_model.proofs.Begins.{prefix_law}

-- ## Lists

slice_get-append : {A : Type 0} (xs ys : List A) (n : ℕ) (x : A) → slice_get xs n ≡ Some x
    → slice_get (xs ++ ys) n ≡ Some x
slice_get-append [] ys n x h = absurd (none-some x h)
slice_get-append (y ∷ xs) ys zero x h = h
slice_get-append (y ∷ xs) ys (suc n) x h = slice_get-append xs ys n x h

pub slice_get-push : {A : Type 0} (xs : List A) (x : A) → slice_get (xs ++ x ∷ []) (length xs) ≡ Some x
slice_get-push [] x = refl
slice_get-push (y ∷ xs) x = slice_get-push xs x

pub slice_get-prefix : {A : Type 0} (xs ys : List A) (n : ℕ) (x : A) → IsPrefixOf xs ys → slice_get xs n ≡ Some x
    → slice_get ys n ≡ Some x
slice_get-prefix xs ys n x (rest, e) h = ap (λ (l : List _). slice_get l n) (sym e) ∙ slice_get-append xs rest n x h

-- ## Events under another supply

-- what an event takes from its supply, another supply has too
pub record Gives_as (calls : CallTable) (given more : Supply) (i : ℕ) (t u : Thread) : Type 0 where
  pub next : (x : Step) → t.phase ≡ Working → given.next i t.asked t.replies ≡ Some x → u.asked ≡ t.asked ++ x ∷ []
      → more.next i t.asked t.replies ≡ Some x
  pub outcome : (job : Job) (o : Given) → t.phase ≡ Outside job → slice_get (given.outcomes i) (length t.came) ≡ Some o
      → fits_job calls job o ≡ true
      → u.came ≡ t.came ++ dated job.turn o ∷ [] → Supplies (more.outcomes i) (length t.came) (dated job.turn o)

step_asked : (calls : CallTable) (t : Thread) (x : Step) → (after_step calls t x).asked ≡ t.asked ++ x ∷ []
step_asked calls t (step.Work n) = refl
step_asked calls t (step.Call c) = refl
step_asked calls t step.End = refl

ask_more : (calls : CallTable) (t : Thread) (o p : Option Step) (m : Moved)
    → ((x : Step) → o ≡ Some x → m.thread.asked ≡ t.asked ++ x ∷ [] → p ≡ Some x) → ask calls t o ≡ Some m
    → ask calls t p ≡ Some m
ask_more calls t None p m f h = absurd (none-some m h)
ask_more calls t (Some x) p m f h =
    let is : quietly (after_step calls t x) ≡ m = same_Some (quietly (after_step calls t x)) m h in
    ap (ask calls t) (f x refl (sym (ap (λ (k : Moved). k.thread.asked) is) ∙ step_asked calls t x)) ∙ h

-- the move that this outcome makes, as it comes
abbrev comes_as : Thread → Job → Given → Moved
comes_as t job came =
    let recorded = Recorded (record job { outcome = Some came }) in
    record {
      thread = record t { phase = recorded; came = t.came ++ came ∷ [] };
      effect = record quiet { outcome = Some came };
    }

record_more : (calls : CallTable) (t : Thread) (job : Job) (o q : Option Given) (m : Moved)
    → ((x : Given) → o ≡ Some x → fits_job calls job x ≡ true → m.thread.came ≡ t.came ++ dated job.turn x ∷ []
    → (g : Given) × (q ≡ Some g) × Becomes g (dated job.turn x))
    → record_outcome calls t job o ≡ Some m → record_outcome calls t job q ≡ Some m
record_more calls t job None q m f h = absurd (none-some m h)
record_more calls t job (Some x) q m f h = by_fit (fits_job calls job x) refl h
  where
    by_fit : (b : Bool) → fits_job calls job x ≡ b → cond b (Some (with_outcome t job x)) None ≡ Some m
        → record_outcome calls t job q ≡ Some m
    by_fit false fits is = absurd (none-some m is)
    by_fit true fits is =
        let same = same_Some (with_outcome t job x) m is in
        let (g, at, becomes) = f x refl fits (sym (ap (λ (k : Moved). k.thread.came) same)) in
        ap (record_outcome calls t job) at
        ∙ (cond-true (fits_job calls job g) (Some (with_outcome t job g)) None
        (fits_alike calls job g (dated job.turn x) becomes (dated_fits calls job x fits))
        ∙ (ap (λ (y : Given). Some (comes_as t job y)) (dated_alike job.turn g x becomes) ∙ ap Some same))

moves_in_more : (setup : Setup) (given more : Supply) (i : ℕ) (t : Thread) (p : Phase) (m : Moved) → t.phase ≡ p
    → Gives_as setup.calls given more i t m.thread
    → moves_in (supplied setup given) i t p ≡ Some m → moves_in (supplied setup more) i t p ≡ Some m
moves_in_more setup given more i t Working m e g h = ask_more setup.calls t (given.next i t.asked t.replies)
    (more.next i t.asked t.replies) m (λ x q a. g.next x e q a) h
moves_in_more setup given more i t (Outside job) m e g h =
    record_more setup.calls t job (slice_get (given.outcomes i) (length t.came))
    (slice_get (more.outcomes i) (length t.came)) m (λ o q fits a. g.outcome job o e q fits a) h
moves_in_more setup given more i t p m e g h = h

moves_more : (setup : Setup) (given more : Supply) (i : ℕ) (t : Thread) (m : Moved)
    → Gives_as setup.calls given more i t m.thread → moves (supplied setup given) i t ≡ Some m
    → moves (supplied setup more) i t ≡ Some m
unfolding moves
moves_more setup given more i t m g h =
    let out = moves_out (supplied setup given) i t m h in
    ap (within setup.limits.clock_limit) (moves_in_more setup given more i t t.phase m refl g out.0)
    ∙ cond-true (nat_le m.thread.clock setup.limits.clock_limit) (Some m) None
    (le-leb m.thread.clock setup.limits.clock_limit out.1)

can_attempt_more : (setup : Setup) (given more : Supply) (s : State) (i : ℕ)
    → can_attempt (supplied setup given) s i ≡ can_attempt (supplied setup more) s i
unfolding can_attempt
can_attempt_more setup given more s i = refl

attempt_more : (setup : Setup) (given more : Supply) (s : State) (i : ℕ)
    → attempt (supplied setup given) i s ≡ attempt (supplied setup more) i s
unfolding can_attempt attempt
attempt_more setup given more s i = refl

-- an event that is allowed under one supply is the same event under another
pub record SameEvent (setup : Setup) (more : Supply) (e : Event) (s z : State) : Type 0 where
  pub allowed : is_allowed (supplied setup more) e s ≡ true
  pub leads : happens (supplied setup more) e s ≡ z

abbrev pub TakesFrom : CallTable → Supply → Supply → Event → State → State → Type 0
TakesFrom calls given more (Advances i) s z = Gives_as calls given more i (thread_of s i) (thread_of z i)
TakesFrom calls given more (Attempts i) s z = Unit {0}

pub same_event : (setup : Setup) (given more : Supply) (e : Event) (s : State)
    → is_allowed (supplied setup given) e s ≡ true
    → TakesFrom setup.calls given more e s (happens (supplied setup given) e s)
    → SameEvent setup more e s (happens (supplied setup given) e s)
same_event setup given more (Attempts i) s can g =
    record {
      allowed = sym (can_attempt_more setup given more s i)
          ∙ can;
      leads = sym (attempt_more setup given more s i);
    }
same_event setup given more (Advances i) s can g =
    let m = move_of (supplied setup given) s i can in
    let z : advance (supplied setup given) i s ≡ move i (Some m.0) s = advance_move (supplied setup given) i s
    ∙ ap (λ (o : Option Moved). move i o s) m.1 in
    let there : thread_of (advance (supplied setup given) i s) i ≡ m.0.thread = ap (λ (y : State). thread_of y i) z
    ∙ thread_moved (supplied setup given) s i m.0 m.1 in
    let also : moves (supplied setup more) i (thread_of s i) ≡ Some m.0 =
    moves_more setup given more i (thread_of s i) m.0
    (subst (Gives_as setup.calls given more i (thread_of s i)) there g) m.1 in
    record {
      allowed = ap is_some also;
      leads = advance_move (supplied setup more) i s ∙ (ap (λ (o : Option Moved). move i o s) also ∙ sym z);
    }

-- ## Runs under a longer supply

pub record Extends (given more : Supply) : Type 0 where
  pub next : (i : ℕ) (asked : List Step) (replies : List Reply) (x : Step) → given.next i asked replies ≡ Some x
      → more.next i asked replies ≡ Some x
  pub outcomes : (i n : ℕ) (o : Given) → slice_get (given.outcomes i) n ≡ Some o
      → slice_get (more.outcomes i) n ≡ Some o

takes_extended : (calls : CallTable) (given more : Supply) (e : Event) (s z : State) → Extends given more
    → TakesFrom calls given more e s z
takes_extended calls given more (Advances i) s z g =
    record {
      next = λ x p q a. g.next i (thread_of s i).asked (thread_of s i).replies x q;
      outcome = λ job o out q fits a.
          (o, g.outcomes i (length (thread_of s i).came) o q, fitting_becomes calls job o fits);
    }
takes_extended calls given more (Attempts i) s z g = tt

-- the same run under another supply
pub record SameRun (setup : Setup) (more : Supply) (events : List Event) (first s : State) : Type 0 where
  pub allowed : IsRun (supplied setup more) events first
  pub ends : run (supplied setup more) events first ≡ s

pub same_run-cons : (setup : Setup) (more : Supply) (e : Event) (es : List Event) (first z s : State)
    → SameEvent setup more e first z → SameRun setup more es z s → SameRun setup more (e ∷ es) first s
same_run-cons setup more e es first z s h g =
    record {
      allowed = (h.allowed, subst (IsRun (supplied setup more) es) (sym h.leads) g.allowed);
      ends = ap (run (supplied setup more) es) h.leads ∙ g.ends;
    }

run_extended : (setup : Setup) (given more : Supply) (events : List Event) (first : State) → Extends given more
    → IsRun (supplied setup given) events first
    → SameRun setup more events first (run (supplied setup given) events first)
run_extended setup given more [] first g h = record { allowed = tt; ends = refl }
run_extended setup given more (e ∷ es) first g h =
    let z = happens (supplied setup given) e first in
    same_run-cons setup more e es first z (run (supplied setup given) es z)
    (same_event setup given more e first h.0 (takes_extended setup.calls given more e first z g))
    (run_extended setup given more es z g h.1)

run-append : (setup : Setup) (es fs : List Event) (s : State) → run setup (es ++ fs) s ≡ run setup fs (run setup es s)
run-append setup [] fs s = refl
run-append setup (e ∷ es) fs s = run-append setup es fs (happens setup e s)

IsRun-append : (setup : Setup) (es fs : List Event) (s : State) → IsRun setup es s → IsRun setup fs (run setup es s)
    → IsRun setup (es ++ fs) s
IsRun-append setup [] fs s h g = g
IsRun-append setup (e ∷ es) fs s h g = (h.0, IsRun-append setup es fs (happens setup e s) h.1 g)

-- ## States that arise

-- what came in a state came in all later ones
own_extends : (s z : State) → Adds s z → Extends (own s) (own z)
own_extends s z h =
    record {
      next = λ i asked replies x q. slice_get-prefix (thread_of s i).asked (thread_of z i).asked (length asked) x
          (h.threads i).asked q;
      outcomes = λ i n o q. slice_get-prefix (thread_of s i).came (thread_of z i).came n o (h.threads i).came q;
    }

-- an event finds in the state that it leads to what it took
takes_own : (calls : CallTable) (given : Supply) (e : Event) (s z : State) → TakesFrom calls given (own z) e s z
takes_own calls given (Advances i) s z =
    record {
      next = λ x p q a. ap (λ (l : List Step). slice_get l (length (thread_of s i).asked)) a
          ∙ slice_get-push (thread_of s i).asked x;
      outcome = λ job o out q fits a. supplies_itself (thread_of z i).came (length (thread_of s i).came)
          (dated job.turn o)
          (ap (λ (l : List Given). slice_get l (length (thread_of s i).came)) a
          ∙ slice_get-push (thread_of s i).came (dated job.turn o));
    }
takes_own calls given (Attempts i) s z = tt

arises_allowed : (setup : Setup) (first s : State) (e : Event) → is_allowed setup e s ≡ true → Arises setup first s
    → Arises setup first (happens setup e s)
arises_allowed setup first s e can h =
    let z = happens setup e s in
    let before = run_extended setup (own s) (own z) h.events first (own_extends s z (adds_event setup s e can))
    h.allowed in
    let to : run (supplied setup (own z)) h.events first ≡ s = before.ends ∙ h.ends in
    let last = same_event setup setup.supply (own z) e s can (takes_own setup.calls setup.supply e s z) in
    record {
      events = h.events ++ e ∷ [];
      allowed = IsRun-append (supplied setup (own z)) h.events (e ∷ []) first before.allowed
          (ap (is_allowed (supplied setup (own z)) e) to ∙ last.allowed, tt);
      ends = run-append (supplied setup (own z)) h.events (e ∷ []) first
          ∙ (ap (happens (supplied setup (own z)) e) to ∙ last.leads);
    }

pub arises_event : (setup : Setup) (first s : State) (e : Event) → Arises setup first s
    → Arises setup first (happens setup e s)
arises_event setup first s e h =
    ⊎_elim
    (λ (can : is_allowed setup e s ≡ true). arises_allowed setup first s e can h)
    (λ (off : is_allowed setup e s ≡ false). subst (Arises setup first) (sym (not_allowed setup e s off)) h)
    (cases_Bool (is_allowed setup e s))

pub arises_start : (setup : Setup) (threads objects : ℕ) (w : World)
    → Arises setup (start threads objects w) (start threads objects w)
arises_start setup threads objects w = record { events = []; allowed = tt; ends = refl }

pub arises_run : (setup : Setup) (threads objects : ℕ) (w : World) (events : List Event)
    → Arises setup (start threads objects w) (run setup events (start threads objects w))
arises_run setup threads objects w events =
    run_keeps setup (Arises setup (start threads objects w)) events (start threads objects w)
    (λ z e can h. arises_allowed setup (start threads objects w) z e can h) (arises_start setup threads objects w)

pub legal_arisen : (setup : Setup) (threads objects : ℕ) (w : World) (s : State)
    → Arises setup (start threads objects w) s → IsLegalHistory setup.calls w s.rows
legal_arisen setup threads objects w s h = subst (λ (z : State). IsLegalHistory setup.calls w z.rows) h.ends
    (legal_law (supplied setup (own s)) threads objects w h.events)

pub dated_arisen : DatedOfArisen
dated_arisen setup threads objects w s h = dated_rows setup.calls (λ k. None) 0 w (λ i. setup.calls.nothing_carried)
    s.rows (legal_arisen setup threads objects w s h (λ k. None))

pub prefix_own : (setup : Setup) (threads objects : ℕ) (w : World) (s last : State)
    → Arises setup (start threads objects w) s → EndsIn (supplied setup (own s)) (start threads objects w) last
    → Begins s last
prefix_own setup threads objects w s last h g =
    subst (λ (z : State). Begins z last) h.ends (prefix_law (supplied setup (own s)) threads objects w h.events last g)

pub own_finite : (s : State) → Finite (own s)
own_finite s = record {
  bound = λ i. length (thread_of s i).asked;
  ends = λ i asked replies x h. inr (slice_get_within (thread_of s i).asked (length asked) x h);
}

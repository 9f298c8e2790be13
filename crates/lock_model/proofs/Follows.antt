-- The threads of a run follow their programs, and a state's steps may come from any programs that they follow.
use Rattle.std.proofs.Common.{◌≡◌, ℕ, zero, suc, ◌+◌, ◌<◌, ◌≤◌, List, [], ◌∷◌, ◌++◌, length, set, get_or, slice_get}
use Rattle.std.proofs.Common.{Option, Some, Bool, true, false, sym, refl, ap, ap₂, ◌∙◌, subst, ⊎_elim, arith}
use Rattle.std.proofs.lemmas.Bool.{false≢true, cases_eq, cases_lt}
use Rattle.std.proofs.lemmas.List.{get_or-set_same, length-append}
use Rattle.std.proofs.lemmas.Option.{none-some, slice_get_within, same_Some}
use Rattle.lock_model.specs.CallTable.{CallTable, Plan, Way}
use Rattle.sequential_object.specs.declared.turn_end.TurnEnd.{TurnEnd}
use Rattle.sequential_object.specs.declared.turn_end.TurnEnd.TheVariants as turn_end
use Rattle.lock_model.specs.CallTable.Plan.{No_object, Object}
use Rattle.lock_model.specs.CallTable.Way.{Inside, Door, Keeps_table}
use Rattle.lock_model.specs.Events.{IsIn, Tried}
use Rattle.lock_model.specs.History.{IsPrefixOf}
use Rattle.lock_model.specs.Laws.{Begins, PrefixLawOfCame}
use Rattle.lock_model.specs.Machine.{Setup, Moved, Event, after_step, answered, moves, move, advance, granted_phase}
use Rattle.lock_model.specs.Machine.{granted, new_job, planned, reached, wants, can_attempt, attempt, is_allowed}
use Rattle.lock_model.specs.Machine.{happens}
use Rattle.lock_model.specs.Machine.Event.{Advances, Attempts}
use Rattle.lock_model.specs.Programs.{Supply}
use Rattle.posix_terms.specs.declared.step.Step.{Step}
use Rattle.posix_terms.specs.declared.step.Step.TheVariants as step
use Rattle.lock_model.specs.Runs.{Supplies, Arises, Follows, IsRun, run, supplied, own, with_came, calls_in}
use Rattle.lock_model.specs.Schedule.{EndsIn}
use Rattle.lock_model.specs.State.{Job, Phase, Thread, State, nobody, thread_of, start}
use Rattle.lock_model.specs.State.Phase.{Working, WantsObject, Ended}
use Rattle.sequential_object.specs.Worlds.{World}
use Rattle.posix_terms.specs.Calls.{Call}
use Rattle.posix_terms.specs.Outcomes.{dated}
use Rattle.posix_terms.specs.declared.outcome.Given.{Given}
use Rattle.lock_model.proofs.Dating.{supplies_kept, fitting_becomes, supplies_later}
use Rattle.posix_terms.specs.declared.reply.Reply.{Reply}
use Rattle.sequential_object.specs.Step.{Carried}
use Rattle.posix_terms.specs.declared.transcript.Turn.{Turn}
use Rattle.std.proofs.Common.{take, take_all}
use Rattle.std.proofs.lemmas.List.{take-append-le}
use Rattle.lock_model.proofs.Commute.{advance_move, thread_advance}
use Rattle.lock_model.proofs.Turn.{thread_moved}
use Rattle.lock_model.proofs.Attempt.{move_of, can_out, attempt_other}
use Rattle.lock_model.proofs.Growth.{at_moves, at_attempt, wanting_within, Grows, Adds, adds_event, adds_refl}
use Rattle.lock_model.proofs.Growth.{adds_trans}
use Rattle.lock_model.proofs.Kept.{run_keeps, first_thread, start_thread}
use Rattle.lock_model.proofs.Begins.{prefix_law}
use Rattle.lock_model.proofs.Arising.{slice_get-push, TakesFrom, same_event, SameRun, same_run-cons, arises_run}

-- ## Steps and replies of one thread

pub calls_push : (xs : List Step) (x : Step) → calls_in (xs ++ x ∷ []) ≡ calls_in xs + calls_in (x ∷ [])
calls_push [] x = omega arith
calls_push (step.Work n ∷ xs) x = calls_push xs x
calls_push (step.Call c ∷ xs) x = let e = calls_push xs x in
    suc_sum (calls_in (xs ++ x ∷ [])) (calls_in xs) (calls_in (x ∷ [])) e
  where
    suc_sum : (a b c : ℕ) → a ≡ b + c → suc a ≡ suc b + c
    suc_sum a b c e = omega arith
calls_push (step.End ∷ xs) x = calls_push xs x

calls_take : (n : ℕ) (xs : List Step) → calls_in (take n xs) ≤ calls_in xs
calls_take zero xs = omega arith
calls_take (suc n) [] = omega arith
calls_take (suc n) (step.Work k ∷ xs) = calls_take n xs
calls_take (suc n) (step.Call c ∷ xs) = let e = calls_take n xs in suc_le (calls_in (take n xs)) (calls_in xs) e
  where
    suc_le : (a b : ℕ) → a ≤ b → suc a ≤ suc b
    suc_le a b h = omega arith
calls_take (suc n) (step.End ∷ xs) = calls_take n xs

-- out of a call there are as many replies as calls; in a call, the last step asked for it
abbrev pub IsEven : Phase → List Step → List Reply → Type 0
IsEven Working asked replies = length replies ≡ calls_in asked
IsEven Ended asked replies = Unit {0}
IsEven p asked replies = (before : List Step)
    × ((c : Call) × (asked ≡ before ++ step.Call c ∷ []) × (length replies ≡ calls_in before))

abbrev pub AllEven : State → Type 0
AllEven s = (k : ℕ) → IsEven (thread_of s k).phase (thread_of s k).asked (thread_of s k).replies

even_step : (calls : CallTable) (t : Thread) (x : Step) → length t.replies ≡ calls_in t.asked
    → IsEven (after_step calls t x).phase (after_step calls t x).asked (after_step calls t x).replies
even_step calls t (step.Work n) h = h ∙ sym (calls_push t.asked (step.Work n) ∙ no_more (calls_in t.asked))
  where
    no_more : (a : ℕ) → a + 0 ≡ a
    no_more a = omega arith
even_step calls t (step.Call c) h = (t.asked, (c, refl, h))
even_step calls t step.End h = tt

even_answered : (t : Thread) (c : Call) (n : ℕ) (a : TurnEnd) → (before : List Step)
    × ((d : Call) × (t.asked ≡ before ++ step.Call d ∷ []) × (length t.replies ≡ calls_in before))
    → IsEven (answered t c n a).phase (answered t c n a).asked (answered t c n a).replies
even_answered t c n (turn_end.Blocked b) h = h
even_answered t c n (turn_end.Reply r) (before, (d, asked, even)) =
    let push = length-append t.replies (r ∷ []) in
    let more = calls_push before (step.Call d) in
    let same : calls_in t.asked ≡ calls_in (before ++ step.Call d ∷ []) = ap calls_in asked in
    count (length (t.replies ++ r ∷ [])) (length t.replies) (calls_in t.asked) (calls_in (before ++ step.Call d ∷ []))
    (calls_in before) push more same even
  where
    count : (a b c d e : ℕ) → a ≡ b + 1 → d ≡ e + 1 → c ≡ d → b ≡ e → a ≡ c
    count a b c d e p q r s = omega arith

even_move : (setup : Setup) (i : ℕ) (t : Thread) (m : Moved) → moves setup i t ≡ Some m
    → IsEven t.phase t.asked t.replies → IsEven m.thread.phase m.thread.asked m.thread.replies
even_move setup i t m h g =
    at_moves setup i t (λ p n. IsEven p t.asked t.replies → IsEven n.thread.phase n.thread.asked n.thread.replies) m
    (record {
      steps = λ x q e. even_step setup.calls t x e;
      begins = λ job e. e;
      records = λ job o q f e. e;
      grants = λ job e. even_answered t job.call _ (setup.calls.answer job.found job.call job.outcome job.carried) e;
      answers = λ job e. even_answered t job.call _ (setup.calls.answer job.found job.call job.outcome job.carried) e;
      agains = λ c b e. e;
    })
    h g

-- ## Threads that an attempt leaves as they were, but for their phase

tried_now : (s : State) (i : ℕ) (t u : Thread) → i < length s.threads → Tried t u
    → Tried t (get_or (set s.threads i u) i nobody)
tried_now s i t u l h = subst (Tried t) (sym (get_or-set_same s.threads i u nobody l)) h

in_wanting : (p : Phase) → wants p ≡ true → IsIn p ≡ true
in_wanting Working h = absurd (false≢true h)
in_wanting Ended h = absurd (false≢true h)
in_wanting p h = refl

in_granted : (g : Bool) (job : Job) → IsIn (granted_phase g job) ≡ true
in_granted true job = refl
in_granted false job = refl

tried_granted : (t : Thread) (clock : ℕ) (job : Job) (g : Bool) → IsIn t.phase ≡ true → Tried t (granted t clock job g)
tried_granted t clock job g h =
    record { asked = refl; replies = refl; came = refl; before = h; after = in_granted g job }

tried_planned : (calls : CallTable) (s : State) (i : ℕ) (t : Thread) (c : Call) (b : Carried) (turn : Turn)
    (plan : Plan) (w : World) → i < length s.threads → IsIn t.phase ≡ true
    → Tried t (thread_of (planned calls s i t c b turn plan w) i)
tried_planned calls s i t c b turn No_object w l h =
    tried_now s i t (granted t (t.clock + 1) (new_job c b turn No_object w) false) l
    (tried_granted t (t.clock + 1) (new_job c b turn No_object w) false h)
tried_planned calls s i t c b turn (Object n way) w l h =
    tried_now s i t (record t { phase = WantsObject c b turn.clock n way; clock = t.clock + 1 }) l
    (record { asked = refl; replies = refl; came = refl; before = h; after = refl })

tried_reached : (calls : CallTable) (s : State) (i : ℕ) (t : Thread) (c : Call) (b : Carried) (turn : Turn) (n : ℕ)
    (way : Way) (w : World) → i < length s.threads → IsIn t.phase ≡ true
    → Tried t (thread_of (reached calls s i t c b turn n way w) i)
tried_reached calls s i t c b turn n Inside w l h =
    tried_now s i t (granted t (t.clock + 2) (new_job c b turn (Object n Inside) w) false) l
    (tried_granted t (t.clock + 2) (new_job c b turn (Object n Inside) w) false h)
tried_reached calls s i t c b turn n Door w l h =
    tried_now s i t (granted t (t.clock + 2) (new_job c b turn (Object n Door) w) true) l
    (tried_granted t (t.clock + 2) (new_job c b turn (Object n Door) w) true h)
tried_reached calls s i t c b turn n Keeps_table w l h =
    tried_now s i t (granted t (t.clock + 1) (new_job c b turn (Object n Keeps_table) w) true) l
    (tried_granted t (t.clock + 1) (new_job c b turn (Object n Keeps_table) w) true h)

pub attempt_tried : (setup : Setup) (s : State) (i : ℕ) → can_attempt setup s i ≡ true
    → Tried (thread_of s i) (thread_of (attempt setup i s) i)
attempt_tried setup s i can =
    let t = thread_of s i in
    let l = wanting_within setup s i can in
    let inside = in_wanting t.phase (can_out setup s i can).wanting in
    at_attempt setup s i (λ p z. Tried t (thread_of z i)) can
    (record {
      fails = λ p h. tried_now s i t (record t { clock = t.clock + 1 }) l
          (record { asked = refl; replies = refl; came = refl; before = inside; after = inside });
      plans = λ c b h. tried_planned setup.calls s i t c b (record { clock = t.clock; thread = i })
          (setup.calls.plan s.world c b) s.world l inside;
      reaches = λ c b clock n way h k. tried_reached setup.calls s i t c b (record { clock = clock; thread = i }) n way
          s.world l inside;
    })

even_in : (p q : Phase) (asked : List Step) (replies : List Reply) → IsIn p ≡ true → IsIn q ≡ true
    → IsEven p asked replies → IsEven q asked replies
even_in p q asked replies h g e = from_in q asked replies g (to_in p asked replies h e)
  where
    to_in : (p : Phase) (asked : List Step) (replies : List Reply) → IsIn p ≡ true → IsEven p asked replies
        → (before : List Step) × ((c : Call) × (asked ≡ before ++ step.Call c ∷ [])
        × (length replies ≡ calls_in before))
    to_in Working asked replies h e = absurd (false≢true h)
    to_in Ended asked replies h e = absurd (false≢true h)
    to_in p asked replies h e = e

    from_in : (p : Phase) (asked : List Step) (replies : List Reply) → IsIn p ≡ true → (before : List Step)
        × ((c : Call) × (asked ≡ before ++ step.Call c ∷ []) × (length replies ≡ calls_in before))
        → IsEven p asked replies
    from_in Working asked replies h e = absurd (false≢true h)
    from_in Ended asked replies h e = absurd (false≢true h)
    from_in p asked replies h e = e

even_tried : (t u : Thread) → Tried t u → IsEven t.phase t.asked t.replies → IsEven u.phase u.asked u.replies
even_tried t u h e =
    subst (λ (a : List Step). IsEven u.phase a u.replies) (sym h.asked)
    (subst (λ (r : List Reply). IsEven u.phase t.asked r) (sym h.replies)
    (even_in t.phase u.phase t.asked t.replies h.before h.after e))

-- a fact of each thread, kept where it is kept for the thread of the event
pub each_thread : (P : ℕ → Thread → Type 0) (s z : State) (i : ℕ)
    → ((k : ℕ) → (i ≡ k → ⊥) → thread_of z k ≡ thread_of s k) → P i (thread_of z i) → ((k : ℕ) → P k (thread_of s k))
    → (k : ℕ) → P k (thread_of z k)
each_thread P s z i others mine h k =
    ⊎_elim (λ (e : i ≡ k). subst (λ (n : ℕ). P n (thread_of z n)) e mine)
    (λ (e : i ≡ k → ⊥). subst (P k) (sym (others k e)) (h k)) (cases_eq i k)

-- a fact of each thread, kept by the thread's own events
pub record KeptByThread (setup : Setup) (P : ℕ → Thread → Type 0) : Type 0 where
  pub moved : (i : ℕ) (t : Thread) (m : Moved) → moves setup i t ≡ Some m → P i t → P i m.thread
  pub tried : (i : ℕ) (t u : Thread) → Tried t u → P i t → P i u

pub kept_by_thread : (setup : Setup) (P : ℕ → Thread → Type 0) (s : State) (e : Event) → KeptByThread setup P
    → is_allowed setup e s ≡ true → ((k : ℕ) → P k (thread_of s k)) → (k : ℕ) → P k (thread_of (happens setup e s) k)
kept_by_thread setup P s (Attempts i) g can h =
    each_thread P s (attempt setup i s) i (λ k apart. attempt_other setup i k s apart)
    (g.tried i (thread_of s i) (thread_of (attempt setup i s) i) (attempt_tried setup s i can) (h i)) h
kept_by_thread setup P s (Advances i) g can h =
    let m = move_of setup s i can in
    let there : thread_of (advance setup i s) i ≡ m.0.thread =
    ap (λ (z : State). thread_of z i) (advance_move setup i s ∙ ap (λ (o : Option Moved). move i o s) m.1)
    ∙ thread_moved setup s i m.0 m.1 in
    each_thread P s (advance setup i s) i (λ k apart. thread_advance setup i k s apart)
    (subst (P i) (sym there) (g.moved i (thread_of s i) m.0 m.1 (h i))) h

even_event : (setup : Setup) (s : State) (e : Event) → is_allowed setup e s ≡ true → AllEven s
    → AllEven (happens setup e s)
even_event setup s e can h =
    kept_by_thread setup (λ i t. IsEven t.phase t.asked t.replies) s e
    (record { moved = λ i t m q g. even_move setup i t m q g; tried = λ i t u q g. even_tried t u q g }) can h

even_start : (threads objects : ℕ) (w : World) → AllEven (start threads objects w)
even_start threads objects w k =
    ⊎_elim
    (λ (e : thread_of (start threads objects w) k ≡ first_thread).
    subst (λ (t : Thread). IsEven t.phase t.asked t.replies) (sym e) refl)
    (λ (e : thread_of (start threads objects w) k ≡ nobody). subst (λ (t : Thread). IsEven t.phase t.asked t.replies)
    (sym e) tt)
    (start_thread threads objects w k)

-- ## A run under programs that its end follows

take_length : {A : Type 0} (xs rest : List A) → take (length xs) (xs ++ rest) ≡ xs
take_length [] rest = refl
take_length (x ∷ xs) rest = ap (λ (l : List _). x ∷ l) (take_length xs rest)

take_prefix : {A : Type 0} (xs ys : List A) → IsPrefixOf xs ys → take (length xs) ys ≡ xs
take_prefix xs ys (rest, e) = ap (take (length xs)) (sym e) ∙ take_length xs rest

even_working : (p : Phase) (asked : List Step) (replies : List Reply) → p ≡ Working → IsEven p asked replies
    → length replies ≡ calls_in asked
even_working p asked replies e h = subst (λ (q : Phase). IsEven q asked replies) e h

-- the next step of a thread on its way to s is the next that its program gives
next_follows : (given : Supply) (s z : State) (i : ℕ) (x : Step) → Follows given s
    → Grows (thread_of z i) (thread_of s i) → length (thread_of z i).replies ≡ calls_in (thread_of z i).asked
    → slice_get (thread_of s i).asked (length (thread_of z i).asked) ≡ Some x
    → given.next i (thread_of z i).asked (thread_of z i).replies ≡ Some x
next_follows given s z i x h g even q =
    let t = thread_of z i in
    let asked : take (length t.asked) (thread_of s i).asked ≡ t.asked =
    take_prefix t.asked (thread_of s i).asked g.asked in
    let count : calls_in (take (length t.asked) (thread_of s i).asked) ≡ length t.replies = ap calls_in asked
    ∙ sym even in
    let replies : take (calls_in (take (length t.asked) (thread_of s i).asked)) (thread_of s i).replies ≡ t.replies =
    ap (λ (n : ℕ). take n (thread_of s i).replies) count
    ∙ take_prefix t.replies (thread_of s i).replies g.replies in
    sym (ap₂ (λ (a : List Step) (r : List Reply). given.next i a r) asked replies) ∙ h.steps i (length t.asked) x q

takes_followed : (calls : CallTable) (given : Supply) (e : Event) (s z y : State) → Follows given s → Adds z s
    → AllEven z → TakesFrom calls (own s) given e z y
takes_followed calls given (Attempts i) s z y h g even = tt
takes_followed calls given (Advances i) s z y h g even =
    record {
      next = λ x p q a. next_follows given s z i x h (g.threads i)
          (even_working (thread_of z i).phase (thread_of z i).asked (thread_of z i).replies p (even i)) q;
      outcome = λ job o out q fits a. supplies_later (given.outcomes i) (length (thread_of z i).came) o
          (dated job.turn o)
          (h.outcomes i (length (thread_of z i).came) o q) (fitting_becomes calls job o fits);
    }

adds_run : (setup : Setup) (events : List Event) (s : State) → IsRun setup events s → Adds s (run setup events s)
adds_run setup [] s h = adds_refl s
adds_run setup (e ∷ es) s h = adds_trans s (happens setup e s) (run setup es (happens setup e s))
    (adds_event setup s e h.0) (adds_run setup es (happens setup e s) h.1)

run_followed : (setup : Setup) (given : Supply) (s : State) (events : List Event) (z : State) → Follows given s
    → AllEven z → IsRun (supplied setup (own s)) events z → run (supplied setup (own s)) events z ≡ s
    → SameRun setup given events z s
run_followed setup given s [] z h even allowed ends = record { allowed = tt; ends = ends }
run_followed setup given s (e ∷ es) z h even allowed ends =
    let y = happens (supplied setup (own s)) e z in
    let adds : Adds z s = subst (Adds z) ends (adds_run (supplied setup (own s)) (e ∷ es) z allowed) in
    same_run-cons setup given e es z y s
    (same_event setup (own s) given e z allowed.0 (takes_followed setup.calls given e s z y h adds even))
    (run_followed setup given s es y h (even_event (supplied setup (own s)) z e allowed.0 even) allowed.1 ends)

pub prefix_followed : (setup : Setup) (threads objects : ℕ) (w : World) (s last : State) (given : Supply)
    → Arises setup (start threads objects w) s → Follows given s
    → EndsIn (supplied setup given) (start threads objects w) last → Begins s last
prefix_followed setup threads objects w s last given h g e =
    let same = run_followed setup given s h.events (start threads objects w) g (even_start threads objects w) h.allowed
    h.ends in
    subst (λ (z : State). Begins z last) same.ends (prefix_law (supplied setup given) threads objects w h.events last e)

-- ## Runs follow their programs

-- of one thread
pub record FollowsOne (given : Supply) (i : ℕ) (t : Thread) : Type 0 where
  pub even : IsEven t.phase t.asked t.replies
  pub steps : (n : ℕ) (x : Step) → slice_get t.asked n ≡ Some x
      → given.next i (take n t.asked) (take (calls_in (take n t.asked)) t.replies) ≡ Some x
  pub outcomes : (n : ℕ) (o : Given) → slice_get t.came n ≡ Some o → Supplies (given.outcomes i) n o

take-append : {A : Type 0} (n : ℕ) (xs ys : List A) → n ≤ length xs → take n (xs ++ ys) ≡ take n xs
take-append n xs ys l = take-append-le n xs ys l

slice_get_before : {A : Type 0} (xs ys : List A) (n : ℕ) → n < length xs → (y : A) → slice_get (xs ++ ys) n ≡ Some y
    → slice_get xs n ≡ Some y
slice_get_before [] ys n l y q = absurd (omega arith)
slice_get_before (x ∷ xs) ys zero l y q = q
slice_get_before (x ∷ xs) ys (suc n) l y q = slice_get_before xs ys n (omega arith) y q

-- one more step asked
steps_asked : (given : Supply) (i : ℕ) (asked : List Step) (replies : List Reply) (x : Step)
    → length replies ≡ calls_in asked → given.next i asked replies ≡ Some x
    → ((n : ℕ) (y : Step) → slice_get asked n ≡ Some y
    → given.next i (take n asked) (take (calls_in (take n asked)) replies) ≡ Some y)
    → (n : ℕ) (y : Step) → slice_get (asked ++ x ∷ []) n ≡ Some y
    → given.next i (take n (asked ++ x ∷ [])) (take (calls_in (take n (asked ++ x ∷ []))) replies) ≡ Some y
steps_asked given i asked replies x even next h n y q =
    ⊎_elim
    (λ (l : n < length asked).
    let same : take n (asked ++ x ∷ []) ≡ take n asked = take-append n asked (x ∷ []) (omega arith) in
    ap (λ (a : List Step). given.next i a (take (calls_in a) replies)) same
    ∙ h n y (slice_get_before asked (x ∷ []) n l y q))
    (λ (l : length asked ≤ n).
    let inside = slice_get_within (asked ++ x ∷ []) n y q in
    let count = length-append asked (x ∷ []) in
    let at : n ≡ length asked = omega arith in
    let same : take n (asked ++ x ∷ []) ≡ asked = ap (λ (k : ℕ). take k (asked ++ x ∷ [])) at
    ∙ take_length asked (x ∷ []) in
    let all : take (calls_in asked) replies ≡ replies = take_all (calls_in asked) replies (omega arith) in
    let is : Some x ≡ Some y = sym (slice_get-push asked x) ∙ (ap (slice_get (asked ++ x ∷ [])) (sym at) ∙ q) in
    ap (λ (a : List Step). given.next i a (take (calls_in a) replies)) same
    ∙ (ap (given.next i asked) all ∙ (next ∙ is)))
    (cases_lt n (length asked))

-- one more reply, within a call
steps_replied : (given : Supply) (i : ℕ) (asked before : List Step) (c : Call) (replies : List Reply) (r : Reply)
    → asked ≡ before ++ step.Call c ∷ [] → length replies ≡ calls_in before
    → ((n : ℕ) (y : Step) → slice_get asked n ≡ Some y
    → given.next i (take n asked) (take (calls_in (take n asked)) replies) ≡ Some y)
    → (n : ℕ) (y : Step) → slice_get asked n ≡ Some y
    → given.next i (take n asked) (take (calls_in (take n asked)) (replies ++ r ∷ [])) ≡ Some y
steps_replied given i asked before c replies r is even h n y q =
    let inside = slice_get_within asked n y q in
    let count : length asked ≡ length before + 1 = ap length is ∙ length-append before (step.Call c ∷ []) in
    let same : take n asked ≡ take n before = ap (take n) is ∙ take-append n before (step.Call c ∷ []) (omega arith) in
    let few = calls_take n before in
    let few2 : calls_in (take n asked) ≤ length replies = subst (λ (a : List Step). calls_in a ≤ length replies)
    (sym same) (omega arith) in
    ap (given.next i (take n asked)) (take-append (calls_in (take n asked)) replies (r ∷ []) few2) ∙ h n y q

outcomes_came : (given : List Given) (came : List Given) (o : Given) → Supplies given (length came) o
    → ((n : ℕ) (u : Given) → slice_get came n ≡ Some u → Supplies given n u)
    → (n : ℕ) (u : Given) → slice_get (came ++ o ∷ []) n ≡ Some u → Supplies given n u
outcomes_came given came o next h n u q =
    ⊎_elim
    (λ (l : n < length came). h n u (slice_get_before came (o ∷ []) n l u q))
    (λ (l : length came ≤ n).
    let inside = slice_get_within (came ++ o ∷ []) n u q in
    let count = length-append came (o ∷ []) in
    let at : n ≡ length came = omega arith in
    let same : o ≡ u = same_Some o u (sym (slice_get-push came o) ∙ (ap (slice_get (came ++ o ∷ [])) (sym at) ∙ q)) in
    subst (λ (m : ℕ). Supplies given m u) (sym at) (subst (Supplies given (length came)) same next))
    (cases_lt n (length came))

follows_step : (setup : Setup) (i : ℕ) (t : Thread) (x : Step) → setup.supply.next i t.asked t.replies ≡ Some x
    → length t.replies ≡ calls_in t.asked → FollowsOne setup.supply i t
    → FollowsOne setup.supply i (after_step setup.calls t x)
follows_step setup i t (step.Work n) q even h =
    record {
      even = even_step setup.calls t (step.Work n) even;
      steps = steps_asked setup.supply i t.asked t.replies (step.Work n) even q h.steps;
      outcomes = h.outcomes;
    }
follows_step setup i t (step.Call c) q even h =
    record {
      even = even_step setup.calls t (step.Call c) even;
      steps = steps_asked setup.supply i t.asked t.replies (step.Call c) even q h.steps;
      outcomes = h.outcomes;
    }
follows_step setup i t step.End q even h =
    record {
      even = even_step setup.calls t step.End even;
      steps = steps_asked setup.supply i t.asked t.replies step.End even q h.steps;
      outcomes = h.outcomes;
    }

follows_answered : (setup : Setup) (i : ℕ) (t : Thread) (c : Call) (n : ℕ) (a : TurnEnd) → (before : List Step)
    × ((d : Call) × (t.asked ≡ before ++ step.Call d ∷ []) × (length t.replies ≡ calls_in before))
    → FollowsOne setup.supply i t → FollowsOne setup.supply i (answered t c n a)
follows_answered setup i t c n (turn_end.Blocked b) even h =
    record { even = even; steps = h.steps; outcomes = h.outcomes }
follows_answered setup i t c n (turn_end.Reply r) even h =
    record {
      even = even_answered t c n (turn_end.Reply r) even;
      steps = steps_replied setup.supply i t.asked even.0 even.1.0 t.replies r even.1.1 even.1.2 h.steps;
      outcomes = h.outcomes;
    }

follows_move : (setup : Setup) (i : ℕ) (t : Thread) (m : Moved) → moves setup i t ≡ Some m → FollowsOne setup.supply i t
    → FollowsOne setup.supply i m.thread
follows_move setup i t m h g =
    at_moves setup i t (λ p n. IsEven p t.asked t.replies → FollowsOne setup.supply i n.thread) m
    (record {
      steps = λ x q e. follows_step setup i t x q e g;
      begins = λ job e. record { even = e; steps = g.steps; outcomes = g.outcomes };
      records = λ job o q f e. record {
        even = e;
        steps = g.steps;
        outcomes = outcomes_came (setup.supply.outcomes i) t.came (dated job.turn o)
            (o, q, fitting_becomes setup.calls job o f) g.outcomes;
      };
      grants = λ job e. follows_answered setup i t job.call _
          (setup.calls.answer job.found job.call job.outcome job.carried) e g;
      answers = λ job e. follows_answered setup i t job.call _
          (setup.calls.answer job.found job.call job.outcome job.carried) e g;
      agains = λ c b e. record { even = e; steps = g.steps; outcomes = g.outcomes };
    })
    h g.even

follows_tried : (given : Supply) (i : ℕ) (t u : Thread) → Tried t u → FollowsOne given i t → FollowsOne given i u
follows_tried given i t u h g =
    record {
      even = even_tried t u h g.even;
      steps = subst (λ (a : List Step). (n : ℕ) (x : Step) → slice_get a n ≡ Some x
          → given.next i (take n a) (take (calls_in (take n a)) u.replies) ≡ Some x) (sym h.asked)
          (subst (λ (r : List Reply). (n : ℕ) (x : Step) → slice_get t.asked n ≡ Some x
          → given.next i (take n t.asked) (take (calls_in (take n t.asked)) r) ≡ Some x) (sym h.replies) g.steps);
      outcomes = subst (λ (c : List Given). (n : ℕ) (o : Given) → slice_get c n ≡ Some o
          → Supplies (given.outcomes i) n o) (sym h.came) g.outcomes;
    }

follows_none : (given : Supply) (i : ℕ) (t : Thread) → t.asked ≡ [] → t.came ≡ [] → IsEven t.phase t.asked t.replies
    → FollowsOne given i t
follows_none given i t a c even =
    record {
      even = even;
      steps = λ n x q. absurd (none-some x (ap (λ (l : List Step). slice_get l n) (sym a) ∙ q));
      outcomes = λ n o q. absurd (none-some o (ap (λ (l : List Given). slice_get l n) (sym c) ∙ q));
    }

follows_start : (given : Supply) (threads objects : ℕ) (w : World) (k : ℕ)
    → FollowsOne given k (thread_of (start threads objects w) k)
follows_start given threads objects w k =
    ⊎_elim
    (λ (e : thread_of (start threads objects w) k ≡ first_thread). subst (FollowsOne given k) (sym e)
    (follows_none given k first_thread refl refl refl))
    (λ (e : thread_of (start threads objects w) k ≡ nobody). subst (FollowsOne given k) (sym e)
    (follows_none given k nobody refl refl tt))
    (start_thread threads objects w k)

pub run_follows : (setup : Setup) (threads objects : ℕ) (w : World) (events : List Event)
    → Follows setup.supply (run setup events (start threads objects w))
run_follows setup threads objects w events =
    let all =
    run_keeps setup (λ (z : State). (k : ℕ) → FollowsOne setup.supply k (thread_of z k)) events
    (start threads objects w)
    (λ z e can h. kept_by_thread setup (FollowsOne setup.supply) z e
    (record {
      moved = λ i t m q g. follows_move setup i t m q g;
      tried = λ i t u q g. follows_tried setup.supply i t u q g;
    }) can h)
    (follows_start setup.supply threads objects w) in
    record { steps = λ i n x q. (all i).steps n x q; outcomes = λ i n o q. (all i).outcomes n o q }

-- what is kept of the outcomes that came is enough
pub prefix_came : PrefixLawOfCame
prefix_came kept setup threads objects w events last keeps h =
    let s = run setup events (start threads objects w) in
    prefix_followed setup threads objects w s last (with_came kept setup.supply s)
    (arises_run setup threads objects w events)
    (record {
      steps = (run_follows setup threads objects w events).steps;
      outcomes = λ i n o q. supplies_kept kept keeps (thread_of s i).came n o q;
    })
    h

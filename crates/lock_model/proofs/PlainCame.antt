-- The plain run under the outcomes that came in it is the same run, and what came is only added to.
use Rattle.std.proofs.lemmas.List.{length-map}
use Rattle.std.proofs.Common.{◌≡◌, ℕ, zero, suc, ◌+◌, ◌-◌, ◌≤◌, List, length, slice_get, Option, Some, None, Bool, true}
use Rattle.std.proofs.Common.{false, sym, refl, ap, ◌∙◌, subst, inl, inr, ⊎_elim, arith, map}
use Rattle.std.proofs.lemmas.Bool.{false≢true, cases_eq}
use Rattle.std.proofs.lemmas.Option.{none-some, slice_get_within, same_Some}
use Rattle.lock_model.specs.Came.{under_came, SameUnderCame, OverUnderCame, PlainArises, PlainCount, PlainLeads}
use Rattle.lock_model.specs.Came.{CameGrows, StaysOrFits, OutsideStays}
use Rattle.lock_model.specs.History.{IsPrefixOf}
use Rattle.lock_model.specs.Machine.{Setup, Moved, Event, fits_job, moves, move, can_advance, advance, wants}
use Rattle.lock_model.specs.Machine.{can_attempt, is_allowed, happens}
use Rattle.lock_model.specs.Machine.Event.{Advances, Attempts}
use Rattle.lock_model.specs.Programs.{Supply}
use Rattle.lock_model.specs.Runs.{Supplies, Arises, Follows, supplied, with_came, Keeps}
use Rattle.lock_model.specs.Schedule.{next_event, attempt_by, advance_by, after_event, plain, plain_run}
use Rattle.lock_model.specs.State.{Job, Phase, Thread, State, start, thread_of, live_clocks}
use Rattle.lock_model.specs.State.Phase.{Outside}
use Rattle.sequential_object.specs.Worlds.{World}
use Rattle.logical_clocks.specs.TurnOrder.{first_or, first_below, turn_holder}
use Rattle.posix_terms.specs.Outcomes.{dated}
use Rattle.posix_terms.specs.declared.outcome.Given.{Given}
use Rattle.lock_model.proofs.Dating.{dated_fits, fitting_becomes, kept_at, supplies_kept, supplies_later}
use Rattle.lock_model.proofs.Commute.{thread_advance, advance_move}
use Rattle.lock_model.proofs.Turn.{thread_moved}
use Rattle.lock_model.proofs.Attempt.{move_of, can_out, attempt_other}
use Rattle.lock_model.proofs.Growth.{at_moves, Adds, adds_refl, adds_trans, adds_event}
use Rattle.lock_model.proofs.Plain.{next_allowed, plain_elim, plain_reaches}
use Rattle.lock_model.proofs.Arising.{slice_get-push, slice_get-prefix, TakesFrom, SameEvent, arises_run, same_event}
use Rattle.lock_model.proofs.Ends.{plain_run-suc, leads_on}
use Rattle.lock_model.proofs.EventLaws.{event_count}
use Rattle.lock_model.proofs.Follows.{run_follows}

-- ## So many events of the plain run

plain_run-none : (setup : Setup) (s : State) → plain_run setup 0 s ≡ s
unfolding plain_run
plain_run-none setup s = refl

-- first n events, then m more
plain_run-sum : (setup : Setup) (n m : ℕ) (s : State)
    → plain_run setup (n + m) s ≡ plain_run setup m (plain_run setup n s)
unfolding plain_run
plain_run-sum setup zero m s = ap (λ (k : ℕ). plain_run setup k s) (no_more m)
  where
    no_more : (k : ℕ) → 0 + k ≡ k
    no_more k = omega arith
plain_run-sum setup (suc n) m s = ap (λ (k : ℕ). plain_run setup k s) (suc_first n m)
    ∙ plain_run-sum setup n m (plain setup s)
  where
    suc_first : (j k : ℕ) → suc j + k ≡ suc (j + k)
    suc_first j k = omega arith

-- so many events of the plain run are a run
pub plain_leads : PlainLeads
plain_leads setup first n = let r = plain_reaches setup n first (plain_run setup n first) refl in
    leads_on setup r.0 first (plain_run setup n first) r.1

pub plain_arises : PlainArises
plain_arises setup threads objects w n =
    let first = start threads objects w in
    let to = plain_leads setup first n in
    subst (Arises setup first) to.ends (arises_run setup threads objects w to.events)

pub plain_count : PlainCount
unfolding plain_run
plain_count setup first zero = refl
plain_count setup first (suc n) =
    plain_count setup (plain setup first) n
    ∙ plain_elim setup first (λ (z : State). length z.threads ≡ length first.threads) (next_event setup first) refl
    refl (λ e q. event_count setup first e)

-- ## What came is only added to

adds_plain : (setup : Setup) (s : State) → Adds s (plain setup s)
adds_plain setup s = plain_elim setup s (Adds s) (next_event setup s) refl (adds_refl s)
    (λ e q. adds_event setup s e (next_allowed setup s e q))

adds_plain_run : (setup : Setup) (n : ℕ) (s : State) → Adds s (plain_run setup n s)
unfolding plain_run
adds_plain_run setup zero s = adds_refl s
adds_plain_run setup (suc n) s = adds_trans s (plain setup s) (plain_run setup n (plain setup s)) (adds_plain setup s)
    (adds_plain_run setup n (plain setup s))

-- each later state adds to an earlier one
adds_later : (setup : Setup) (first : State) (n m : ℕ) → Adds (plain_run setup n first) (plain_run setup (n + m) first)
adds_later setup first n m = subst (Adds (plain_run setup n first)) (sym (plain_run-sum setup n m first))
    (adds_plain_run setup m (plain_run setup n first))

pub came_grows : CameGrows
came_grows setup first n m i = ((adds_later setup first n m).threads i).came

-- ## A thread that is outside

-- its own event records the outcome that came for it
abbrev Records : Setup → Thread → Phase → Thread → Type 0
Records setup t p u = (job : Job) → p ≡ Outside job → (o : Given) × (slice_get u.came (length t.came) ≡ Some o)
    × (fits_job setup.calls job o ≡ true)

abbrev is_outside : Phase → Bool
is_outside (Outside job) = true
is_outside p = false

same_job : (p q : Job) → Outside p ≡ Outside q → p ≡ q
same_job p q h = ap job_in h
  where
    job_in : Phase → Job
    job_in (Outside job) = job
    job_in phase = p

records_move : (setup : Setup) (i : ℕ) (t : Thread) (m : Moved) → moves setup i t ≡ Some m
    → Records setup t t.phase m.thread
records_move setup i t m h =
    at_moves setup i t (λ p n. Records setup t p n.thread) m
    (record {
      steps = λ x q job e. absurd (false≢true (ap is_outside e));
      begins = λ j job e. absurd (false≢true (ap is_outside e));
      records = λ j o q f job e. (
        dated j.turn o,
        slice_get-push t.came (dated j.turn o),
        ap
            (λ (k : Job). fits_job setup.calls k (dated j.turn o)) (sym (same_job j job e))
            ∙ dated_fits setup.calls j o f,
      );
      grants = λ j job e. absurd (false≢true (ap is_outside e));
      answers = λ j job e. absurd (false≢true (ap is_outside e));
      agains = λ c b job e. absurd (false≢true (ap is_outside e));
    })
    h

not_wanting : (p : Phase) (job : Job) → p ≡ Outside job → wants p ≡ true → ⊥
not_wanting p job e h = false≢true (sym (ap wants e) ∙ h)

outside_event : (setup : Setup) (s : State) (e : Event) (i : ℕ) (job : Job) → (thread_of s i).phase ≡ Outside job
    → is_allowed setup e s ≡ true → StaysOrFits setup job (thread_of s i) (thread_of (happens setup e s) i)
outside_event setup s (Advances j) i job phase can =
    ⊎_elim
    (λ (e : j ≡ i).
    let m = move_of setup s i (subst (λ (k : ℕ). can_advance setup s k ≡ true) e can) in
    let there : thread_of (advance setup i s) i ≡ m.0.thread =
    ap (λ (z : State). thread_of z i) (advance_move setup i s ∙ ap (λ (o : Option Moved). move i o s) m.1)
    ∙ thread_moved setup s i m.0 m.1 in
    inr
    (subst (λ (k : ℕ). Records setup (thread_of s i) (thread_of s i).phase (thread_of (advance setup k s) i)) (sym e)
    (subst (Records setup (thread_of s i) (thread_of s i).phase) (sym there)
    (records_move setup i (thread_of s i) m.0 m.1))
    job phase))
    (λ (apart : j ≡ i → ⊥). inl (thread_advance setup j i s apart))
    (cases_eq j i)
outside_event setup s (Attempts j) i job phase can =
    ⊎_elim
    (λ (e : j ≡ i). absurd (not_wanting (thread_of s i).phase job phase
    (can_out setup s i (subst (λ (k : ℕ). can_attempt setup s k ≡ true) e can)).wanting))
    (λ (apart : j ≡ i → ⊥). inl (attempt_other setup j i s apart))
    (cases_eq j i)

outside_plain : (setup : Setup) (s : State) (i : ℕ) (job : Job) → (thread_of s i).phase ≡ Outside job
    → StaysOrFits setup job (thread_of s i) (thread_of (plain setup s) i)
outside_plain setup s i job phase =
    plain_elim setup s (λ (z : State). StaysOrFits setup job (thread_of s i) (thread_of z i)) (next_event setup s) refl
    (inl refl) (λ e q. outside_event setup s e i job phase (next_allowed setup s e q))

-- once an outcome came, it stays
fits_later : (setup : Setup) (job : Job) (t u v : Thread) → IsPrefixOf u.came v.came → (o : Given)
    × (slice_get u.came (length t.came) ≡ Some o) × (fits_job setup.calls job o ≡ true) → StaysOrFits setup job t v
fits_later setup job t u v grows (o, at, fits) =
    inr (o, slice_get-prefix u.came v.came (length t.came) o grows at, fits)

outside_run : (setup : Setup) (m : ℕ) (s : State) (i : ℕ) (job : Job) → (thread_of s i).phase ≡ Outside job
    → StaysOrFits setup job (thread_of s i) (thread_of (plain_run setup m s) i)
unfolding plain_run
outside_run setup zero s i job phase = inl refl
outside_run setup (suc m) s i job phase =
    let z = plain setup s in
    ⊎_elim
    (λ (same : thread_of z i ≡ thread_of s i).
    subst (λ (t : Thread). StaysOrFits setup job t (thread_of (plain_run setup m z) i)) same
    (outside_run setup m z i job (ap (λ (t : Thread). t.phase) same ∙ phase)))
    (λ (came : (o : Given) × (slice_get (thread_of z i).came (length (thread_of s i).came) ≡ Some o)
    × (fits_job setup.calls job o ≡ true)).
    fits_later setup job (thread_of s i) (thread_of z i) (thread_of (plain_run setup m z) i)
    ((adds_plain_run setup m z).threads i).came came)
    (outside_plain setup s i job phase)

pub outside_stays : OutsideStays
outside_stays setup first n m i job phase =
    subst (λ (z : State). StaysOrFits setup job (thread_of (plain_run setup n first) i) (thread_of z i))
    (sym (plain_run-sum setup n m first)) (outside_run setup m (plain_run setup n first) i job phase)

-- ## The first of fewer numbers

both_same : (b c : Bool) → (b ≡ true → c ≡ true) → (c ≡ true → b ≡ true) → b ≡ c
both_same true c h g = sym (h refl)
both_same false true h g = g refl
both_same false false h g = refl

first_or_same : (o : Option ℕ) (b c : Bool) (n : ℕ) → (o ≡ None → b ≡ c) → first_or o b n ≡ first_or o c n
first_or_same (Some j) b c n h = refl
first_or_same None b c n h = ap (λ (x : Bool). first_or None x n) (h refl)

-- where p holds of fewer numbers than q, but of the first of q, the first is the same
first_same : (n : ℕ) (p q : ℕ → Bool) → ((i : ℕ) → p i ≡ true → q i ≡ true)
    → ((i : ℕ) → first_below n q ≡ Some i → p i ≡ true) → first_below n p ≡ first_below n q
unfolding first_below
first_same zero p q fewer first = refl
first_same (suc n) p q fewer first =
    ap (λ (o : Option ℕ). first_or o (p n) n)
    (first_same n p q fewer (λ i h. first i (ap (λ (o : Option ℕ). first_or o (q n) n) h)))
    ∙ first_or_same (first_below n q) (p n) (q n) n
    (λ none. both_same (p n) (q n) (fewer n)
    (λ h. first n (ap (λ (o : Option ℕ). first_or o (q n) n) none ∙ ap (λ (b : Bool). first_or None b n) h)))

-- ## The next event under another supply

attempt_same : (setup : Setup) (given : Supply) (s : State) (o : Option ℕ)
    → attempt_by (supplied setup given) s o ≡ attempt_by setup s o
unfolding can_attempt
attempt_same setup given s None = refl
attempt_same setup given s (Some i) = refl

advance_same : (setup : Setup) (given : Supply) (s : State) (o : Option ℕ)
    → advance_by (supplied setup given) s o ≡ advance_by setup s o
advance_same setup given s (Some i) = refl
advance_same setup given s None = attempt_same setup given s (turn_holder (live_clocks s))

-- where fewer threads can advance, but the thread that advances next still can, the next event is the same
next_same : (setup : Setup) (given : Supply) (s : State)
    → ((i : ℕ) → can_advance (supplied setup given) s i ≡ true → can_advance setup s i ≡ true)
    → ((i : ℕ) → next_event setup s ≡ Some (Advances i) → can_advance (supplied setup given) s i ≡ true)
    → next_event (supplied setup given) s ≡ next_event setup s
unfolding next_event
next_same setup given s fewer first =
    ap (advance_by (supplied setup given) s)
    (first_same (length s.threads) (can_advance (supplied setup given) s) (can_advance setup s) fewer
    (λ i h. first i (ap (advance_by setup s) h)))
    ∙ advance_same setup given s (first_below (length s.threads) (can_advance setup s))

-- ## The outcomes that came

-- what came next for a thread that is outside fits its call
abbrev NextFits : Setup → State → State → Type 0
NextFits setup s last =
    (i : ℕ) (job : Job) (o : Given) → (thread_of s i).phase ≡ Outside job
    → slice_get (thread_of last i).came (length (thread_of s i).came) ≡ Some o → fits_job setup.calls job o ≡ true

-- a thread that can advance with what is kept of the outcomes that came can advance
advance_came : (kept : Given → Given) → Keeps kept → (setup : Setup) (s last : State) (i : ℕ)
    → ((o : Given) → slice_get (thread_of last i).came (length (thread_of s i).came) ≡ Some o
    → Supplies (setup.supply.outcomes i) (length (thread_of s i).came) o)
    → NextFits setup s last
    → can_advance (under_came kept setup last) s i ≡ true → can_advance setup s i ≡ true
advance_came kept keeps setup s last i from fitting can =
    (same_event setup (with_came kept setup.supply last) setup.supply (Advances i) s can
    (record {
      next = λ x p q a. q;
      outcome = λ job o out q fits a.
          let n = length (thread_of s i).came in
          let (p, at, is) = kept_at kept (thread_of last i).came n o q in
          let alike : dated job.turn p ≡ dated job.turn o = sym (ap (dated job.turn) (keeps p).same)
          ∙ ap (dated job.turn) is in
          subst (Supplies (setup.supply.outcomes i) n) alike
          (supplies_later (setup.supply.outcomes i) n p (dated job.turn p) (from p at)
          (fitting_becomes setup.calls job p (fitting i job p out at)));
    })).allowed

pub over_under_came : OverUnderCame
over_under_came kept setup s over =
    next_same setup (with_came kept setup.supply s) s
    (λ i can. over_can i can)
    (λ i h. absurd (none-some (Advances i) (sym over ∙ h)))
    ∙ over
  where
    none_past : (i : ℕ) (o : Given) → slice_get (map kept (thread_of s i).came) (length (thread_of s i).came) ≡ Some o
        → ⊥
    none_past i o q =
        let inside = slice_get_within (map kept (thread_of s i).came) (length (thread_of s i).came) o q in
        let size = length-map (thread_of s i).came kept in
        absurd (omega (arith, inside, size))

    over_can : (i : ℕ) → can_advance (under_came kept setup s) s i ≡ true → can_advance setup s i ≡ true
    over_can i can =
        (same_event setup (with_came kept setup.supply s) setup.supply (Advances i) s can
        (record { next = λ x p q a. q; outcome = λ job o out q fits a. absurd (none_past i o q) })).allowed

-- an event takes what came by its end
takes_came : (kept : Given → Given) → Keeps kept → (setup : Setup) (s last : State) (e : Event)
    → Adds (happens setup e s) last
    → TakesFrom setup.calls setup.supply (with_came kept setup.supply last) e s (happens setup e s)
takes_came kept keeps setup s last (Attempts i) h = tt
takes_came kept keeps setup s last (Advances i) h =
    let t = thread_of s i in
    let u = thread_of (advance setup i s) i in
    record {
      next = λ x p q a. q;
      outcome = λ job o out q fits a.
          let p = dated job.turn o in
          supplies_kept kept keeps (thread_of last i).came (length t.came) p
          (slice_get-prefix u.came (thread_of last i).came (length t.came) p (h.threads i).came
          (ap (λ (l : List Given). slice_get l (length t.came)) a ∙ slice_get-push t.came p));
    }

event_came : (kept : Given → Given) → Keeps kept → (setup : Setup) (s last : State) (e : Event)
    → is_allowed setup e s ≡ true → Adds (happens setup e s) last
    → SameEvent setup (with_came kept setup.supply last) e s (happens setup e s)
event_came kept keeps setup s last e can h = same_event setup setup.supply (with_came kept setup.supply last) e s can
    (takes_came kept keeps setup s last e h)

after_came : (kept : Given → Given) → Keeps kept → (setup : Setup) (s last : State) (o : Option Event)
    → next_event setup s ≡ o → Adds (after_event setup s o) last
    → after_event (under_came kept setup last) s o ≡ after_event setup s o
after_came kept keeps setup s last None q h = refl
after_came kept keeps setup s last (Some e) q h =
    (event_came kept keeps setup s last e (next_allowed setup s e q) h).leads

-- where the plain event leads on the way to last, and what came in last is
-- from the lists, the event is the same with what is kept of it
plain_came : (kept : Given → Given) → Keeps kept → (setup : Setup) (s last : State) → Adds (plain setup s) last
    → Follows setup.supply last → NextFits setup s last
    → plain (under_came kept setup last) s ≡ plain setup s
unfolding plain
plain_came kept keeps setup s last h g fitting =
    let next =
    next_same setup (with_came kept setup.supply last) s
    (λ i can. advance_came kept keeps setup s last i (λ o q. g.outcomes i (length (thread_of s i).came) o q) fitting
    can)
    (λ i q. (event_came kept keeps setup s last (Advances i) (next_allowed setup s (Advances i) q)
    (subst (λ (z : State). Adds z last) (ap (after_event setup s) q) h)).allowed) in
    ap (after_event (under_came kept setup last) s) next
    ∙ after_came kept keeps setup s last (next_event setup s) refl h

-- so many events later a thread that was outside has what fits its call, or is there still
next_fits : (setup : Setup) (first : State) (n k : ℕ) → k ≤ n
    → NextFits setup (plain_run setup k first) (plain_run setup n first)
next_fits setup first n k l i job o out at =
    let s = plain_run setup k first in
    let later : plain_run setup n first ≡ plain_run setup (n - k) s =
    ap (λ (m : ℕ). plain_run setup m first) (sum n k l) ∙ plain_run-sum setup k (n - k) first in
    by_way s (subst (λ (z : State). StaysOrFits setup job (thread_of s i) (thread_of z i)) (sym later)
    (outside_run setup (n - k) s i job out))
  where
    sum : (a b : ℕ) → b ≤ a → a ≡ b + (a - b)
    sum a b h = omega arith

    by_way : (s : State) → StaysOrFits setup job (thread_of (plain_run setup k first) i)
        (thread_of (plain_run setup n first) i) → fits_job setup.calls job o ≡ true
    by_way s (inl there) =
        let came = (thread_of (plain_run setup k first) i).came in
        let inside = slice_get_within came (length came) o
        (ap (λ (t : Thread). slice_get t.came (length came)) (sym there) ∙ at) in
        absurd (omega arith)
    by_way s (inr (p, there, fits)) = subst (λ (x : Given). fits_job setup.calls job x ≡ true)
        (same_Some p o (sym there ∙ at)) fits

came_same : (kept : Given → Given) → Keeps kept → (setup : Setup) (first : State) (n k : ℕ)
    → Follows setup.supply (plain_run setup n first) → k ≤ n
    → plain_run (under_came kept setup (plain_run setup n first)) k first ≡ plain_run setup k first
came_same kept keeps setup first n zero g l = plain_run-none (under_came kept setup (plain_run setup n first)) first
    ∙ sym (plain_run-none setup first)
came_same kept keeps setup first n (suc k) g l =
    let last = plain_run setup n first in
    let s = plain_run setup k first in
    let on : Adds (plain_run setup (suc k) first) last =
    subst (λ (j : ℕ). Adds (plain_run setup (suc k) first) (plain_run setup j first)) (rest n k l)
    (adds_later setup first (suc k) (n - suc k)) in
    plain_run-suc (under_came kept setup last) k first
    ∙ (ap (plain (under_came kept setup last)) (came_same kept keeps setup first n k g (omega arith))
    ∙ (plain_came kept keeps setup s last (subst (λ (z : State). Adds z last) (plain_run-suc setup k first) on) g
    (next_fits setup first n k (omega arith))
    ∙ sym (plain_run-suc setup k first)))
  where
    rest : (a b : ℕ) → suc b ≤ a → suc b + (a - suc b) ≡ a
    rest a b h = omega arith

plain_follows : (setup : Setup) (threads objects : ℕ) (w : World) (n : ℕ)
    → Follows setup.supply (plain_run setup n (start threads objects w))
plain_follows setup threads objects w n =
    let r = plain_leads setup (start threads objects w) n in
    subst (Follows setup.supply) r.ends (run_follows setup threads objects w r.events)

pub same_under_came : SameUnderCame
same_under_came kept setup threads objects w n k keeps l = came_same kept keeps setup (start threads objects w) n k
    (plain_follows setup threads objects w n) l

-- A run under the outcomes that came in another.
use Rattle.lock_model.specs.Runs.{Supplies}
use Rattle.machine.specs.Records.{as_logged}
use Rattle.std.proofs.Common.{◌≡◌, ℕ, zero, suc, ◌+◌, ◌≤◌, true, false, List, [], length, slice_get, Option, Some, None}
use Rattle.std.proofs.Common.{refl, sym, ap, ◌∙◌, subst, ⊎_elim, inl, inr, arith, map}
use Rattle.std.proofs.lemmas.Bool.{false≢true, cases_Bool, cond-true, cond-false}
use Rattle.std.proofs.lemmas.List.{get_or_past, length-replicate, length-map}
use Rattle.std.proofs.lemmas.Option.{none-some, same_Some, slice_get_within}
use Rattle.call_machine.specs.Plain.{has_ended}
use Rattle.call_machine.specs.Diverging.{diverging, if_diverging}
use Rattle.lock_machine.specs.Diverging.{is_diverging, diverging_in}
use Rattle.lock_model.specs.Machine.{Setup}
use Rattle.lock_model.specs.Schedule.{IsOver, after_event, plain, plain_run}
use Rattle.lock_model.specs.State.{Job, Phase, State, Thread, live_clocks, nobody, start, thread_of}
use Rattle.lock_model.specs.State.Phase.{Outside}
use Rattle.sequential_object.specs.Worlds.{World}
use Rattle.lock_model.specs.Transcripts.{outcomes_of}
use Rattle.logical_clocks.specs.TurnOrder.{turn_holder}
use Rattle.posix_terms.specs.declared.outcome.Given.{Given}
use Rattle.lock_model.specs.Came.{StaysOrFits, under_came}
use Rattle.lock_model.specs.Laws.{HaveEnded}
use Rattle.replayer.specs.Known.{Known}

-- ## The number of threads

-- stays as it is
pub plain_count : Known → (setup : Setup) (threads objects : ℕ) (w : World) (n : ℕ)
    → length (plain_run setup n (start threads objects w)).threads ≡ threads
plain_count known setup threads objects w n = known.count setup (start threads objects w) n ∙ length-replicate threads _

-- past it nothing came
pub came_past : (s : State) (i : ℕ) → length s.threads ≤ i → (thread_of s i).came ≡ []
came_past s i l = ap (λ (t : Thread). t.came) (get_or_past s.threads i nobody l)

-- ## Outcomes

-- what came for a thread are the outcomes of its rows
pub came_rows : Known → (setup : Setup) (threads objects : ℕ) (w : World) (n i : ℕ)
    → (thread_of (plain_run setup n (start threads objects w)) i).came
    ≡ outcomes_of i (plain_run setup n (start threads objects w)).rows
came_rows known setup threads objects w n i =
    known.rows setup threads objects w (plain_run setup n (start threads objects w))
    (known.arises setup threads objects w n) i

-- each outcome that came was supplied
pub came_supplied : Known → (setup : Setup) (threads objects : ℕ) (w : World) (n i k : ℕ) (o : Given)
    → slice_get (thread_of (plain_run setup n (start threads objects w)) i).came k ≡ Some o
    → Supplies (setup.supply.outcomes i) k o
came_supplied known setup threads objects w n i k o h =
    let to = known.leads setup (start threads objects w) n in
    (known.follows setup threads objects w to.events).outcomes i k o
    (ap (λ (z : State). slice_get (thread_of z i).came k) to.ends ∙ h)

-- ## More events

pub over_stays : (setup : Setup) (n : ℕ) (s : State) → IsOver setup s → plain_run setup n s ≡ s
unfolding plain_run plain
over_stays setup zero s over = refl
over_stays setup (suc n) s over = ap (plain_run setup n) (ap (after_event setup s) over) ∙ over_stays setup n s over

run_on : (setup : Setup) (n m k : ℕ) (s : State) → n + m ≡ k
    → plain_run setup k s ≡ plain_run setup m (plain_run setup n s)
unfolding plain_run
run_on setup zero m k s e = let same : k ≡ m = omega (arith, e) in ap (λ (j : ℕ). plain_run setup j s) same
run_on setup (suc n) m zero s e = absurd (omega arith)
run_on setup (suc n) m (suc k) s e = run_on setup n m k (plain setup s) (omega (arith, e))

-- where a run is over after so many events, it is there after any more
pub over_at : (setup : Setup) (first : State) (n m : ℕ) → IsOver setup (plain_run setup n first)
    → plain_run setup (m + n) first ≡ plain_run setup n first
over_at setup first n m over = run_on setup n m (m + n) first (omega arith)
    ∙ over_stays setup m (plain_run setup n first) over

-- ## A thread that diverged

divergence_outside : (setup : Setup) (p : Phase) (g : Option Given) → diverging_in setup p g ≡ true → (job : Job)
    × (p ≡ Outside job)
divergence_outside setup (Outside job) g h = (job, refl)
divergence_outside setup p g h = absurd (false≢true h)

if_diverging_outside : (setup : Setup) (s : State) (o : Option ℕ) (i : ℕ) → if_diverging setup s o ≡ Some i
    → (job : Job) × ((thread_of s i).phase ≡ Outside job)
if_diverging_outside setup s None i h = absurd (none-some i h)
if_diverging_outside setup s (Some j) i h =
    ⊎_elim
    (λ (yes : is_diverging setup s j ≡ true).
    let same : j ≡ i = same_Some j i (sym (cond-true (is_diverging setup s j) (Some j) None yes) ∙ h) in
    subst (λ (k : ℕ). (job : Job) × ((thread_of s k).phase ≡ Outside job)) same
    (divergence_outside setup (thread_of s j).phase _ yes))
    (λ (no : is_diverging setup s j ≡ false).
    absurd (none-some i (sym (cond-false (is_diverging setup s j) (Some j) None no) ∙ h)))
    (cases_Bool (is_diverging setup s j))

-- is outside
pub diverged_outside : (setup : Setup) (s : State) (i : ℕ) → diverging setup s ≡ Some i → (job : Job)
    × ((thread_of s i).phase ≡ Outside job)
unfolding diverging
diverged_outside setup s i h = if_diverging_outside setup s _ i h

-- a log has no more than came
none_logged : (version : ℕ) (xs : List Given) (o : Given) → slice_get (map (as_logged version) xs) (length xs) ≡ Some o
    → ⊥
none_logged version xs o h = let inside = slice_get_within (map (as_logged version) xs) (length xs) o h in
    let size = length-map xs (as_logged version) in omega (arith, inside, size)

pub none_behind : (xs : List Given) (o : Given) → slice_get xs (length xs) ≡ Some o → ⊥
none_behind xs o h = omega (arith, slice_get_within xs (length xs) o h)

-- and under the outcomes that came it is there at the end: no more came for it
pub stays_outside : Known → (version : ℕ) (setup : Setup) (threads objects : ℕ) (w : World) (n m i : ℕ) (job : Job)
    → (thread_of (plain_run setup n (start threads objects w)) i).phase ≡ Outside job
    → (thread_of (plain_run (under_came (as_logged version) setup (plain_run setup n (start threads objects w))) (n + m)
    (start threads objects w)) i).phase ≡ Outside job
stays_outside known version setup threads objects w n m i job is =
    let first = start threads objects w in
    let last = plain_run setup n first in
    let under = under_came (as_logged version) setup last in
    let here : plain_run under n first ≡ last = known.same (as_logged version) setup threads objects w n n
    (known.keeps version) (omega arith) in
    let out : (thread_of (plain_run under n first) i).phase ≡ Outside job =
    ap (λ (z : State). (thread_of z i).phase) here ∙ is in
    split (ap (λ (z : State). (thread_of z i).came) here) out (known.stays under first n m i job out)
  where
    split : (thread_of (plain_run (under_came (as_logged version) setup (plain_run setup n (start threads objects w))) n
        (start threads objects w)) i).came ≡ (thread_of (plain_run setup n (start threads objects w)) i).came
        → (thread_of (plain_run (under_came (as_logged version) setup (plain_run setup n (start threads objects w))) n
        (start threads objects w)) i).phase ≡ Outside job
        → StaysOrFits (under_came (as_logged version) setup (plain_run setup n (start threads objects w))) job
        (thread_of (plain_run (under_came (as_logged version) setup (plain_run setup n (start threads objects w))) n
        (start threads objects w)) i)
        (thread_of (plain_run (under_came (as_logged version) setup (plain_run setup n (start threads objects w)))
        (n + m) (start threads objects w)) i)
        → (thread_of (plain_run (under_came (as_logged version) setup (plain_run setup n (start threads objects w)))
        (n + m) (start threads objects w)) i).phase ≡ Outside job
    split came out (inl there) = ap (λ (t : Thread). t.phase) there ∙ out
    split came out (inr (o, next, fits)) =
        let supplied = came_supplied known
        (under_came (as_logged version) setup (plain_run setup n (start threads objects w))) threads objects w
        (n + m) i _ o next in
        absurd (none_logged version (thread_of (plain_run setup n (start threads objects w)) i).came supplied.0
        (ap (λ xs. slice_get (map (as_logged version) (thread_of (plain_run setup n (start threads objects w)) i).came)
        (length xs)) (sym came) ∙ supplied.1))

-- a thread that is outside has not ended, so some thread has the turn
pub outside_turn : Known → (s : State) (i : ℕ) (job : Job) → (thread_of s i).phase ≡ Outside job → (k : ℕ)
    × (turn_holder (live_clocks s) ≡ Some k)
outside_turn known s i job is = ⊎_elim (λ (ended : HaveEnded s). absurd (false≢true (ap has_ended (sym is ∙ ended i))))
    (λ turn. turn) (known.turn s)

-- A thread in a call has one row without an answer, that of its call.
use Rattle.std.proofs.Common.{◌≡◌, ℕ, zero, suc, List, [], ◌∷◌, slice_get, Some, None, Bool, true, false, is_none, ◌==◌}
use Rattle.std.proofs.Common.{sym, refl, ap, ◌∙◌, subst, ⊎_elim}
use Rattle.std.proofs.lemmas.Bool.{false≢true, eqb-true, and_parts, cond-true, cases_Bool}
use Rattle.std.proofs.lemmas.Option.{same_Some, none-some}
use Rattle.lock_model.specs.CallTable.{CallTable}
use Rattle.lock_model.specs.Legal.{handed_on}
use Rattle.lock_model.specs.Machine.{Setup, Event, is_open}
use Rattle.lock_model.specs.Runs.{Arises, run, supplied, own}
use Rattle.lock_model.specs.State.{Job, Phase, Row, State, thread_of, start}
use Rattle.lock_model.specs.State.Phase.{Working, WantsTable, WantsObject, Granted, ToOutside, Outside, Recorded}
use Rattle.lock_model.specs.State.Phase.{Blocked, Ended}
use Rattle.sequential_object.specs.Worlds.{World}
use Rattle.sequential_object.specs.Step.{Carried}
use Rattle.posix_terms.specs.declared.transcript.Turn.{Turn}
use Rattle.lock_model.specs.Held.{job_in, AreHeld, row_of, HaveRows}
use Rattle.lock_model.proofs.Walk.{Holding, Pending, Part, next_world, opened, opened_other, Walk, none_is, opened_off}
use Rattle.lock_model.proofs.Kept.{busy_phase, busy_found, right_run}
use Rattle.lock_model.proofs.Held.{held_run}

pub holding_job : (calls : CallTable) (p : Phase) (job j : Job) → job_in p ≡ Some job → Holding calls p j → j ≡ job
holding_job calls (Granted k) job j e h = sym h.0 ∙ same_Some k job e
holding_job calls (ToOutside k) job j e h = sym h.0 ∙ same_Some k job e
holding_job calls (Outside k) job j e h = sym h.0 ∙ same_Some k job e
holding_job calls (Recorded k) job j e h = sym h.0 ∙ same_Some k job e
holding_job calls Working job j e h = absurd h
holding_job calls (WantsTable c b) job j e h = absurd h
holding_job calls (WantsObject c b clock n way) job j e h = absurd h
holding_job calls (Blocked c b) job j e h = absurd h
holding_job calls Ended job j e h = absurd h

pub job_busy : (p : Phase) (job : Job) → job_in p ≡ Some job → busy_phase p ≡ true
job_busy (Granted k) job e = refl
job_busy (ToOutside k) job e = refl
job_busy (Outside k) job e = refl
job_busy (Recorded k) job e = refl
job_busy Working job e = absurd (none-some job e)
job_busy (WantsTable c b) job e = absurd (none-some job e)
job_busy (WantsObject c b clock n way) job e = absurd (none-some job e)
job_busy (Blocked c b) job e = absurd (none-some job e)
job_busy Ended job e = absurd (none-some job e)

-- where a thread's call has its row
abbrev pub IsAt : List Row → Job → ℕ → Type 0
IsAt rs job i = (k : ℕ) × (slice_get rs k ≡ Some (row_of job)) × (job.turn.thread ≡ i)

pending_row : (calls : CallTable) (s : State) (i : ℕ) (job : Job) (w : World) (b : Carried) (r : Row) (rs : List Row)
    → job_in (thread_of s i).phase ≡ Some job → r.turn.thread ≡ i → r.answer ≡ None → Pending calls s w b r rs
    → IsAt (r ∷ rs) job i
pending_row calls s i job w b r rs e mine none p =
    let same : p.job ≡ job = holding_job calls (thread_of s i).phase job p.job e
    (subst (λ (n : ℕ). Holding calls (thread_of s n).phase p.job) mine p.holding) in
    let row : r ≡ row_of p.job = λ k. record {
      turn = sym p.turn k;
      call = sym p.call k;
      outcome = sym p.outcome k;
      answer = none k;
    } in (
      0,
      ap (λ (q : Row). Some q) row
          ∙ ap (λ (j : Job). Some (row_of j)) same,
      ap (λ (j : Job). j.turn.thread) (sym same)
          ∙ (ap (λ (t : Turn). t.thread) p.turn ∙ mine),
    )

find_row : (calls : CallTable) (s : State) (i : ℕ) (job : Job) (w : World) (carried : ℕ → Carried) (busy : ℕ
    → Bool) (rs : List Row) → job_in (thread_of s i).phase ≡ Some job → busy i ≡ false → Walk calls s w carried busy rs
    → IsAt rs job i
find_row calls s i job w carried busy [] e free h =
    absurd (busy_found calls s i (job_busy (thread_of s i).phase job e) w carried busy free h)
find_row calls s i job w carried busy (r ∷ rs) e free h =
    let t = r.turn.thread in
    ⊎_elim
    (λ (is : is_open i r ≡ true).
    let parts = and_parts (t == i) (is_none r.answer) is in
    let none = none_is r.answer parts.1 in
    pending_row calls s i job w (carried t) r rs e (eqb-true t i parts.0) none
    (subst (Part calls s w (carried t) r rs) none h.1))
    (λ (off : is_open i r ≡ false).
    let g = find_row calls s i job (next_world calls w (carried t) r r.answer) (handed_on calls carried r)
    (opened busy r) rs e (opened_off busy r i off free) h.2 in
    (suc g.0, g.1, g.2))
    (cases_Bool (is_open i r))

no_more_open : (calls : CallTable) (s : State) (i k : ℕ) (q : Row) (w : World) (carried : ℕ → Carried) (busy : ℕ
    → Bool) (rs : List Row) → busy i ≡ true → Walk calls s w carried busy rs → slice_get rs k ≡ Some q
    → is_open i q ≡ true → ⊥
no_more_open calls s i k q w carried busy [] b h e is = none-some q e
no_more_open calls s i zero q w carried busy (r ∷ rs) b h e is =
    let mine : r.turn.thread ≡ i = ap (λ (x : Row). x.turn.thread) (same_Some r q e)
    ∙ eqb-true q.turn.thread i (and_parts (q.turn.thread == i) (is_none q.answer) is).0 in
    false≢true (sym h.0 ∙ (ap busy mine ∙ b))
no_more_open calls s i (suc k) q w carried busy (r ∷ rs) b h e is =
    let off : r.turn.thread ≡ i → ⊥ = λ p. false≢true (sym h.0 ∙ (ap busy p ∙ b)) in
    no_more_open calls s i k q (next_world calls w (carried r.turn.thread) r r.answer) (handed_on calls carried r)
    (opened busy r) rs (opened_other busy r i off ∙ b) h.2 e is

opened_by : (busy : ℕ → Bool) (r q : Row) (i : ℕ) → Some r ≡ Some q → is_open i q ≡ true → opened busy r i ≡ true
opened_by busy r q i e is =
    let mine : is_open i r ≡ true = ap (is_open i) (same_Some r q e) ∙ is in
    let parts = and_parts (r.turn.thread == i) (is_none r.answer) mine in
    cond-true (r.turn.thread == i) (is_none r.answer) (busy i) parts.0 ∙ parts.1

one_open : (calls : CallTable) (s : State) (i j k : ℕ) (r q : Row) (w : World) (carried : ℕ → Carried) (busy : ℕ
    → Bool) (rs : List Row) → Walk calls s w carried busy rs
    → slice_get rs j ≡ Some r → slice_get rs k ≡ Some q → is_open i r ≡ true → is_open i q ≡ true → j ≡ k
one_open calls s i j k r q w carried busy [] h e f a b = absurd (none-some r e)
one_open calls s i zero zero r q w carried busy (x ∷ rs) h e f a b = refl
one_open calls s i zero (suc k) r q w carried busy (x ∷ rs) h e f a b =
    absurd (no_more_open calls s i k q (next_world calls w (carried x.turn.thread) x x.answer)
    (handed_on calls carried x) (opened busy x) rs (opened_by busy x r i e a) h.2 f b)
one_open calls s i (suc j) zero r q w carried busy (x ∷ rs) h e f a b =
    absurd (no_more_open calls s i j r (next_world calls w (carried x.turn.thread) x x.answer)
    (handed_on calls carried x) (opened busy x) rs (opened_by busy x q i f b) h.2 e a)
one_open calls s i (suc j) (suc k) r q w carried busy (x ∷ rs) h e f a b =
    ap suc (one_open calls s i j k r q (next_world calls w (carried x.turn.thread) x x.answer)
    (handed_on calls carried x) (opened busy x) rs h.2 e f a b)

pub rows_run : (setup : Setup) (threads objects : ℕ) (w : World) (events : List Event)
    → HaveRows (run setup events (start threads objects w))
rows_run setup threads objects w events =
    let s = run setup events (start threads objects w) in
    let right = right_run setup threads objects w events in
    record {
      own = λ i job e. find_row setup.calls s i job w (λ k. setup.calls.nothing_carried) (λ k. false) s.rows e refl
          right;
      one = λ i j k r q e f a b. one_open setup.calls s i j k r q w (λ n. setup.calls.nothing_carried) (λ n. false)
          s.rows right e f a b;
    }

pub held_arisen : (setup : Setup) (threads objects : ℕ) (w : World) (s : State)
    → Arises setup (start threads objects w) s → AreHeld s
held_arisen setup threads objects w s h =
    subst AreHeld h.ends (held_run (supplied setup (own s)) threads objects w h.events)

pub rows_arisen : (setup : Setup) (threads objects : ℕ) (w : World) (s : State)
    → Arises setup (start threads objects w) s → HaveRows s
rows_arisen setup threads objects w s h =
    subst HaveRows h.ends (rows_run (supplied setup (own s)) threads objects w h.events)

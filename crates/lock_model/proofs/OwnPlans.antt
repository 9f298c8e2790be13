-- The calls of threads were planned in the worlds that they found.
use Rattle.std.proofs.Common.{◌≡◌, ℕ, List, [], ◌∷◌, Some, None, Bool, true, false, is_none, ◌==◌, sym, refl, ap, ◌∙◌}
use Rattle.std.proofs.Common.{subst, ⊎_elim}
use Rattle.std.proofs.lemmas.Bool.{eqb-true, and_parts, cases_Bool}
use Rattle.lock_model.specs.CallTable.{CallTable, Way, keeps_table}
use Rattle.lock_model.specs.CallTable.Plan.{Object}
use Rattle.lock_model.specs.Held.{HavePlans, job_in}
use Rattle.lock_model.specs.Legal.{changed, handed_on}
use Rattle.lock_model.specs.Machine.{Setup, fits_job, is_open}
use Rattle.lock_model.specs.Runs.{Arises, own, supplied}
use Rattle.lock_model.specs.State.{Job, Phase, Row, State, start, thread_of}
use Rattle.lock_model.specs.State.Phase.{Outside, Recorded, WantsObject}
use Rattle.sequential_object.specs.Worlds.{World}
use Rattle.sequential_object.specs.Step.{Carried}
use Rattle.posix_terms.specs.Calls.{Call}
use Rattle.posix_terms.specs.declared.outcome.Given.{Given}
use Rattle.lock_model.proofs.Kept.{busy_found, right_run}
use Rattle.lock_model.proofs.OwnRows.{holding_job, job_busy}
use Rattle.lock_model.proofs.Walk.{AtEnd, Holding, Part, Pending, Ready, Walk, next_world, none_is, opened, opened_off}

-- ## A thread that wants an object

wants_at_end : (calls : CallTable) (s : State) (i n clock : ℕ) (c : Call) (b : Carried) (way : Way) (w : World)
    (carried : ℕ → Carried) (busy : ℕ → Bool)
    → (thread_of s i).phase ≡ WantsObject c b clock n way → AtEnd calls s w carried busy
    → calls.plan s.world c b ≡ Object n way
wants_at_end calls s i n clock c b way w carried busy is end =
    let ready : Ready calls w s.table i (WantsObject c b clock n way) (carried i) (busy i) =
    subst (λ (p : Phase). Ready calls w s.table i p (carried i) (busy i)) is (end.ready i) in
    ap (λ (x : World). calls.plan x c b) end.world ∙ ready.2

wants_now : (calls : CallTable) (s : State) (i n clock : ℕ) (c : Call) (b : Carried) (way : Way) (w : World)
    (carried : ℕ → Carried) (busy : ℕ → Bool) (rs : List Row)
    → (thread_of s i).phase ≡ WantsObject c b clock n way → Walk calls s w carried busy rs
    → calls.plan s.world c b ≡ Object n way
wants_now calls s i n clock c b way w carried busy [] is h = wants_at_end calls s i n clock c b way w carried busy is h
wants_now calls s i n clock c b way w carried busy (r ∷ rs) is h =
    wants_now calls s i n clock c b way (next_world calls w (carried r.turn.thread) r r.answer)
    (handed_on calls carried r) (opened busy r) rs is h.2

-- ## A thread in a call

-- what its job says of the world that it found
pub record Planned (calls : CallTable) (s : State) (i : ℕ) (job : Job) : Type 0 where
  pub found : job.plan ≡ calls.plan job.found job.call job.carried
  pub kept : keeps_table job.plan ≡ true → job.found ≡ s.world
  pub holding : Holding calls (thread_of s i).phase job

-- a row that is the last and keeps the table leaves the world as it was
kept_world : (calls : CallTable) (s : State) (w : World) (carried : ℕ → Carried) (busy : ℕ → Bool) (r : Row)
    (rs : List Row) (job : Job)
    → job.found ≡ w → job.plan ≡ calls.plan w r.call (carried r.turn.thread) → keeps_table job.plan ≡ true → rs ≡ []
    → Walk calls s (next_world calls w (carried r.turn.thread) r None) (handed_on calls carried r) (opened busy r)
    rs → job.found ≡ s.world
kept_world calls s w carried busy r rs job found plan keeps none h =
    let b = carried r.turn.thread in
    let end : AtEnd calls s (next_world calls w b r None) (handed_on calls carried r) (opened busy r) =
    subst (λ (l : List Row). Walk calls s (next_world calls w b r None) (handed_on calls carried r)
    (opened busy r) l) none h in
    found ∙ sym (end.world ∙ ap (changed calls w r.call b None) (sym (ap keeps_table plan) ∙ keeps))

planned_row : (calls : CallTable) (s : State) (i : ℕ) (job : Job) (w : World) (carried : ℕ → Carried) (busy : ℕ
    → Bool) (r : Row) (rs : List Row)
    → job_in (thread_of s i).phase ≡ Some job → r.turn.thread ≡ i → r.answer ≡ None
    → Pending calls s w (carried r.turn.thread) r rs
    → Walk calls s (next_world calls w (carried r.turn.thread) r None) (handed_on calls carried r) (opened busy r)
    rs → Planned calls s i job
planned_row calls s i job w carried busy r rs e mine none p h =
    let held : Holding calls (thread_of s i).phase p.job = subst (λ (n : ℕ). Holding calls (thread_of s n).phase p.job)
    mine p.holding in
    let same : p.job ≡ job = holding_job calls (thread_of s i).phase job p.job e held in
    subst (Planned calls s i) same (record {
      found = p.plan ∙ (λ k. calls.plan (sym p.found k) (sym p.call k) (sym p.carried k));
      kept = λ q. kept_world calls s w carried busy r rs p.job p.found p.plan q (p.keeps q).0 h;
      holding = held;
    })

find_job : (calls : CallTable) (s : State) (i : ℕ) (job : Job) (w : World) (carried : ℕ → Carried) (busy : ℕ
    → Bool) (rs : List Row) → job_in (thread_of s i).phase ≡ Some job → busy i ≡ false → Walk calls s w carried busy rs
    → Planned calls s i job
find_job calls s i job w carried busy [] e free h =
    absurd (busy_found calls s i (job_busy (thread_of s i).phase job e) w carried busy free h)
find_job calls s i job w carried busy (r ∷ rs) e free h =
    let t = r.turn.thread in
    ⊎_elim
    (λ (is : is_open i r ≡ true).
    let parts = and_parts (t == i) (is_none r.answer) is in
    let none = none_is r.answer parts.1 in
    let rest = subst (λ a. Walk calls s (next_world calls w (carried t) r a) (handed_on calls carried r) (opened busy r)
    rs) none h.2 in
    planned_row calls s i job w carried busy r rs e (eqb-true t i parts.0) none
    (subst (Part calls s w (carried t) r rs) none h.1) rest)
    (λ (off : is_open i r ≡ false). find_job calls s i job (next_world calls w (carried t) r r.answer)
    (handed_on calls carried r) (opened busy r) rs e (opened_off busy r i off free) h.2)
    (cases_Bool (is_open i r))

-- no outcome came yet
none_came : (calls : CallTable) (s : State) (i : ℕ) (job : Job) → (thread_of s i).phase ≡ Outside job
    → Holding calls (thread_of s i).phase job → job.outcome ≡ None
none_came calls s i job is held =
    (let now : Holding calls (Outside job) job = subst (λ (p : Phase). Holding calls p job) is held in now.2)

-- an outcome that came fits
came_fits : (calls : CallTable) (s : State) (i : ℕ) (job : Job) → (thread_of s i).phase ≡ Recorded job
    → Holding calls (thread_of s i).phase job → (o : Given) × (job.outcome ≡ Some o) × (fits_job calls job o ≡ true)
came_fits calls s i job is held =
    (let now : Holding calls (Recorded job) job = subst (λ (p : Phase). Holding calls p job) is held in
    (now.2.0, now.2.1, now.2.2))

pub plans_arisen : (setup : Setup) (threads objects : ℕ) (w : World) (s : State)
    → Arises setup (start threads objects w) s → HavePlans setup.calls s
plans_arisen setup threads objects w s h =
    let right = subst (λ (z : State). Walk setup.calls z w (λ k. setup.calls.nothing_carried) (λ k. false) z.rows)
    h.ends (right_run (supplied setup (own s)) threads objects w h.events) in
    let job_at = λ (i : ℕ) (job : Job) (e : job_in (thread_of s i).phase ≡ Some job). find_job setup.calls s i job w
    (λ k. setup.calls.nothing_carried) (λ k. false) s.rows e refl right in
    record {
      wants = λ i c b clock n way is. wants_now setup.calls s i n clock c b way w (λ k. setup.calls.nothing_carried)
          (λ k. false) s.rows is right;
      found = λ i job e. (job_at i job e).found;
      kept = λ i job e keeps. (job_at i job e).kept keeps;
      waits = λ i job is. none_came setup.calls s i job is (job_at i job (ap job_in is)).holding;
      came = λ i job is. came_fits setup.calls s i job is (job_at i job (ap job_in is)).holding;
    }

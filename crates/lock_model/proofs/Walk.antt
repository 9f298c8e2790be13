-- The rows, gone over in their order: what each was granted with, and what the threads stand ready for after them.
use Rattle.std.proofs.Common.{◌≡◌, ℕ, List, [], ◌∷◌, ◌++◌, map, Option, Some, None, Bool, true, false, is_none}
use Rattle.std.proofs.Common.{if◌then◌else◌, ◌==◌, sym, refl, ap, ◌∙◌, subst, ⊎_elim}
use Rattle.std.proofs.lemmas.Bool.{false≢true, eqb-true, eq-eqb, ne_eqb, and_parts, and_from, and_cases, cond-true}
use Rattle.std.proofs.lemmas.Bool.{cond-false, cond_both, cases_eq, cases_Bool}
use Rattle.det_mutex.specs.declared.lock.DetLock.{DetLock}
use Rattle.lock_model.specs.CallTable.{CallTable, keeps_table, goes_outside}
use Rattle.sequential_object.specs.declared.turn_end.TurnEnd.{TurnEnd}
use Rattle.lock_model.specs.CallTable.Plan.{Object}
use Rattle.lock_model.specs.Legal.{IsRight, changed, handed_on, carried_after}
use Rattle.lock_model.specs.Machine.{Effect, fits_job, is_number, world_after, is_open, first_of, filled_by, row_after}
use Rattle.lock_model.specs.State.{Job, Phase, Thread, Row, State, thread_of}
use Rattle.lock_model.specs.State.Phase.{Working, WantsTable, WantsObject, Granted, ToOutside, Outside, Recorded}
use Rattle.lock_model.specs.State.Phase.{Blocked, Ended}
use Rattle.sequential_object.specs.Worlds.{World}
use Rattle.posix_terms.specs.declared.outcome.Given.{Given}
use Rattle.sequential_object.specs.Step.{Carried}
use Rattle.lock_model.proofs.Commute.{row_open, row_closed, row_other}

-- ## What open rows stand for

-- the job of a thread in a call, by its phase
abbrev pub Holding : CallTable → Phase → Job → Type 0
Holding calls (Granted j) job = (j ≡ job) × (goes_outside job.plan ≡ false) × (job.outcome ≡ None)
Holding calls (ToOutside j) job = (j ≡ job) × (goes_outside job.plan ≡ true) × (job.outcome ≡ None)
Holding calls (Outside j) job = (j ≡ job) × (goes_outside job.plan ≡ true) × (job.outcome ≡ None)
Holding calls (Recorded j) job = (j ≡ job) × (goes_outside job.plan ≡ true)
    × ((o : Given) × (job.outcome ≡ Some o) × (fits_job calls job o ≡ true) × (o.clock ≡ Some job.turn.clock))
Holding calls p job = ⊥

-- an open row, where its call found this world and carried this: its thread has its
-- job and, if the call keeps the table, holds that and has the last row
pub record Pending (calls : CallTable) (s : State) (w : World) (b : Carried) (r : Row) (rs : List Row) : Type 0 where
  pub job : Job
  pub holding : Holding calls (thread_of s r.turn.thread).phase job
  pub call : job.call ≡ r.call
  pub turn : job.turn ≡ r.turn
  pub found : job.found ≡ w
  pub carried : job.carried ≡ b
  pub plan : job.plan ≡ calls.plan w r.call b
  pub outcome : job.outcome ≡ r.outcome
  pub keeps : keeps_table job.plan ≡ true → (rs ≡ []) × (is_number s.table.holder r.turn.thread ≡ true)

abbrev pub Part : CallTable → State → World → Carried → Row → List Row → Option TurnEnd → Type 0
Part calls s w b r rs None = Pending calls s w b r rs
Part calls s w b r rs (Some a) = IsRight calls w b r

-- the world after a row. A call that keeps the table changes it at its answer
abbrev pub next_world : CallTable → World → Carried → Row → Option TurnEnd → World
next_world calls w b r None = changed calls w r.call b None (keeps_table (calls.plan w r.call b))
next_world calls w b r (Some a) = changed calls w r.call b r.outcome (keeps_table (calls.plan w r.call b))

-- which threads have an open row
abbrev pub opened : (ℕ → Bool) → Row → ℕ → Bool
opened busy r k = if r.turn.thread == k then is_none r.answer else busy k

-- after all rows, thread k in this phase
abbrev pub Ready : CallTable → World → DetLock → ℕ → Phase → Carried → Bool → Type 0
Ready calls w table k Working b busy = (busy ≡ false) × (b ≡ calls.nothing_carried)
Ready calls w table k (WantsTable c d) b busy = (busy ≡ false) × (b ≡ d)
Ready calls w table k (WantsObject c d clock n way) b busy = (busy ≡ false) × (b ≡ d)
    × (calls.plan w c d ≡ Object n way) × (is_number table.holder k ≡ true)
Ready calls w table k (Blocked c d) b busy = (busy ≡ false) × (b ≡ d)
Ready calls w table k Ended b busy = Unit {0}
Ready calls w table k p b busy = busy ≡ true

pub record AtEnd (calls : CallTable) (s : State) (w : World) (carried : ℕ → Carried) (busy : ℕ → Bool) : Type 0 where
  pub world : s.world ≡ w
  pub ready : (k : ℕ) → Ready calls w s.table k (thread_of s k).phase (carried k) (busy k)

-- each row in turn, from this world
abbrev pub Walk : CallTable → State → World → (ℕ → Carried) → (ℕ → Bool) → List Row → Type 0
Walk calls s w carried busy [] = AtEnd calls s w carried busy
Walk calls s w carried busy (r ∷ rs) =
    (busy r.turn.thread ≡ false)
    × Part calls s w (carried r.turn.thread) r rs r.answer
    × Walk calls s (next_world calls w (carried r.turn.thread) r r.answer) (handed_on calls carried r) (opened busy r)
    rs

-- ## Small facts

pub first_none : (o : Option Given) → first_of o None ≡ o
first_none None = refl
first_none (Some x) = refl

pub none_is : {A : Type 0} (o : Option A) → is_none o ≡ true → o ≡ None
none_is None h = refl
none_is (Some x) h = absurd (false≢true h)

pub world_none : (i : ℕ) (l : DetLock) (w : World) → world_after i l None w ≡ w
unfolding world_after
world_none i l w = cond_both (is_number l.holder i) w w (λ (v : World). v ≡ w) (λ yes. refl) (λ off. refl)

-- what a row hands on to its own thread and to another
pub handed_other : (calls : CallTable) (carried : ℕ → Carried) (r : Row) (k : ℕ) → (r.turn.thread ≡ k → ⊥)
    → handed_on calls carried r k ≡ carried k
handed_other calls carried r k apart = cond-false (r.turn.thread == k) _ _ (ne_eqb r.turn.thread k apart)

pub handed_mine : (calls : CallTable) (carried : ℕ → Carried) (r : Row)
    → handed_on calls carried r r.turn.thread ≡ carried_after calls (carried r.turn.thread) r.answer
handed_mine calls carried r = cond-true (r.turn.thread == r.turn.thread) _ _ (eq-eqb r.turn.thread r.turn.thread refl)

pub opened_other : (busy : ℕ → Bool) (r : Row) (k : ℕ) → (r.turn.thread ≡ k → ⊥) → opened busy r k ≡ busy k
opened_other busy r k apart = cond-false (r.turn.thread == k) _ _ (ne_eqb r.turn.thread k apart)

pub opened_mine : (busy : ℕ → Bool) (r : Row) → opened busy r r.turn.thread ≡ is_none r.answer
opened_mine busy r = cond-true (r.turn.thread == r.turn.thread) _ _ (eq-eqb r.turn.thread r.turn.thread refl)

-- ## The same rows, in another state

Part-map : (calls : CallTable) (s z : State) (w : World) (b : Carried) (r : Row) (rs us : List Row) (o : Option TurnEnd)
    → (Pending calls s w b r rs → Pending calls z w b r us) → Part calls s w b r rs o → Part calls z w b r us o
Part-map calls s z w b r rs us None f h = f h
Part-map calls s z w b r rs us (Some a) f h = h

pub walk_same : (calls : CallTable) (s z : State) (w : World) (carried : ℕ → Carried) (busy : ℕ → Bool) (rs : List Row)
    → ((v : World) (b : Carried) (r : Row) (us : List Row) → Pending calls s v b r us → Pending calls z v b r us)
    → ((v : World) (c : ℕ → Carried) (o : ℕ → Bool) → AtEnd calls s v c o → AtEnd calls z v c o)
    → Walk calls s w carried busy rs → Walk calls z w carried busy rs
walk_same calls s z w carried busy [] part last h = last w carried busy h
walk_same calls s z w carried busy (r ∷ rs) part last h = (
  h.0,
  Part-map calls s z w (carried r.turn.thread) r rs rs r.answer (part w (carried r.turn.thread) r rs) h.1,
  walk_same calls s z (next_world calls w (carried r.turn.thread) r r.answer) (handed_on calls carried r)
      (opened busy r) rs part last h.2,
)

-- ## One row more

pub walk_push : (calls : CallTable) (s z : State) (w : World) (carried : ℕ → Carried) (busy : ℕ → Bool) (rs : List Row)
    (new : Row)
    → ((v : World) (b : Carried) (r : Row) (us : List Row) → Pending calls s v b r us
    → Pending calls z v b r (us ++ new ∷ []))
    → ((v : World) (c : ℕ → Carried) (o : ℕ → Bool) → AtEnd calls s v c o → Walk calls z v c o (new ∷ []))
    → Walk calls s w carried busy rs → Walk calls z w carried busy (rs ++ new ∷ [])
walk_push calls s z w carried busy [] new part last h = last w carried busy h
walk_push calls s z w carried busy (r ∷ rs) new part last h = (
  h.0,
  Part-map calls s z w (carried r.turn.thread) r rs (rs ++ new ∷ []) r.answer (part w (carried r.turn.thread) r rs) h.1,
  walk_push calls s z (next_world calls w (carried r.turn.thread) r r.answer) (handed_on calls carried r)
      (opened busy r) rs new part last h.2,
)

-- ## The rows after the open row of thread i

-- two ways of going on that differ for thread i alone
pub record Beside (i : ℕ) (c a : ℕ → Carried) (o p : ℕ → Bool) : Type 0 where
  pub carried : (k : ℕ) → (i ≡ k → ⊥) → a k ≡ c k
  pub busy : (k : ℕ) → (i ≡ k → ⊥) → p k ≡ o k

-- a pending row of another thread
abbrev pub PartOther : CallTable → State → State → ℕ → Effect → Type 0
PartOther calls s z i e = (v : World) (b : Carried) (r : Row) (us : List Row) → (r.turn.thread ≡ i → ⊥)
    → Pending calls s v b r us → Pending calls z v b r (map (row_after i e) us)

abbrev pub LastBeside : CallTable → State → State → ℕ → Carried → Bool → Type 0
LastBeside calls s z i d q =
    (v : World) (c a : ℕ → Carried) (o p : ℕ → Bool) → Beside i c a o p → o i ≡ true → a i ≡ d → p i ≡ q
    → AtEnd calls s v c o → AtEnd calls z v a p

pub walk_tail : (calls : CallTable) (s z : State) (i : ℕ) (e : Effect) (w : World) (carried also : ℕ
    → Carried) (busy oped : ℕ → Bool) (d : Carried) (q : Bool) (rs : List Row)
    → PartOther calls s z i e → LastBeside calls s z i d q
    → Beside i carried also busy oped → busy i ≡ true → also i ≡ d → oped i ≡ q
    → Walk calls s w carried busy rs → Walk calls z w also oped (map (row_after i e) rs)
walk_tail calls s z i e w carried also busy oped d q [] part last beside still given free h =
    last w carried also busy oped beside still given free h
walk_tail calls s z i e w carried also busy oped d q (r ∷ rs) part last beside still given free h =
    let t = r.turn.thread in
    let off : t ≡ i → ⊥ = λ p. false≢true (sym h.0 ∙ (ap busy p ∙ still)) in
    let same : also t ≡ carried t = beside.carried t (λ p. off (sym p)) in
    subst (λ (x : Row). Walk calls z w also oped (x ∷ map (row_after i e) rs)) (sym (row_other i e r off)) (
      beside.busy t (λ p. off (sym p)) ∙ h.0,
      subst (λ (b : Carried). Part calls z w b r (map (row_after i e) rs) r.answer) (sym same)
          (Part-map calls s z w (carried t) r rs (map (row_after i e) rs) r.answer (part w (carried t) r rs off) h.1),
      subst (λ (b : Carried). Walk calls z (next_world calls w b r r.answer) (handed_on calls also r) (opened oped r)
          (map (row_after i e) rs)) (sym same)
          (walk_tail calls s z i e (next_world calls w (carried t) r r.answer) (handed_on calls carried r)
          (handed_on calls also r) (opened busy r) (opened oped r) d q rs part last
          (record {
            carried = λ k apart. ap (λ (b : Carried). if t == k then carried_after calls b r.answer else b)
                (beside.carried k apart);
            busy = λ k apart. ap (λ (b : Bool). if t == k then is_none r.answer else b) (beside.busy k apart);
          })
          (opened_other busy r i off ∙ still) (handed_other calls also r i off ∙ given) (opened_other oped r i off
          ∙ free) h.2),
    )

-- ## All rows, up to the open row of thread i

Part-off : (calls : CallTable) (s z : State) (i : ℕ) (e : Effect) (w : World) (b : Carried) (r : Row) (rs : List Row)
    (o : Option TurnEnd) → r.answer ≡ o
    → is_open i r ≡ false → PartOther calls s z i e → Part calls s w b r rs o
    → Part calls z w b r (map (row_after i e) rs) o
Part-off calls s z i e w b r rs (Some a) q off part h = h
Part-off calls s z i e w b r rs None q off part h =
    part w b r rs
    (λ p. false≢true (sym off ∙ and_from (r.turn.thread == i) (is_none r.answer) (eq-eqb r.turn.thread i p)
    (ap is_none q)))
    h

pub opened_off : (busy : ℕ → Bool) (r : Row) (i : ℕ) → is_open i r ≡ false → busy i ≡ false → opened busy r i ≡ false
opened_off busy r i off h =
    cond_both (r.turn.thread == i) (is_none r.answer) (busy i) (λ (b : Bool). b ≡ false)
    (λ mine. ⊎_elim (λ (p : (r.turn.thread == i) ≡ false). absurd (false≢true (sym p ∙ mine)))
    (λ (p : is_none r.answer ≡ false). p) (and_cases (r.turn.thread == i) (is_none r.answer) off))
    (λ other. h)

-- what becomes of the open row, and of the rows after it
abbrev pub AtOpen : CallTable → State → State → ℕ → Effect → Type 0
AtOpen calls s z i e =
    (v : World) (c : ℕ → Carried) (o : ℕ → Bool) (r : Row) (us : List Row) → r.turn.thread ≡ i → r.answer ≡ None
    → o r.turn.thread ≡ false
    → Pending calls s v (c r.turn.thread) r us
    → Walk calls s (next_world calls v (c r.turn.thread) r None) (handed_on calls c r) (opened o r) us
    → Walk calls z v c o (filled_by e r ∷ map (row_after i e) us)

pub walk_found : (calls : CallTable) (s z : State) (i : ℕ) (e : Effect) (w : World) (carried : ℕ → Carried) (busy : ℕ
    → Bool) (rs : List Row)
    → PartOther calls s z i e → AtOpen calls s z i e
    → ((v : World) (c : ℕ → Carried) (o : ℕ → Bool) → o i ≡ false → AtEnd calls s v c o → ⊥)
    → busy i ≡ false → Walk calls s w carried busy rs → Walk calls z w carried busy (map (row_after i e) rs)
walk_found calls s z i e w carried busy [] part at never free h = absurd (never w carried busy free h)
walk_found calls s z i e w carried busy (r ∷ rs) part at never free h =
    let t = r.turn.thread in
    ⊎_elim
    (λ (is : is_open i r ≡ true).
    let parts = and_parts (t == i) (is_none r.answer) is in
    let none = none_is r.answer parts.1 in
    subst (λ (x : Row). Walk calls z w carried busy (x ∷ map (row_after i e) rs)) (sym (row_open i e r is))
    (at w carried busy r rs (eqb-true t i parts.0) none h.0 (subst (Part calls s w (carried t) r rs) none h.1)
    (subst (λ (o : Option TurnEnd). Walk calls s (next_world calls w (carried t) r o) (handed_on calls carried r)
    (opened busy r) rs) none h.2)))
    (λ (off : is_open i r ≡ false).
    subst (λ (x : Row). Walk calls z w carried busy (x ∷ map (row_after i e) rs)) (sym (row_closed i e r off)) (
      h.0,
      Part-off calls s z i e w (carried t) r rs r.answer refl off part h.1,
      walk_found calls s z i e (next_world calls w (carried t) r r.answer) (handed_on calls carried r) (opened busy r)
          rs part at never (opened_off busy r i off free) h.2,
    ))
    (cases_Bool (is_open i r))

-- ## What an event leaves as it was

Ready-map : (calls : CallTable) (v w : World) (l m : DetLock) (k : ℕ) (p : Phase) (b : Carried) (o : Bool)
    → (is_number l.holder k ≡ true → (v ≡ w) × (is_number m.holder k ≡ true)) → Ready calls v l k p b o
    → Ready calls w m k p b o
Ready-map calls v w l m k (WantsObject c d clock n way) b o f h =
    let g = f h.3 in
    (h.0, h.1, subst (λ (u : World). calls.plan u c d ≡ Object n way) g.0 h.2, g.1)
Ready-map calls v w l m k Working b o f h = h
Ready-map calls v w l m k (WantsTable c d) b o f h = h
Ready-map calls v w l m k (Granted job) b o f h = h
Ready-map calls v w l m k (ToOutside job) b o f h = h
Ready-map calls v w l m k (Outside job) b o f h = h
Ready-map calls v w l m k (Recorded job) b o f h = h
Ready-map calls v w l m k (Blocked c d) b o f h = h
Ready-map calls v w l m k Ended b o f h = h

-- for another thread, between two states
pub ready_other : (calls : CallTable) (s z : State) (v w : World) (k : ℕ) (b c : Carried) (o p : Bool)
    → thread_of z k ≡ thread_of s k → c ≡ b → p ≡ o
    → (is_number s.table.holder k ≡ true → (v ≡ w) × (is_number z.table.holder k ≡ true))
    → Ready calls v s.table k (thread_of s k).phase b o → Ready calls w z.table k (thread_of z k).phase c p
ready_other calls s z v w k b c o p there carried busy f h =
    subst (λ (x : Bool). Ready calls w z.table k (thread_of z k).phase c x) (sym busy)
    (subst (λ (x : Carried). Ready calls w z.table k (thread_of z k).phase x o) (sym carried)
    (subst (λ (t : Thread). Ready calls w z.table k t.phase b o) (sym there)
    (Ready-map calls v w s.table z.table k (thread_of s k).phase b o f h)))

-- thread i alone is another, and no row is
pub walk_thread : (calls : CallTable) (s z : State) (i : ℕ) (w : World) (carried : ℕ → Carried) (busy : ℕ
    → Bool) (rs : List Row)
    → ((k : ℕ) → (i ≡ k → ⊥) → thread_of z k ≡ thread_of s k) → z.world ≡ s.world
    → ((k : ℕ) → is_number s.table.holder k ≡ true → is_number z.table.holder k ≡ true)
    → ((job : Job) → Holding calls (thread_of s i).phase job → Holding calls (thread_of z i).phase job)
    → ((v : World) (b : Carried) (o : Bool) → s.world ≡ v → Ready calls v s.table i (thread_of s i).phase b o
    → Ready calls v z.table i (thread_of z i).phase b o)
    → Walk calls s w carried busy rs → Walk calls z w carried busy rs
walk_thread calls s z i w carried busy rs others world holders hold ready h =
    walk_same calls s z w carried busy rs
    (λ v b r us p. record {
      job = p.job;
      holding =
          ⊎_elim
          (λ (e : i ≡ r.turn.thread). subst (λ (n : ℕ). Holding calls (thread_of z n).phase p.job) e
          (hold p.job (subst (λ (n : ℕ). Holding calls (thread_of s n).phase p.job) (sym e) p.holding)))
          (λ (e : i ≡ r.turn.thread → ⊥). subst (λ (t : Thread). Holding calls t.phase p.job)
          (sym (others r.turn.thread e)) p.holding)
          (cases_eq i r.turn.thread);
      call = p.call;
      turn = p.turn;
      found = p.found;
      carried = p.carried;
      plan = p.plan;
      outcome = p.outcome;
      keeps = λ q. let g = p.keeps q in (g.0, holders r.turn.thread g.1);
    })
    (λ v c o a. record {
      world = world ∙ a.world;
      ready = λ k.
          ⊎_elim
          (λ (e : i ≡ k). subst (λ (n : ℕ). Ready calls v z.table n (thread_of z n).phase (c n) (o n)) e
          (ready v (c i) (o i) a.world (a.ready i)))
          (λ (e : i ≡ k → ⊥). ready_other calls s z v v k (c k) (c k) (o k) (o k) (others k e) refl refl
          (λ g. (refl, holders k g)) (a.ready k))
          (cases_eq i k);
    })
    h

-- What the rows of one thread have, gone over in their order.
use Rattle.std.proofs.Common.{◌≡◌, ℕ, List, [], ◌∷◌, ◌++◌, map, filter_map, Option, Some, None, Bool, true, false}
use Rattle.std.proofs.Common.{is_none, ◌==◌, sym, refl, ap, ap₂, ◌∙◌, subst, ⊎_elim}
use Rattle.std.proofs.lemmas.Bool.{false≢true, eqb-true, eq-eqb, ne_eqb, and_parts, cond-true, cond-false, cases_eq}
use Rattle.std.proofs.lemmas.Bool.{cases_Bool}
use Rattle.std.specs.List.{cons_option}
use Rattle.lock_model.specs.CallTable.{CallTable, Plan, Way}
use Rattle.lock_model.specs.CallTable.Plan.{No_object, Object}
use Rattle.lock_model.specs.CallTable.Way.{Inside, Door, Keeps_table}
use Rattle.lock_model.specs.History.{rows_of}
use Rattle.lock_model.specs.Legal.{handed_on}
use Rattle.lock_model.specs.Machine.{Setup, Effect, attempt, can_attempt, is_open, new_row, planned, reached, row_after}
use Rattle.lock_model.specs.State.{Row, State, Thread, thread_of}
use Rattle.sequential_object.specs.Worlds.{World}
use Rattle.posix_terms.specs.Calls.{Call}
use Rattle.posix_terms.specs.declared.transcript.Turn.{Turn}
use Rattle.sequential_object.specs.Step.{Carried}
use Rattle.lock_model.proofs.Commute.{row_closed, row_other, row_turn}
use Rattle.lock_model.proofs.Growth.{at_attempt}
use Rattle.lock_model.proofs.Walk.{Part, Pending, Walk, next_world, none_is, opened, opened_off, opened_other}

-- what each row of a thread has of this, if it has any
abbrev pub of_thread : {A : Type 0} → (Row → Option A) → ℕ → List Row → List A
of_thread f i rows = filter_map f (rows_of i rows)

pub of_mine : {A : Type 0} → (f : Row → Option A) → (i : ℕ) (r : Row) (rs : List Row) → r.turn.thread ≡ i
    → of_thread f i (r ∷ rs) ≡ cons_option (f r) (of_thread f i rs)
of_mine f i r rs mine = ap (filter_map f) (cond-true _ _ _ (eq-eqb r.turn.thread i mine))

pub of_off : {A : Type 0} → (f : Row → Option A) → (i : ℕ) (r : Row) (rs : List Row) → (r.turn.thread ≡ i → ⊥)
    → of_thread f i (r ∷ rs) ≡ of_thread f i rs
of_off f i r rs off = ap (filter_map f) (cond-false _ _ _ (ne_eqb r.turn.thread i off))

-- rows that keep their turns and, those of thread i, what they have
pub of_same : {A : Type 0} → (f : Row → Option A) → (i : ℕ) (g : Row → Row) (rs : List Row)
    → ((r : Row) → (g r).turn ≡ r.turn) → ((r : Row) → r.turn.thread ≡ i → f (g r) ≡ f r)
    → of_thread f i (map g rs) ≡ of_thread f i rs
of_same f i g [] turn same = refl
of_same f i g (r ∷ rs) turn same =
    let thread : (g r).turn.thread ≡ r.turn.thread = ap (λ (t : Turn). t.thread) (turn r) in
    let rest = of_same f i g rs turn same in
    ⊎_elim
    (λ (mine : r.turn.thread ≡ i). of_mine f i (g r) (map g rs) (thread ∙ mine)
    ∙ (ap₂ cons_option (same r mine) rest ∙ sym (of_mine f i r rs mine)))
    (λ (off : r.turn.thread ≡ i → ⊥). of_off f i (g r) (map g rs) (λ e. off (sym thread ∙ e))
    ∙ (rest ∙ sym (of_off f i r rs off)))
    (cases_eq r.turn.thread i)

-- a new row has none
pub of_new : {A : Type 0} → (f : Row → Option A) → (i : ℕ) (rs : List Row) (turn : Turn) (c : Call)
    → f (new_row turn c) ≡ None → of_thread f i (rs ++ new_row turn c ∷ []) ≡ of_thread f i rs
of_new f i [] turn c none =
    ⊎_elim
    (λ (mine : turn.thread ≡ i). of_mine f i (new_row turn c) [] mine ∙ ap (λ o. cons_option o []) none)
    (λ (off : turn.thread ≡ i → ⊥). of_off f i (new_row turn c) [] off)
    (cases_eq turn.thread i)
of_new f i (r ∷ rs) turn c none =
    let rest = of_new f i rs turn c none in
    ⊎_elim
    (λ (mine : r.turn.thread ≡ i). of_mine f i r (rs ++ new_row turn c ∷ []) mine
    ∙ (ap (cons_option (f r)) rest ∙ sym (of_mine f i r rs mine)))
    (λ (off : r.turn.thread ≡ i → ⊥). of_off f i r (rs ++ new_row turn c ∷ []) off ∙ (rest ∙ sym (of_off f i r rs off)))
    (cases_eq r.turn.thread i)

-- so an attempt leaves what the rows have
abbrev pub IsBlank : {A : Type 0} → (Row → Option A) → Type 0
IsBlank f = (turn : Turn) (c : Call) → f (new_row turn c) ≡ None

of_planned : {A : Type 0} → (f : Row → Option A) → IsBlank f
    → (k : ℕ) (calls : CallTable) (s : State) (i : ℕ) (t : Thread) (c : Call) (b : Carried) (turn : Turn) (plan : Plan)
    (w : World)
    → of_thread f k (planned calls s i t c b turn plan w).rows ≡ of_thread f k s.rows
of_planned f blank k calls s i t c b turn No_object w = of_new f k s.rows turn c (blank turn c)
of_planned f blank k calls s i t c b turn (Object n way) w = refl

of_reached : {A : Type 0} → (f : Row → Option A) → IsBlank f
    → (k : ℕ) (calls : CallTable) (s : State) (i : ℕ) (t : Thread) (c : Call) (b : Carried) (turn : Turn) (n : ℕ)
    (way : Way) (w : World)
    → of_thread f k (reached calls s i t c b turn n way w).rows ≡ of_thread f k s.rows
of_reached f blank k calls s i t c b turn n Inside w = of_new f k s.rows turn c (blank turn c)
of_reached f blank k calls s i t c b turn n Door w = of_new f k s.rows turn c (blank turn c)
of_reached f blank k calls s i t c b turn n Keeps_table w = of_new f k s.rows turn c (blank turn c)

pub of_attempt : {A : Type 0} → (f : Row → Option A) → IsBlank f → (setup : Setup) (s : State) (i k : ℕ)
    → can_attempt setup s i ≡ true → of_thread f k (attempt setup i s).rows ≡ of_thread f k s.rows
of_attempt f blank setup s i k can =
    let t = thread_of s i in
    at_attempt setup s i (λ p z. of_thread f k z.rows ≡ of_thread f k s.rows) can
    (record {
      fails = λ p h. refl;
      plans = λ c b h. of_planned f blank k setup.calls s i t c b (record { clock = t.clock; thread = i })
          (setup.calls.plan s.world c b) s.world;
      reaches = λ c b clock n way h g. of_reached f blank k setup.calls s i t c b (record { clock = clock; thread = i })
          n way s.world;
    })

-- the event of another thread leaves them
pub of_other : {A : Type 0} → (f : Row → Option A) → (i k : ℕ) (e : Effect) (rs : List Row) → (i ≡ k → ⊥)
    → of_thread f k (map (row_after i e) rs) ≡ of_thread f k rs
of_other f i k e rs apart = of_same f k (row_after i e) rs (row_turn i e)
    (λ r mine. ap f (row_other i e r (λ p. apart (sym p ∙ mine))))

-- after the open row of thread i it has none
none_more : {A : Type 0} → (f : Row → Option A)
    → (calls : CallTable) (s : State) (i : ℕ) (e : Effect) (w : World) (carried : ℕ → Carried) (busy : ℕ
    → Bool) (rs : List Row) → busy i ≡ true → Walk calls s w carried busy rs
    → (of_thread f i rs ≡ []) × (map (row_after i e) rs ≡ rs)
none_more f calls s i e w carried busy [] b h = (refl, refl)
none_more f calls s i e w carried busy (r ∷ rs) b h =
    let off : r.turn.thread ≡ i → ⊥ = λ p. false≢true (sym h.0 ∙ (ap busy p ∙ b)) in
    let rest = none_more f calls s i e (next_world calls w (carried r.turn.thread) r r.answer)
    (handed_on calls carried r) (opened busy r) rs (opened_other busy r i off ∙ b) h.2 in
    (of_off f i r rs off ∙ rest.0, ap₂ ◌∷◌ (row_other i e r off) rest.1)

-- the open row of thread i has none, and has this after the event of that thread
abbrev pub Fills : {A : Type 0} → (Row → Option A) → CallTable → State → ℕ → Effect → Option A → Type 0
Fills f calls s i e x = (w : World) (b : Carried) (r : Row) (rs : List Row) → r.turn.thread ≡ i → is_open i r ≡ true
    → Pending calls s w b r rs → (f r ≡ None) × (f (row_after i e r) ≡ x)

-- so what the thread's rows have grows by that
pub of_filled : {A : Type 0} → (f : Row → Option A)
    → (calls : CallTable) (s : State) (i : ℕ) (e : Effect) (x : Option A) (w : World) (carried : ℕ → Carried) (busy : ℕ
    → Bool) (rs : List Row)
    → ((u : World) (c : ℕ → Carried) (b : ℕ → Bool) → b i ≡ false → Walk calls s u c b [] → ⊥)
    → Fills f calls s i e x → busy i ≡ false → Walk calls s w carried busy rs
    → of_thread f i (map (row_after i e) rs) ≡ of_thread f i rs ++ cons_option x []
of_filled f calls s i e x w carried busy [] found fills free h = absurd (found w carried busy free h)
of_filled f calls s i e x w carried busy (r ∷ rs) found fills free h =
    let t = r.turn.thread in
    let after = row_after i e in
    ⊎_elim
    (λ (own : is_open i r ≡ true).
    let parts = and_parts (t == i) (is_none r.answer) own in
    let mine : t ≡ i = eqb-true t i parts.0 in
    let none = none_is r.answer parts.1 in
    let filled = fills w (carried t) r rs mine own (subst (Part calls s w (carried t) r rs) none h.1) in
    let busy_now : opened busy r i ≡ true = cond-true (t == i) (is_none r.answer) (busy i) parts.0 ∙ parts.1 in
    let rest = none_more f calls s i e (next_world calls w (carried t) r r.answer) (handed_on calls carried r)
    (opened busy r) rs busy_now h.2 in
    let to : of_thread f i (map after (r ∷ rs)) ≡ cons_option x [] =
    of_mine f i (after r) (map after rs) (ap (λ (u : Turn). u.thread) (row_turn i e r) ∙ mine)
    ∙ ap₂ cons_option filled.1 (ap (of_thread f i) rest.1 ∙ rest.0) in
    let from : of_thread f i (r ∷ rs) ≡ [] = of_mine f i r rs mine ∙ ap₂ cons_option filled.0 rest.0 in
    to ∙ ap (λ l. l ++ cons_option x []) (sym from))
    (λ (off : is_open i r ≡ false).
    let rest = of_filled f calls s i e x (next_world calls w (carried t) r r.answer) (handed_on calls carried r)
    (opened busy r) rs found fills (opened_off busy r i off free) h.2 in
    ap (λ (q : Row). of_thread f i (q ∷ map after rs)) (row_closed i e r off)
    ∙ ⊎_elim
    (λ (mine : t ≡ i). of_mine f i r (map after rs) mine
    ∙ (ap (cons_option (f r)) rest
    ∙ (cons_push (f r) (of_thread f i rs) (cons_option x [])
    ∙ ap (λ l. l ++ cons_option x []) (sym (of_mine f i r rs mine)))))
    (λ (other : t ≡ i → ⊥). of_off f i r (map after rs) other
    ∙ (rest ∙ ap (λ l. l ++ cons_option x []) (sym (of_off f i r rs other))))
    (cases_eq t i))
    (cases_Bool (is_open i r))
  where
    cons_push : {B : Type 0} → (p : Option B) (l m : List B) → cons_option p (l ++ m) ≡ cons_option p l ++ m
    cons_push None l m = refl
    cons_push (Some y) l m = refl

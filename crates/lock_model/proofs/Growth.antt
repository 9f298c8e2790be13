-- Rows and threads are only added to.
use Rattle.std.proofs.Common.{◌≡◌, ℕ, zero, suc, ◌+◌, ◌<◌, List, [], ◌∷◌, ◌++◌, length, map, set, get_or, slice_get}
use Rattle.std.proofs.Common.{Option, Some, None, Bool, true, false, ◌&&◌, is_none, cond, nat_lt, ◌==◌, sym, refl, ap}
use Rattle.std.proofs.Common.{◌∙◌, subst, ⊎_elim}
use Rattle.std.proofs.lemmas.Bool.{false≢true, and_parts, cond_both, cases_eq, cases_Bool}
use Rattle.std.proofs.lemmas.List.{get_or-set_same, append_assoc, append-nil}
use Rattle.std.proofs.lemmas.Option.{same_Some, none-some}
use Rattle.det_mutex.specs.Attempt.{takes}
use Rattle.lock_model.specs.CallTable.{CallTable, Plan, Way}
use Rattle.sequential_object.specs.declared.turn_end.TurnEnd.{TurnEnd}
use Rattle.sequential_object.specs.declared.turn_end.TurnEnd.TheVariants as turn_end
use Rattle.lock_model.specs.CallTable.Plan.{No_object, Object}
use Rattle.lock_model.specs.CallTable.Way.{Inside, Door, Keeps_table}
use Rattle.lock_model.specs.History.{Agrees, RowAgrees, IsBeginning, IsPrefixOf}
use Rattle.lock_model.specs.Machine.{Setup, Effect, Moved, Event, quietly, after_step, ask, fits_job, with_outcome}
use Rattle.lock_model.specs.Machine.{record_outcome, answered, answer, again, moves_in, moves, is_number, is_open}
use Rattle.lock_model.specs.Machine.{first_of, row_after, move, failed, new_row, granted, new_job, planned, reached}
use Rattle.lock_model.specs.Machine.{tries, wants, can_attempt, attempt, is_allowed, happens}
use Rattle.lock_model.specs.Machine.Event.{Advances, Attempts}
use Rattle.posix_terms.specs.declared.step.Step.{Step}
use Rattle.posix_terms.specs.declared.step.Step.TheVariants as step
use Rattle.lock_model.specs.State.{Job, Phase, Thread, Row, State, nobody, thread_of, object_of}
use Rattle.lock_model.specs.State.Phase.{Working, WantsTable, WantsObject, Granted, ToOutside, Outside, Recorded}
use Rattle.lock_model.specs.State.Phase.{Blocked, Ended}
use Rattle.sequential_object.specs.Worlds.{World}
use Rattle.posix_terms.specs.Calls.{Call}
use Rattle.posix_terms.specs.Outcomes.{dated}
use Rattle.posix_terms.specs.declared.outcome.Given.{Given}
use Rattle.sequential_object.specs.Step.{Carried}
use Rattle.posix_terms.specs.declared.transcript.Turn.{Turn}
use Rattle.lock_model.proofs.Commute.{row_open, row_closed, thread_move, advance_move}
use Rattle.lock_model.proofs.Turn.{moves_out, thread_moved, live_within, leading_out}
use Rattle.lock_model.proofs.Attempt.{can_out, attempt_can, attempt_other}
use Rattle.lock_model.proofs.Diamond.{Leads}

-- ## Rows

pub agrees_refl : {A : Type 0} (o : Option A) → Agrees o o
agrees_refl None = tt
agrees_refl (Some x) = refl

agrees_trans : {A : Type 0} (a b c : Option A) → Agrees a b → Agrees b c → Agrees a c
agrees_trans None b c h g = tt
agrees_trans (Some x) b c h g = subst (λ (o : Option _). Agrees o c) h g

row_refl : (r : Row) → RowAgrees r r
row_refl r = record {
  turn = refl;
  call = refl;
  outcome = agrees_refl r.outcome;
  answer = agrees_refl r.answer;
  closed = λ h. refl;
}

row_trans : (a b c : Row) → RowAgrees a b → RowAgrees b c → RowAgrees a c
row_trans a b c h g =
    record {
      turn = h.turn ∙ g.turn;
      call = h.call ∙ g.call;
      outcome = agrees_trans a.outcome b.outcome c.outcome h.outcome g.outcome;
      answer = agrees_trans a.answer b.answer c.answer h.answer g.answer;
      closed = λ q. let same = h.closed q in g.closed (ap (λ (r : Row). is_none r.answer) same ∙ q) ∙ same;
    }

pub begins_refl : (xs : List Row) → IsBeginning xs xs
begins_refl [] = tt
begins_refl (x ∷ xs) = (row_refl x, begins_refl xs)

pub begins_trans : (xs ys zs : List Row) → IsBeginning xs ys → IsBeginning ys zs → IsBeginning xs zs
begins_trans [] ys zs h g = tt
begins_trans (x ∷ xs) [] zs h g = absurd h
begins_trans (x ∷ xs) (y ∷ ys) [] h g = absurd g
begins_trans (x ∷ xs) (y ∷ ys) (z ∷ zs) h g = (row_trans x y z h.0 g.0, begins_trans xs ys zs h.1 g.1)

begins_push : (xs ys : List Row) → IsBeginning xs (xs ++ ys)
begins_push [] ys = tt
begins_push (x ∷ xs) ys = (row_refl x, begins_push xs ys)

first_agrees : (o p : Option Given) → Agrees o (first_of o p)
first_agrees None p = tt
first_agrees (Some x) p = refl

open_agrees : (o a : Option TurnEnd) → is_none o ≡ true → Agrees o a
open_agrees None a h = tt
open_agrees (Some x) a h = absurd (false≢true h)

row_grows : (i : ℕ) (e : Effect) (r : Row) → RowAgrees r (row_after i e r)
row_grows i e r =
    ⊎_elim
    (λ (h : is_open i r ≡ true).
    let empty = (and_parts (r.turn.thread == i) (is_none r.answer) h).1 in
    subst (RowAgrees r) (sym (row_open i e r h))
    (record {
      turn = refl;
      call = refl;
      outcome = first_agrees r.outcome e.outcome;
      answer = open_agrees r.answer e.answer empty;
      closed = λ q. absurd (false≢true (sym q ∙ empty));
    }))
    (λ (h : is_open i r ≡ false). subst (RowAgrees r) (sym (row_closed i e r h)) (row_refl r))
    (cases_Bool (is_open i r))

rows_grow : (i : ℕ) (e : Effect) (rs : List Row) → IsBeginning rs (map (row_after i e) rs)
rows_grow i e [] = tt
rows_grow i e (r ∷ rs) = (row_grows i e r, rows_grow i e rs)

-- ## Threads

pub prefix_refl : {A : Type 0} (xs : List A) → IsPrefixOf xs xs
prefix_refl xs = ([], append-nil xs)

pub prefix_push : {A : Type 0} (xs ys : List A) → IsPrefixOf xs (xs ++ ys)
prefix_push xs ys = (ys, refl)

pub prefix_trans : {A : Type 0} (xs ys zs : List A) → IsPrefixOf xs ys → IsPrefixOf ys zs → IsPrefixOf xs zs
prefix_trans xs ys zs (a, e) (b, f) = (a ++ b, sym (append_assoc xs a b) ∙ (ap (λ (l : List _). l ++ b) e ∙ f))

-- what a thread has had is only added to
pub record Grows (t u : Thread) : Type 0 where
  pub asked : IsPrefixOf t.asked u.asked
  pub replies : IsPrefixOf t.replies u.replies
  pub came : IsPrefixOf t.came u.came

pub grows_refl : (t : Thread) → Grows t t
grows_refl t = record { asked = prefix_refl t.asked; replies = prefix_refl t.replies; came = prefix_refl t.came }

pub grows_trans : (t u v : Thread) → Grows t u → Grows u v → Grows t v
grows_trans t u v h g =
    record {
      asked = prefix_trans t.asked u.asked v.asked h.asked g.asked;
      replies = prefix_trans t.replies u.replies v.replies h.replies g.replies;
      came = prefix_trans t.came u.came v.came h.came g.came;
    }

-- nothing came, and nothing was asked
grows_same : (t u : Thread) → t.asked ≡ u.asked → t.replies ≡ u.replies → t.came ≡ u.came → Grows t u
grows_same t u a r c =
    record {
      asked = subst (IsPrefixOf t.asked) a (prefix_refl t.asked);
      replies = subst (IsPrefixOf t.replies) r (prefix_refl t.replies);
      came = subst (IsPrefixOf t.came) c (prefix_refl t.came);
    }

grows_step : (calls : CallTable) (t : Thread) (x : Step) → Grows t (after_step calls t x)
grows_step calls t (step.Work n) =
    record {
      asked = prefix_push t.asked (step.Work n ∷ []);
      replies = prefix_refl t.replies;
      came = prefix_refl t.came;
    }
grows_step calls t (step.Call c) =
    record {
      asked = prefix_push t.asked (step.Call c ∷ []);
      replies = prefix_refl t.replies;
      came = prefix_refl t.came;
    }
grows_step calls t step.End = record {
  asked = prefix_push t.asked (step.End ∷ []);
  replies = prefix_refl t.replies;
  came = prefix_refl t.came;
}

-- what holds of the thread that a move makes, where the move is one of these
made_if : (P : Moved → Type 0) (b : Bool) (n m : Moved) → P n → cond b (Some n) None ≡ Some m → P m
made_if P true n m l h = subst P (same_Some n m h) l
made_if P false n m l h = absurd (none-some m h)

grows_answered : (t : Thread) (c : Call) (n : ℕ) (a : TurnEnd) → Grows t (answered t c n a)
grows_answered t c n (turn_end.Reply r) =
    record { asked = prefix_refl t.asked; replies = prefix_push t.replies (r ∷ []); came = prefix_refl t.came }
grows_answered t c n (turn_end.Blocked b) = grows_same t (answered t c n (turn_end.Blocked b)) refl refl refl

-- what holds of each thing that a thread's event can make, by its phase
pub record AtMoves (setup : Setup) (i : ℕ) (t : Thread) (P : Phase → Moved → Type 0) : Type 0 where
  pub steps : (x : Step) → setup.supply.next i t.asked t.replies ≡ Some x
      → P Working (quietly (after_step setup.calls t x))
  pub begins : (job : Job) → P (ToOutside job)
      (quietly (record t { phase = Outside job; clock = t.clock + setup.limits.door_cost }))
  pub records : (job : Job) (o : Given) → slice_get (setup.supply.outcomes i) (length t.came) ≡ Some o
      → fits_job setup.calls job o ≡ true → P (Outside job) (with_outcome t job o)
  pub grants : (job : Job) → P (Granted job) (answer setup.calls t job)
  pub answers : (job : Job) → P (Recorded job) (answer setup.calls t job)
  pub agains : (c : Call) (b : Carried) → P (Blocked c b) (again t c b)

at_steps : (setup : Setup) (i : ℕ) (t : Thread) (P : Phase → Moved → Type 0) (o : Option Step) (m : Moved)
    → AtMoves setup i t P → setup.supply.next i t.asked t.replies ≡ o → ask setup.calls t o ≡ Some m → P Working m
at_steps setup i t P None m a q h = absurd (none-some m h)
at_steps setup i t P (Some x) m a q h = subst (P Working) (same_Some (quietly (after_step setup.calls t x)) m h)
    (a.steps x q)

at_records : (setup : Setup) (i : ℕ) (t : Thread) (P : Phase → Moved → Type 0) (job : Job) (o : Option Given)
    (m : Moved) → AtMoves setup i t P
    → slice_get (setup.supply.outcomes i) (length t.came) ≡ o → record_outcome setup.calls t job o ≡ Some m
    → P (Outside job) m
at_records setup i t P job None m a q h = absurd (none-some m h)
at_records setup i t P job (Some o) m a q h = at_fit (fits_job setup.calls job o) refl h
  where
    at_fit : (b : Bool) → fits_job setup.calls job o ≡ b → cond b (Some (with_outcome t job o)) None ≡ Some m
        → P (Outside job) m
    at_fit true e h = subst (P (Outside job)) (same_Some (with_outcome t job o) m h) (a.records job o q e)
    at_fit false e h = absurd (none-some m h)

at_in : (setup : Setup) (i : ℕ) (t : Thread) (P : Phase → Moved → Type 0) (p : Phase) (m : Moved) → AtMoves setup i t P
    → moves_in setup i t p ≡ Some m → P p m
at_in setup i t P Working m a h = at_steps setup i t P (setup.supply.next i t.asked t.replies) m a refl h
at_in setup i t P (Granted job) m a h = subst (P (Granted job)) (same_Some (answer setup.calls t job) m h)
    (a.grants job)
at_in setup i t P (ToOutside job) m a h =
    made_if (P (ToOutside job)) (nat_lt (length t.came) setup.limits.outcome_limit)
    (quietly (record t { phase = Outside job; clock = t.clock + setup.limits.door_cost })) m (a.begins job) h
at_in setup i t P (Outside job) m a h = at_records setup i t P job (slice_get (setup.supply.outcomes i) (length t.came))
    m a refl h
at_in setup i t P (Recorded job) m a h = subst (P (Recorded job)) (same_Some (answer setup.calls t job) m h)
    (a.answers job)
at_in setup i t P (Blocked c b) m a h = subst (P (Blocked c b)) (same_Some (again t c b) m h) (a.agains c b)
at_in setup i t P p m a h = absurd (none-some m h)

-- a fact of a move, by cases
pub at_moves : (setup : Setup) (i : ℕ) (t : Thread) (P : Phase → Moved → Type 0) (m : Moved) → AtMoves setup i t P
    → moves setup i t ≡ Some m → P t.phase m
at_moves setup i t P m a h = at_in setup i t P t.phase m a (moves_out setup i t m h).0

pub moves_grow : (setup : Setup) (i : ℕ) (t : Thread) (m : Moved) → moves setup i t ≡ Some m → Grows t m.thread
moves_grow setup i t m h =
    at_moves setup i t (λ p n. Grows t n.thread) m
    (record {
      steps = λ x q. grows_step setup.calls t x;
      begins = λ job. grows_same t (record t { phase = Outside job; clock = t.clock + setup.limits.door_cost }) refl
          refl refl;
      records = λ job o q e. record {
        asked = prefix_refl t.asked;
        replies = prefix_refl t.replies;
        came = prefix_push t.came (dated job.turn o ∷ []);
      };
      grants = λ job. grows_answered t job.call _ (setup.calls.answer job.found job.call job.outcome job.carried);
      answers = λ job. grows_answered t job.call _ (setup.calls.answer job.found job.call job.outcome job.carried);
      agains = λ c b. grows_same t (again t c b).thread refl refl refl;
    })
    h

-- ## Attempts

-- what holds of each state that an attempt can lead to
pub record AtTries (calls : CallTable) (s : State) (i : ℕ) (t : Thread) (P : Phase → State → Type 0) : Type 0 where
  pub fails : (p : Phase) → wants p ≡ true → P p (failed s i t)
  pub plans : (c : Call) (b : Carried) → takes s.table t.clock ≡ true
      → P (WantsTable c b) (planned calls s i t c b (record { clock = t.clock; thread = i }) (calls.plan s.world c b)
      s.world)
  pub reaches : (c : Call) (b : Carried) (clock n : ℕ) (way : Way) → is_number s.table.holder i ≡ true
      → takes (object_of s n) t.clock ≡ true
      → P (WantsObject c b clock n way) (reached calls s i t c b (record { clock = clock; thread = i }) n way s.world)

pub at_tries : (calls : CallTable) (s : State) (i : ℕ) (t : Thread) (P : Phase → State → Type 0) (p : Phase)
    → wants p ≡ true → AtTries calls s i t P → P p (tries calls s i t p)
at_tries calls s i t P (WantsTable c b) h a = cond_both (takes s.table t.clock) _ _ (P (WantsTable c b))
    (λ can. a.plans c b can) (λ off. a.fails (WantsTable c b) refl)
at_tries calls s i t P (WantsObject c b clock n way) h a =
    cond_both (is_number s.table.holder i && takes (object_of s n) t.clock) _ _ (P (WantsObject c b clock n way))
    (λ can. let parts = and_parts (is_number s.table.holder i) (takes (object_of s n) t.clock) can in
    a.reaches c b clock n way parts.0 parts.1)
    (λ off. a.fails (WantsObject c b clock n way) refl)
at_tries calls s i t P Working h a = absurd (false≢true h)
at_tries calls s i t P (Granted job) h a = absurd (false≢true h)
at_tries calls s i t P (ToOutside job) h a = absurd (false≢true h)
at_tries calls s i t P (Outside job) h a = absurd (false≢true h)
at_tries calls s i t P (Recorded job) h a = absurd (false≢true h)
at_tries calls s i t P (Blocked c b) h a = absurd (false≢true h)
at_tries calls s i t P Ended h a = absurd (false≢true h)

-- an attempt that is allowed
pub at_attempt : (setup : Setup) (s : State) (i : ℕ) (P : Phase → State → Type 0) → can_attempt setup s i ≡ true
    → AtTries setup.calls s i (thread_of s i) P → P (thread_of s i).phase (attempt setup i s)
at_attempt setup s i P can a =
    subst (P (thread_of s i).phase) (sym (attempt_can setup i s can))
    (at_tries setup.calls s i (thread_of s i) P (thread_of s i).phase (can_out setup s i can).wanting a)

pub wanting_within : (setup : Setup) (s : State) (i : ℕ) → can_attempt setup s i ≡ true → i < length s.threads
wanting_within setup s i can = live_within s i (thread_of s i).clock (leading_out s i (can_out setup s i can).turn).live

planned_rows : (calls : CallTable) (s : State) (i : ℕ) (t : Thread) (c : Call) (b : Carried) (turn : Turn) (plan : Plan)
    (w : World) → IsBeginning s.rows (planned calls s i t c b turn plan w).rows
planned_rows calls s i t c b turn No_object w = begins_push s.rows (new_row turn c ∷ [])
planned_rows calls s i t c b turn (Object n way) w = begins_refl s.rows

reached_rows : (calls : CallTable) (s : State) (i : ℕ) (t : Thread) (c : Call) (b : Carried) (turn : Turn) (n : ℕ)
    (way : Way) (w : World) → IsBeginning s.rows (reached calls s i t c b turn n way w).rows
reached_rows calls s i t c b turn n Inside w = begins_push s.rows (new_row turn c ∷ [])
reached_rows calls s i t c b turn n Door w = begins_push s.rows (new_row turn c ∷ [])
reached_rows calls s i t c b turn n Keeps_table w = begins_push s.rows (new_row turn c ∷ [])

-- a state whose thread i is now this one
now : (s : State) (i : ℕ) (u : Thread) → i < length s.threads → get_or (set s.threads i u) i nobody ≡ u
now s i u l = get_or-set_same s.threads i u nobody l

planned_grows : (calls : CallTable) (s : State) (i : ℕ) (t : Thread) (c : Call) (b : Carried) (turn : Turn)
    (plan : Plan) (w : World) → i < length s.threads → Grows t (thread_of (planned calls s i t c b turn plan w) i)
planned_grows calls s i t c b turn No_object w l =
    subst (Grows t) (sym (now s i _ l))
    (grows_same t (granted t (t.clock + 1) (new_job c b turn No_object w) false) refl refl refl)
planned_grows calls s i t c b turn (Object n way) w l =
    subst (Grows t) (sym (now s i _ l))
    (grows_same t (record t { phase = WantsObject c b turn.clock n way; clock = t.clock + 1 }) refl refl refl)

reached_grows : (calls : CallTable) (s : State) (i : ℕ) (t : Thread) (c : Call) (b : Carried) (turn : Turn) (n : ℕ)
    (way : Way) (w : World) → i < length s.threads → Grows t (thread_of (reached calls s i t c b turn n way w) i)
reached_grows calls s i t c b turn n Inside w l =
    subst (Grows t) (sym (now s i _ l))
    (grows_same t (granted t (t.clock + 2) (new_job c b turn (Object n Inside) w) false) refl refl refl)
reached_grows calls s i t c b turn n Door w l =
    subst (Grows t) (sym (now s i _ l))
    (grows_same t (granted t (t.clock + 2) (new_job c b turn (Object n Door) w) true) refl refl refl)
reached_grows calls s i t c b turn n Keeps_table w l =
    subst (Grows t) (sym (now s i _ l))
    (grows_same t (granted t (t.clock + 1) (new_job c b turn (Object n Keeps_table) w) true) refl refl refl)

-- ## Events

-- rows and threads are only added to
pub record Adds (s z : State) : Type 0 where
  pub rows : IsBeginning s.rows z.rows
  pub threads : (k : ℕ) → Grows (thread_of s k) (thread_of z k)

pub adds_refl : (s : State) → Adds s s
adds_refl s = record { rows = begins_refl s.rows; threads = λ k. grows_refl (thread_of s k) }

pub adds_trans : (s z y : State) → Adds s z → Adds z y → Adds s y
adds_trans s z y h g =
    record {
      rows = begins_trans s.rows z.rows y.rows h.rows g.rows;
      threads = λ k. grows_trans (thread_of s k) (thread_of z k) (thread_of y k) (h.threads k) (g.threads k);
    }

-- where one thread grows and the others stay
threads_grow : (s z : State) (i : ℕ) → Grows (thread_of s i) (thread_of z i)
    → ((k : ℕ) → (i ≡ k → ⊥) → thread_of z k ≡ thread_of s k) → (k : ℕ) → Grows (thread_of s k) (thread_of z k)
threads_grow s z i mine others k =
    ⊎_elim
    (λ (e : i ≡ k). subst (λ (n : ℕ). Grows (thread_of s n) (thread_of z n)) e mine)
    (λ (e : i ≡ k → ⊥). subst (Grows (thread_of s k)) (sym (others k e)) (grows_refl (thread_of s k)))
    (cases_eq i k)

adds_move : (setup : Setup) (s : State) (i : ℕ) (o : Option Moved) → moves setup i (thread_of s i) ≡ o
    → Adds s (move i o s)
adds_move setup s i None h = adds_refl s
adds_move setup s i (Some m) h =
    record {
      rows = rows_grow i m.effect s.rows;
      threads =
          threads_grow s (move i (Some m) s) i
          (subst (Grows (thread_of s i)) (sym (thread_moved setup s i m h))
          (moves_grow setup i (thread_of s i) m h)) (λ k apart. thread_move i k (Some m) s apart);
    }

adds_attempt : (setup : Setup) (s : State) (i : ℕ) → can_attempt setup s i ≡ true → Adds s (attempt setup i s)
adds_attempt setup s i can =
    let t = thread_of s i in
    let l = wanting_within setup s i can in
    record {
      rows =
          at_attempt setup s i (λ p z. IsBeginning s.rows z.rows) can
          (record {
            fails = λ p h. begins_refl s.rows;
            plans = λ c b h. planned_rows setup.calls s i t c b (record { clock = t.clock; thread = i })
                (setup.calls.plan s.world c b) s.world;
            reaches = λ c b clock n way h g. reached_rows setup.calls s i t c b (record { clock = clock; thread = i }) n
                way s.world;
          });
      threads =
          threads_grow s (attempt setup i s) i
          (at_attempt setup s i (λ p z. Grows t (thread_of z i)) can
          (record {
            fails = λ p h. subst (Grows t) (sym (now s i _ l))
                (grows_same t (record t { clock = t.clock + 1 }) refl refl refl);
            plans = λ c b h. planned_grows setup.calls s i t c b (record { clock = t.clock; thread = i })
                (setup.calls.plan s.world c b) s.world l;
            reaches = λ c b clock n way h g. reached_grows setup.calls s i t c b (record { clock = clock; thread = i })
                n way s.world l;
          }))
          (λ k apart. attempt_other setup i k s apart);
    }

pub adds_event : (setup : Setup) (s : State) (e : Event) → is_allowed setup e s ≡ true → Adds s (happens setup e s)
adds_event setup s (Advances i) can =
    subst (Adds s) (sym (advance_move setup i s)) (adds_move setup s i (moves setup i (thread_of s i)) refl)
adds_event setup s (Attempts i) can = adds_attempt setup s i can

-- what leads to a last state is its beginning
pub adds_leads : (setup : Setup) (n : ℕ) (s last : State) → Leads setup n s last → Adds s last
adds_leads setup zero s last h = subst (Adds s) h (adds_refl s)
adds_leads setup (suc n) s last (e, can, rest) = adds_trans s (happens setup e s) last (adds_event setup s e can)
    (adds_leads setup n (happens setup e s) last rest)

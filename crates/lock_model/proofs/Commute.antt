-- Events that need no turn commute: they touch only what their thread holds.
use Rattle.std.proofs.Common.{◌≡◌, ℕ, List, [], ◌∷◌, map, Option, Some, None, true, false, is_none, ◌==◌, sym, refl, ap}
use Rattle.std.proofs.Common.{ap₂, ◌∙◌, ⊎_elim}
use Rattle.std.proofs.lemmas.Bool.{eqb-true, ne_eqb, and_left, cond-true, cond-false, cond_both, cases_eq, cases_Bool}
use Rattle.std.proofs.lemmas.List.{set_comm, get_or-set_other}
use Rattle.det_mutex.specs.declared.lock.DetLock.{DetLock}
use Rattle.lock_model.specs.Machine.{Setup, Effect, Moved, moves, is_number, freed_by, lock_after, or_else, world_after}
use Rattle.lock_model.specs.Machine.{is_open, filled_by, row_after, move, advance}
use Rattle.lock_model.specs.State.{Thread, Row, State, nobody, thread_of}
use Rattle.sequential_object.specs.Worlds.{World}
use Rattle.posix_terms.specs.declared.transcript.Turn.{Turn}

pub map_comm : {A : Type 0} (f g : A → A) (xs : List A) → ((x : A) → f (g x) ≡ g (f x))
    → map f (map g xs) ≡ map g (map f xs)
map_comm f g [] h = refl
map_comm f g (x ∷ xs) h = ap₂ ◌∷◌ (h x) (map_comm f g xs h)

-- ## Rows

pub row_closed : (i : ℕ) (e : Effect) (r : Row) → is_open i r ≡ false → row_after i e r ≡ r
unfolding row_after
row_closed i e r h = cond-false _ _ _ h

pub row_open : (i : ℕ) (e : Effect) (r : Row) → is_open i r ≡ true → row_after i e r ≡ filled_by e r
unfolding row_after
row_open i e r h = cond-true _ _ _ h

-- the row of another thread stays
pub row_other : (i : ℕ) (e : Effect) (r : Row) → (r.turn.thread ≡ i → ⊥) → row_after i e r ≡ r
row_other i e r h = row_closed i e r (and_left (r.turn.thread == i) (is_none r.answer) (ne_eqb r.turn.thread i h))

pub row_turn : (i : ℕ) (e : Effect) (r : Row) → (row_after i e r).turn ≡ r.turn
row_turn i e r = ⊎_elim (λ (o : is_open i r ≡ true). ap (λ (q : Row). q.turn) (row_open i e r o))
    (λ (o : is_open i r ≡ false). ap (λ (q : Row). q.turn) (row_closed i e r o)) (cases_Bool (is_open i r))

-- where one of two threads has no part in the row, their events commute
row_comm_by : (i j : ℕ) (e f : Effect) (r : Row) → (r.turn.thread ≡ j → ⊥)
    → row_after i e (row_after j f r) ≡ row_after j f (row_after i e r)
row_comm_by i j e f r off =
    ap (row_after i e) (row_other j f r off)
    ∙ sym (row_other j f (row_after i e r) (λ q. off (sym (ap (λ (t : Turn). t.thread) (row_turn i e r)) ∙ q)))

pub row_comm : (i j : ℕ) (e f : Effect) (r : Row) → (i ≡ j → ⊥)
    → row_after i e (row_after j f r) ≡ row_after j f (row_after i e r)
row_comm i j e f r apart =
    ⊎_elim
    (λ (own : r.turn.thread ≡ i). row_comm_by i j e f r (λ q. apart (sym own ∙ q)))
    (λ (other : r.turn.thread ≡ i → ⊥). sym (row_comm_by j i f e r other))
    (cases_eq r.turn.thread i)

-- ## Locks

pub lock_other : (i : ℕ) (o : Option ℕ) (l : DetLock) → is_number l.holder i ≡ false → lock_after i o l ≡ l
unfolding lock_after
lock_other i o l h = cond-false _ _ _ h

pub lock_mine : (i : ℕ) (o : Option ℕ) (l : DetLock) → is_number l.holder i ≡ true → lock_after i o l ≡ freed_by o l
unfolding lock_after
lock_mine i o l h = cond-true _ _ _ h

freed_not : (j : ℕ) (o : Option ℕ) (l : DetLock) → is_number l.holder j ≡ false
    → is_number (freed_by o l).holder j ≡ false
freed_not j None l h = h
freed_not j (Some r) l h = refl

-- an event gives no lock
pub lock_not : (i j : ℕ) (o : Option ℕ) (l : DetLock) → is_number l.holder j ≡ false
    → is_number (lock_after i o l).holder j ≡ false
unfolding lock_after
lock_not i j o l h = cond_both (is_number l.holder i) (freed_by o l) l (λ (k : DetLock). is_number k.holder j ≡ false)
    (λ yes. freed_not j o l h) (λ off. h)

pub one_holder : (o : Option ℕ) (i j : ℕ) → is_number o i ≡ true → (i ≡ j → ⊥) → is_number o j ≡ false
one_holder None i j h apart = refl
one_holder (Some k) i j h apart = ne_eqb k j (λ q. apart (sym (eqb-true k i h) ∙ q))

lock_comm_by : (i j : ℕ) (o p : Option ℕ) (l : DetLock) → is_number l.holder j ≡ false
    → lock_after i o (lock_after j p l) ≡ lock_after j p (lock_after i o l)
lock_comm_by i j o p l off = ap (lock_after i o) (lock_other j p l off)
    ∙ sym (lock_other j p (lock_after i o l) (lock_not i j o l off))

pub lock_comm : (i j : ℕ) (o p : Option ℕ) (l : DetLock) → (i ≡ j → ⊥)
    → lock_after i o (lock_after j p l) ≡ lock_after j p (lock_after i o l)
lock_comm i j o p l apart =
    ⊎_elim
    (λ (own : is_number l.holder i ≡ true). lock_comm_by i j o p l (one_holder l.holder i j own apart))
    (λ (off : is_number l.holder i ≡ false). sym (lock_comm_by j i p o l off))
    (cases_Bool (is_number l.holder i))

-- ## The world

pub world_other : (i : ℕ) (l : DetLock) (o : Option World) (w : World) → is_number l.holder i ≡ false
    → world_after i l o w ≡ w
unfolding world_after
world_other i l o w h = cond-false _ _ _ h

pub world_mine : (i : ℕ) (l : DetLock) (o : Option World) (w : World) → is_number l.holder i ≡ true
    → world_after i l o w ≡ or_else o w
unfolding world_after
world_mine i l o w h = cond-true _ _ _ h

world_comm_by : (i j : ℕ) (l : DetLock) (p q : Option ℕ) (o v : Option World) (w : World) → is_number l.holder j ≡ false
    → world_after i (lock_after j q l) o (world_after j l v w)
    ≡ world_after j (lock_after i p l) v (world_after i l o w)
world_comm_by i j l p q o v w off =
    ap₂ (λ (k : DetLock) (u : World). world_after i k o u) (lock_other j q l off) (world_other j l v w off)
    ∙ sym (world_other j (lock_after i p l) v (world_after i l o w) (lock_not i j p l off))

pub world_comm : (i j : ℕ) (l : DetLock) (p q : Option ℕ) (o v : Option World) (w : World) → (i ≡ j → ⊥)
    → world_after i (lock_after j q l) o (world_after j l v w)
    ≡ world_after j (lock_after i p l) v (world_after i l o w)
world_comm i j l p q o v w apart =
    ⊎_elim
    (λ (own : is_number l.holder i ≡ true). world_comm_by i j l p q o v w (one_holder l.holder i j own apart))
    (λ (off : is_number l.holder i ≡ false). sym (world_comm_by j i l q p v o w off))
    (cases_Bool (is_number l.holder i))

-- ## Moves

pub move_comm : (i j : ℕ) (m n : Option Moved) (s : State) → (i ≡ j → ⊥) → move i m (move j n s) ≡ move j n (move i m s)
move_comm i j None n s apart = refl
move_comm i j (Some m) None s apart = refl
move_comm i j (Some m) (Some n) s apart =
    λ k. record {
      threads = set_comm s.threads j i n.thread m.thread (λ e. apart (sym e)) k;
      table = lock_comm i j m.effect.table_freed n.effect.table_freed s.table apart k;
      objects = map_comm (lock_after i m.effect.object_freed) (lock_after j n.effect.object_freed) s.objects
          (λ l. lock_comm i j m.effect.object_freed n.effect.object_freed l apart) k;
      rows = map_comm (row_after i m.effect) (row_after j n.effect) s.rows (λ r. row_comm i j m.effect n.effect r apart)
          k;
      world = world_comm i j s.table m.effect.table_freed n.effect.table_freed m.effect.world n.effect.world s.world
          apart k;
    }

pub thread_move : (i j : ℕ) (m : Option Moved) (s : State) → (i ≡ j → ⊥) → thread_of (move i m s) j ≡ thread_of s j
thread_move i j None s apart = refl
thread_move i j (Some m) s apart = get_or-set_other s.threads i j m.thread nobody (λ e. apart (sym e))

pub thread_advance : (setup : Setup) (i j : ℕ) (s : State) → (i ≡ j → ⊥)
    → thread_of (advance setup i s) j ≡ thread_of s j
unfolding advance
thread_advance setup i j s apart = thread_move i j (moves setup i (thread_of s i)) s apart

pub advance_move : (setup : Setup) (i : ℕ) (s : State) → advance setup i s ≡ move i (moves setup i (thread_of s i)) s
unfolding advance
advance_move setup i s = refl

pub advance_by_other : (setup : Setup) (i j : ℕ) (s : State) → (i ≡ j → ⊥)
    → advance setup i (advance setup j s) ≡ move i (moves setup i (thread_of s i)) (advance setup j s)
advance_by_other setup i j s apart =
    advance_move setup i (advance setup j s)
    ∙ ap (λ (t : Thread). move i (moves setup i t) (advance setup j s))
    (thread_advance setup j i s (λ e. apart (sym e)))

-- events that need no turn commute
pub advance_comm : (setup : Setup) (i j : ℕ) (s : State) → (i ≡ j → ⊥)
    → advance setup i (advance setup j s) ≡ advance setup j (advance setup i s)
advance_comm setup i j s apart =
    let mi = moves setup i (thread_of s i) in
    let mj = moves setup j (thread_of s j) in
    advance_by_other setup i j s apart
    ∙ (ap (move i mi) (advance_move setup j s)
    ∙ (move_comm i j mi mj s apart
    ∙ (ap (move j mj) (sym (advance_move setup i s)) ∙ sym (advance_by_other setup j i s (λ e. apart (sym e))))))

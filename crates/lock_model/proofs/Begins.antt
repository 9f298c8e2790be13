-- The prefix law.
use Rattle.std.proofs.Common.{◌≡◌, ℕ, List, [], ◌∷◌, filter_map, Option, Some, None, Bool, true, false, ◌&&◌, is_some}
use Rattle.std.proofs.Common.{is_none, nat_le, ◌==◌, sym, refl, ap, ◌∙◌, subst, ⊎_elim}
use Rattle.std.proofs.lemmas.Bool.{false≢true, ne_eqb, and_parts, and_from, and_left, cond-true, cond-false, cases_Bool}
use Rattle.lock_model.specs.CallTable.{CallTable}
use Rattle.sequential_object.specs.declared.turn_end.TurnEnd.{TurnEnd}
use Rattle.lock_model.specs.History.{Agrees, RowAgrees, IsBeginning, IsPrefixOf, rows_of}
use Rattle.lock_model.specs.Laws.{HaveEnded, Begins}
use Rattle.lock_model.specs.Legal.{handed_on}
use Rattle.lock_model.specs.Machine.{Setup, Event, moves_in, within, moves, is_open, tried, wants, can_attempt}
use Rattle.lock_model.specs.Machine.Event.{Advances, Attempts}
use Rattle.lock_model.specs.Runs.{run}
use Rattle.lock_model.specs.Schedule.{EndsIn}
use Rattle.lock_model.specs.State.{Phase, Thread, Row, State, thread_of, live_clocks, start}
use Rattle.lock_model.specs.State.Phase.{Ended}
use Rattle.sequential_object.specs.Worlds.{World}
use Rattle.sequential_object.specs.Step.{Carried}
use Rattle.lock_model.specs.Transcripts.{replied}
use Rattle.logical_clocks.specs.TurnOrder.{has_turn}
use Rattle.posix_terms.specs.declared.transcript.Turn.{Turn}
use Rattle.std.specs.List.{cons_option}
use Rattle.lock_model.proofs.Diamond.{IsStill, Reaches, still_same}
use Rattle.lock_model.proofs.Plain.{run_reaches}
use Rattle.lock_model.proofs.Growth.{agrees_refl, adds_leads}
use Rattle.lock_model.proofs.Walk.{next_world, opened, opened_other, Walk}
use Rattle.lock_model.proofs.Kept.{Right, right_run}

-- ## Rows of one thread

begins_of : (i : ℕ) (xs ys : List Row) → IsBeginning xs ys → IsBeginning (rows_of i xs) (rows_of i ys)
begins_of i [] ys h = tt
begins_of i (x ∷ xs) [] h = absurd h
begins_of i (x ∷ xs) (y ∷ ys) h =
    let same : (x.turn.thread == i) ≡ (y.turn.thread == i) = ap (λ (t : Turn). t.thread == i) h.0.turn in
    let rest = begins_of i xs ys h.1 in
    ⊎_elim
    (λ (mine : (x.turn.thread == i) ≡ true).
    subst (λ (l : List Row). IsBeginning l (rows_of i (y ∷ ys)))
    (sym (cond-true (x.turn.thread == i) (x ∷ rows_of i xs) (rows_of i xs) mine))
    (subst (λ (l : List Row). IsBeginning (x ∷ rows_of i xs) l)
    (sym (cond-true (y.turn.thread == i) (y ∷ rows_of i ys) (rows_of i ys) (sym same ∙ mine))) (h.0, rest)))
    (λ (off : (x.turn.thread == i) ≡ false).
    subst (λ (l : List Row). IsBeginning l (rows_of i (y ∷ ys)))
    (sym (cond-false (x.turn.thread == i) (x ∷ rows_of i xs) (rows_of i xs) off))
    (subst (λ (l : List Row). IsBeginning (rows_of i xs) l)
    (sym (cond-false (y.turn.thread == i) (y ∷ rows_of i ys) (rows_of i ys) (sym same ∙ off))) rest))
    (cases_Bool (x.turn.thread == i))

-- an open row of thread i is its last
abbrev pub IsLastOpen : ℕ → List Row → Type 0
IsLastOpen i [] = Unit {0}
IsLastOpen i (r ∷ rs) = (is_open i r ≡ true → rows_of i rs ≡ []) × IsLastOpen i rs

none_left : (calls : CallTable) (s : State) (i : ℕ) (w : World) (carried : ℕ → Carried) (busy : ℕ
    → Bool) (rs : List Row) → busy i ≡ true → Walk calls s w carried busy rs → rows_of i rs ≡ []
none_left calls s i w carried busy [] b h = refl
none_left calls s i w carried busy (r ∷ rs) b h =
    let off : r.turn.thread ≡ i → ⊥ = λ e. false≢true (sym h.0 ∙ (ap busy e ∙ b)) in
    cond-false (r.turn.thread == i) (r ∷ rows_of i rs) (rows_of i rs) (ne_eqb r.turn.thread i off)
    ∙ none_left calls s i (next_world calls w (carried r.turn.thread) r r.answer) (handed_on calls carried r)
    (opened busy r) rs (opened_other busy r i off ∙ b) h.2

last_open : (calls : CallTable) (s : State) (i : ℕ) (w : World) (carried : ℕ → Carried) (busy : ℕ
    → Bool) (rs : List Row) → Walk calls s w carried busy rs → IsLastOpen i rs
last_open calls s i w carried busy [] h = tt
last_open calls s i w carried busy (r ∷ rs) h = (
  λ is.
      let parts = and_parts (r.turn.thread == i) (is_none r.answer) is in
      none_left calls s i (next_world calls w (carried r.turn.thread) r r.answer) (handed_on calls carried r)
      (opened busy r) rs
      (cond-true (r.turn.thread == i) (is_none r.answer) (busy i) parts.0 ∙ parts.1) h.2,
  last_open calls s i (next_world calls w (carried r.turn.thread) r r.answer) (handed_on calls carried r)
      (opened busy r) rs h.2,
)

-- ## Lists that the rows of one thread give

prefix_nil : {A : Type 0} (ys : List A) → IsPrefixOf [] ys
prefix_nil ys = (ys, refl)

prefix_same : {A : Type 0} (o : Option A) (xs ys : List A) → IsPrefixOf xs ys
    → IsPrefixOf (cons_option o xs) (cons_option o ys)
prefix_same None xs ys h = h
prefix_same (Some x) xs ys h = (h.0, ap (λ (l : List _). x ∷ l) h.1)

prefix_last : {A : Type 0} (o p : Option A) (ys : List A) → Agrees o p
    → IsPrefixOf (cons_option o []) (cons_option p ys)
prefix_last None p ys h = prefix_nil (cons_option p ys)
prefix_last (Some x) p ys h = subst (λ (q : Option _). IsPrefixOf (x ∷ []) (cons_option q ys)) (sym h) (ys, refl)

prefix_of : {A : Type 0} (view : Row → Option A) → ((r q : Row) → RowAgrees r q → Agrees (view r) (view q))
    → (i : ℕ) (xs ys : List Row)
    → IsLastOpen i xs → IsBeginning xs ys → IsPrefixOf (filter_map view (rows_of i xs)) (filter_map view (rows_of i ys))
prefix_of view agrees i [] ys tidy h = prefix_nil (filter_map view (rows_of i ys))
prefix_of view agrees i (x ∷ xs) [] tidy h = absurd h
prefix_of {A} view agrees i (x ∷ xs) (y ∷ ys) tidy h =
    let same : (x.turn.thread == i) ≡ (y.turn.thread == i) = ap (λ (t : Turn). t.thread == i) h.0.turn in
    let rest = prefix_of view agrees i xs ys tidy.1 h.1 in
    ⊎_elim
    (λ (mine : (x.turn.thread == i) ≡ true).
    subst (λ (l : List Row). IsPrefixOf (filter_map view l) (filter_map view (rows_of i (y ∷ ys))))
    (sym (cond-true (x.turn.thread == i) (x ∷ rows_of i xs) (rows_of i xs) mine))
    (subst (λ (l : List Row). IsPrefixOf (filter_map view (x ∷ rows_of i xs)) (filter_map view l))
    (sym (cond-true (y.turn.thread == i) (y ∷ rows_of i ys) (rows_of i ys) (sym same ∙ mine)))
    (⊎_elim
    (λ (none : is_none x.answer ≡ true).
    subst (λ (l : List Row). IsPrefixOf (filter_map view (x ∷ l)) (filter_map view (y ∷ rows_of i ys)))
    (sym (tidy.0 (and_from (x.turn.thread == i) (is_none x.answer) mine none)))
    (prefix_last (view x) (view y) (filter_map view (rows_of i ys)) (agrees x y h.0)))
    (λ (full : is_none x.answer ≡ false).
    subst (λ (o : Option A). IsPrefixOf (filter_map view (x ∷ rows_of i xs))
    (cons_option o (filter_map view (rows_of i ys)))) (sym (ap view (h.0.closed full)))
    (prefix_same (view x) (filter_map view (rows_of i xs)) (filter_map view (rows_of i ys)) rest))
    (cases_Bool (is_none x.answer)))))
    (λ (off : (x.turn.thread == i) ≡ false).
    subst (λ (l : List Row). IsPrefixOf (filter_map view l) (filter_map view (rows_of i (y ∷ ys))))
    (sym (cond-false (x.turn.thread == i) (x ∷ rows_of i xs) (rows_of i xs) off))
    (subst (λ (l : List Row). IsPrefixOf (filter_map view (rows_of i xs)) (filter_map view l))
    (sym (cond-false (y.turn.thread == i) (y ∷ rows_of i ys) (rows_of i ys) (sym same ∙ off))) rest))
    (cases_Bool (x.turn.thread == i))

replied_agrees : (r q : Row) (o : Option TurnEnd) → r.answer ≡ o → RowAgrees r q
    → Agrees (replied r r.answer) (replied q q.answer)
replied_agrees r q None e h = subst (λ (a : Option TurnEnd). Agrees (replied r a) (replied q q.answer)) (sym e) tt
replied_agrees r q (Some a) e h = subst (λ (x : Row). Agrees (replied r r.answer) (replied x x.answer))
    (sym (h.closed (ap is_none e))) (agrees_refl (replied r r.answer))

-- ## The prefix law

ended_moves : (setup : Setup) (i : ℕ) (t : Thread) → t.phase ≡ Ended → moves setup i t ≡ None
unfolding moves
ended_moves setup i t h = ap (λ (p : Phase). within setup.limits.clock_limit (moves_in setup i t p)) h

ended_still : (setup : Setup) (s : State) → HaveEnded s → IsStill setup s
unfolding can_attempt
ended_still setup s h (Advances i) = ap is_some (ended_moves setup i (thread_of s i) (h i))
ended_still setup s h (Attempts i) = and_left (wants (thread_of s i).phase) (has_turn (live_clocks s) i
    && nat_le (thread_of (tried setup s i) i).clock setup.limits.clock_limit) (ap wants (h i))

-- what leads to a last state begins it, where its rows are right
pub begins_by : (setup : Setup) (w : World) (s last : State) → Right setup.calls w s → Reaches setup s last
    → Begins s last
begins_by setup w s last right reaches =
    let adds = adds_leads setup reaches.0 s last reaches.1 in
    let tidy = λ (i : ℕ). last_open setup.calls s i w (λ k. setup.calls.nothing_carried) (λ k. false) s.rows right in
    record {
      together = adds.rows;
      rows = λ i. begins_of i s.rows last.rows adds.rows;
      steps = λ i. (adds.threads i).asked;
      outcomes = λ i. prefix_of (λ (r : Row). r.outcome) (λ r q h. h.outcome) i s.rows last.rows (tidy i) adds.rows;
      answers = λ i. prefix_of (λ (r : Row). r.answer) (λ r q h. h.answer) i s.rows last.rows (tidy i) adds.rows;
      transcripts = λ i. prefix_of (λ (r : Row). replied r r.answer) (λ r q h. replied_agrees r q r.answer refl h) i
          s.rows last.rows (tidy i) adds.rows;
      whole = λ ended. still_same setup s last reaches (ended_still setup s ended);
    }

pub prefix_law : (setup : Setup) (threads objects : ℕ) (w : World) (events : List Event) (last : State)
    → EndsIn setup (start threads objects w) last → Begins (run setup events (start threads objects w)) last
prefix_law setup threads objects w events last h =
    begins_by setup w (run setup events (start threads objects w)) last (right_run setup threads objects w events)
    (run_reaches setup (start threads objects w) last events h)

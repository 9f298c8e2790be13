-- The replies that a thread got are those of its rows.
use Rattle.std.proofs.Common.{◌≡◌, ℕ, List, [], ◌++◌, map, Option, Some, None, Bool, true, false, is_none, ◌==◌, sym}
use Rattle.std.proofs.Common.{refl, ap, ◌∙◌, subst, ⊎_elim}
use Rattle.std.proofs.lemmas.Bool.{and_parts, cases_eq, cases_Bool}
use Rattle.std.proofs.lemmas.List.{append-nil}
use Rattle.std.specs.List.{cons_option}
use Rattle.lock_model.specs.CallTable.{CallTable}
use Rattle.sequential_object.specs.declared.turn_end.TurnEnd.{TurnEnd}
use Rattle.sequential_object.specs.declared.turn_end.TurnEnd.TheVariants as turn_end
use Rattle.lock_model.specs.Came.{RepliesAreRows}
use Rattle.lock_model.specs.Machine.{Setup, Effect, Moved, Event, after_step, answer, answered, attempt, happens}
use Rattle.lock_model.specs.Machine.{is_allowed, is_open, move, moves, row_after, with_outcome}
use Rattle.lock_model.specs.Machine.Event.{Advances, Attempts}
use Rattle.lock_model.specs.Runs.{own, run, supplied}
use Rattle.lock_model.specs.State.{Job, Row, State, Thread, nobody, start, thread_of}
use Rattle.sequential_object.specs.Worlds.{World}
use Rattle.lock_model.specs.Transcripts.{replies_of, reply_in}
use Rattle.posix_terms.specs.Calls.{Call}
use Rattle.posix_terms.specs.declared.reply.Reply.{Reply}
use Rattle.sequential_object.specs.Step.{Carried}
use Rattle.posix_terms.specs.declared.step.Step.{Step}
use Rattle.posix_terms.specs.declared.step.Step.TheVariants as step
use Rattle.lock_model.proofs.Attempt.{attempt_other, move_of}
use Rattle.lock_model.proofs.Commute.{advance_move, row_closed, row_open, row_turn, thread_move}
use Rattle.lock_model.proofs.Follows.{attempt_tried}
use Rattle.lock_model.proofs.Growth.{at_moves}
use Rattle.lock_model.proofs.Kept.{Right, busy_found, busy_phase, first_thread, right_event, right_start, run_keeps}
use Rattle.lock_model.proofs.Kept.{start_thread}
use Rattle.lock_model.proofs.OfRows.{of_attempt, of_filled, of_other, of_same}
use Rattle.lock_model.proofs.Turn.{thread_moved}
use Rattle.lock_model.proofs.Walk.{Walk, none_is}

abbrev reply_of : Row → Option Reply
reply_of r = reply_in r.answer

abbrev AllReplied : State → Type 0
AllReplied s = (i : ℕ) → (thread_of s i).replies ≡ replies_of i s.rows

-- where an event answers nothing
replies_quiet : (i k : ℕ) (e : Effect) (rs : List Row) → e.answer ≡ None
    → replies_of k (map (row_after i e) rs) ≡ replies_of k rs
replies_quiet i k e rs none = of_same reply_of k (row_after i e) rs (row_turn i e) (λ r mine. row_quiet r)
  where
    row_quiet : (r : Row) → reply_of (row_after i e r) ≡ reply_of r
    row_quiet r =
        ⊎_elim
        (λ (is : is_open i r ≡ true).
        let open_now : r.answer ≡ None = none_is r.answer (and_parts (r.turn.thread == i) (is_none r.answer) is).1 in
        ap reply_of (row_open i e r is) ∙ (ap reply_in none ∙ sym (ap reply_in open_now)))
        (λ (off : is_open i r ≡ false). ap reply_of (row_closed i e r off))
        (cases_Bool (is_open i r))

-- the answer of a thread in a call is that of its last row
replies_answer : (calls : CallTable) (s : State) (i : ℕ) (e : Effect) (a : TurnEnd) (w : World) (carried : ℕ
    → Carried) (busy : ℕ → Bool) (rs : List Row)
    → busy_phase (thread_of s i).phase ≡ true → e.answer ≡ Some a → busy i ≡ false → Walk calls s w carried busy rs
    → replies_of i (map (row_after i e) rs) ≡ replies_of i rs ++ cons_option (reply_in (Some a)) []
replies_answer calls s i e a w carried busy rs is some free h =
    of_filled reply_of calls s i e (reply_in (Some a)) w carried busy rs
    (λ u c b off walk. busy_found calls s i is u c b off walk)
    (λ u b r us mine own p.
    let open_now : r.answer ≡ None = none_is r.answer (and_parts (r.turn.thread == i) (is_none r.answer) own).1 in
    (ap reply_in open_now, ap reply_of (row_open i e r own) ∙ ap reply_in some))
    free h

step_replies : (calls : CallTable) (t : Thread) (x : Step) → (after_step calls t x).replies ≡ t.replies
step_replies calls t (step.Work n) = refl
step_replies calls t (step.Call c) = refl
step_replies calls t step.End = refl

answered_replies : (t : Thread) (c : Call) (n : ℕ) (a : TurnEnd)
    → (answered t c n a).replies ≡ t.replies ++ cons_option (reply_in (Some a)) []
answered_replies t c n (turn_end.Reply r) = refl
answered_replies t c n (turn_end.Blocked b) = sym (append-nil t.replies)

-- the replies of the thread of an event
replies_mine : (setup : Setup) (w : World) (s : State) (i : ℕ) (m : Moved) → moves setup i (thread_of s i) ≡ Some m
    → Right setup.calls w s → (thread_of s i).replies ≡ replies_of i s.rows
    → m.thread.replies ≡ replies_of i (map (row_after i m.effect) s.rows)
replies_mine setup w s i m e right replies =
    let t = thread_of s i in
    let answers : (job : Job) → busy_phase t.phase ≡ true
    → (answer setup.calls t job).thread.replies
    ≡ replies_of i (map (row_after i (answer setup.calls t job).effect) s.rows) =
    λ job busy.
    let a = setup.calls.answer job.found job.call job.outcome job.carried in
    answered_replies t job.call _ a
    ∙ (ap (λ l. l ++ cons_option (reply_in (Some a)) []) replies
    ∙ sym (replies_answer setup.calls s i (answer setup.calls t job).effect a w (λ k. setup.calls.nothing_carried)
    (λ k. false) s.rows busy refl refl right)) in
    at_moves setup i t (λ p n. t.phase ≡ p → n.thread.replies ≡ replies_of i (map (row_after i n.effect) s.rows)) m
    (record {
      steps = λ x q phase. step_replies setup.calls t x ∙ (replies ∙ sym (replies_quiet i i _ s.rows refl));
      begins = λ job phase. replies ∙ sym (replies_quiet i i _ s.rows refl);
      records = λ job o q f phase. replies ∙ sym (replies_quiet i i (with_outcome t job o).effect s.rows refl);
      grants = λ job phase. answers job (ap busy_phase phase);
      answers = λ job phase. answers job (ap busy_phase phase);
      agains = λ c b phase. replies ∙ sym (replies_quiet i i _ s.rows refl);
    })
    e refl

replies_move : (setup : Setup) (w : World) (s : State) (i : ℕ) (m : Moved) → moves setup i (thread_of s i) ≡ Some m
    → Right setup.calls w s → AllReplied s → AllReplied (move i (Some m) s)
replies_move setup w s i m e right replies k =
    let z = move i (Some m) s in
    ⊎_elim
    (λ (mine : i ≡ k).
    subst (λ (n : ℕ). (thread_of z n).replies ≡ replies_of n z.rows) mine
    (ap (λ (t : Thread). t.replies) (thread_moved setup s i m e) ∙ replies_mine setup w s i m e right (replies i)))
    (λ (apart : i ≡ k → ⊥). ap (λ (t : Thread). t.replies) (thread_move i k (Some m) s apart)
    ∙ (replies k ∙ sym (of_other reply_of i k m.effect s.rows apart)))
    (cases_eq i k)

replies_event : (setup : Setup) (w : World) (s : State) (e : Event) → is_allowed setup e s ≡ true
    → Right setup.calls w s → AllReplied s → AllReplied (happens setup e s)
replies_event setup w s (Advances i) can right replies k =
    let m = move_of setup s i can in
    subst AllReplied (sym (advance_move setup i s ∙ ap (λ (o : Option Moved). move i o s) m.1))
    (replies_move setup w s i m.0 m.1 right replies) k
replies_event setup w s (Attempts i) can right replies k =
    let z = attempt setup i s in
    let rows : (n : ℕ) → replies_of n z.rows ≡ replies_of n s.rows = λ n. of_attempt reply_of (λ turn c. refl) setup s i
    n can in
    ⊎_elim
    (λ (mine : i ≡ k). subst (λ (n : ℕ). (thread_of z n).replies ≡ replies_of n z.rows) mine
    ((attempt_tried setup s i can).replies ∙ (replies i ∙ sym (rows i))))
    (λ (apart : i ≡ k → ⊥). ap (λ (t : Thread). t.replies) (attempt_other setup i k s apart)
    ∙ (replies k ∙ sym (rows k)))
    (cases_eq i k)

replies_start : (threads objects : ℕ) (w : World) → AllReplied (start threads objects w)
replies_start threads objects w k =
    ⊎_elim
    (λ (e : thread_of (start threads objects w) k ≡ first_thread). ap (λ (t : Thread). t.replies) e)
    (λ (e : thread_of (start threads objects w) k ≡ nobody). ap (λ (t : Thread). t.replies) e)
    (start_thread threads objects w k)

replies_run : (setup : Setup) (threads objects : ℕ) (w : World) (events : List Event)
    → Right setup.calls w (run setup events (start threads objects w))
    × AllReplied (run setup events (start threads objects w))
replies_run setup threads objects w events =
    run_keeps setup (λ (z : State). Right setup.calls w z × AllReplied z) events (start threads objects w)
    (λ z e can h. (right_event setup w z e can h.0, replies_event setup w z e can h.0 h.1))
    (right_start setup.calls threads objects w, replies_start threads objects w)

pub replies_are_rows : RepliesAreRows
replies_are_rows setup threads objects w s h =
    subst AllReplied h.ends (replies_run (supplied setup (own s)) threads objects w h.events).1

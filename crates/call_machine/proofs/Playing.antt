-- Scripts play the threads of a run: what the machine's events make of both.
use Rattle.posix_terms.specs.declared.transcript.Settings.{Settings}
use Rattle.std.proofs.Common.{◌≡◌, ◌⊎◌, ℕ, suc, ◌+◌, ◌<◌, ◌≤◌, List, [], ◌∷◌, ◌++◌, length, get_or, set, slice_get}
use Rattle.std.proofs.Common.{Option, Some, None, Bool, true, false, is_some, not, if◌then◌else◌, inl, inr, sym, refl}
use Rattle.std.proofs.Common.{ap, ap₂, ◌∙◌, subst, arith, ⊎_elim}
use Rattle.std.proofs.lemmas.Bool.{cases_eq, false≢true, true≢false}
use Rattle.std.proofs.lemmas.List.{get_or-set_other, get_or-set_same, length-append, length-set, set-get_or}
use Rattle.std.proofs.lemmas.Option.{same_Some}
use Rattle.std.specs.Prelude.{slice_index_or}
use Rattle.posix_terms.specs.Calls.{Call}
use Rattle.posix_terms.specs.declared.outcome.Given.{Given}
use Rattle.posix_terms.specs.declared.reply.Answer as posix
use Rattle.posix_terms.specs.declared.reply.Answer.TheVariants as answer
use Rattle.posix_terms.specs.declared.reply.Reply.{Reply}
use Rattle.thread_scripts.specs.Laws.{RunsEnd}
use Rattle.thread_scripts.specs.Meaning.{lines_left, next_of}
use Rattle.posix_terms.specs.declared.step.Step.{Step}
use Rattle.posix_terms.specs.declared.step.Step.TheVariants as step
use Rattle.lock_model.specs.CallTable.{CallTable}
use Rattle.sequential_object.specs.declared.turn_end.TurnEnd.{TurnEnd}
use Rattle.sequential_object.specs.declared.turn_end.TurnEnd.TheVariants as turn_end
use Rattle.lock_model.specs.Events.{EventLaws, IsIn, IsMoved, thread_in}
use Rattle.lock_model.specs.Events.IsMoved.{AnswersGranted, AnswersRecorded, AsksStep, GetsOutcome, GoesOut, MakesAgain}
use Rattle.lock_model.specs.Machine.{Event, Setup, advance, after_step, answer, answered, attempt, can_advance}
use Rattle.lock_model.specs.Machine.{can_attempt, happens, moves, moves_in, record_outcome, within}
use Rattle.lock_model.specs.Machine.Event.{Advances, Attempts}
use Rattle.lock_model.specs.Runs.{calls_in}
use Rattle.thread_scripts.specs.ScriptPrograms.{Reached, at_start, next_at, reached_after}
use Rattle.lock_model.specs.State as lock
use Rattle.lock_model.specs.State.{Job, Row, State, thread_of}
use Rattle.lock_model.specs.State.Phase.{Blocked, Ended, Granted, Outside, Recorded, ToOutside, WantsObject, WantsTable}
use Rattle.lock_model.specs.State.Phase.{Working}
use Rattle.call_machine.specs.Logs.{Written, came_between, log_with, LogsMore, logged_as}
use Rattle.call_machine.specs.Playing as playing
use Rattle.call_machine.specs.Playing.{Attempted, IsBetween, IsInCall, IsPlayed, Made, Makes, Pauses, Played, Plays}
use Rattle.call_machine.specs.Playing.{PlaysIn, heard, hears, no_player, player_at}
use Rattle.lock_machine.specs.Conditions.{Conditions, setup_under}
use Rattle.call_machine.specs.Setup.{Inputs, conditions_of, outcomes_of, script_of, setup_of}
use Rattle.lock_machine.specs.Shows as shows
use Rattle.lock_machine.specs.Shows.{Advanced, as_it_comes, dated_by, row_outside, AdvancesQuietly, AsksFor, PhaseShows}
use Rattle.lock_machine.specs.Shows.{Quietly, RecordsGiven, Shows, Tells, has_moved, has_diverged, replied}
use Rattle.lock_machine.specs.Whole.{Whole, thread_at}
use Rattle.lock_machine.specs.Diverging.{is_diverging, diverging_in}
use Rattle.lock_machine.specs.Threads.{Thread}
use Rattle.lock_machine.specs.Views.{no_thread}
use Rattle.call_machine.specs.Weights.{Falls, weight}
use Rattle.lock_machine.specs.declared.outside.Progress.{Progress}
use Rattle.lock_machine.specs.declared.outside.Progress.TheVariants as progress
use Rattle.call_machine.specs.declared.players.Player.{Player}
use Rattle.lock_machine.specs.declared.thread.Outing.{Outing}
use Rattle.lock_machine.specs.declared.thread.Phase.{Phase}
use Rattle.lock_machine.specs.declared.thread.Phase.TheVariants as phase
use Rattle.call_machine.proofs.Falling.{advance_falls, asked_falls, attempt_falls, stuck_weighs, total_falls}
use Rattle.call_machine.proofs.Falling.{total_stays, weight_at, weight_shown}
use Rattle.call_machine.proofs.Quiet.{is_outside, logs_none, logs_with, none_between, quiet_came, quiet_diverges}
use Rattle.call_machine.proofs.ScriptProgress.{past, reached_call, reached_work}

-- ## What an event leaves

-- no thread is changed but one
record Leaves (s z : State) (i : ℕ) : Type 0 where
  count : length z.threads ≡ length s.threads
  others : (k : ℕ) → (i ≡ k → ⊥) → thread_of z k ≡ thread_of s k

event_leaves : EventLaws → (setup : Setup) (s : State) (e : Event) → Leaves s (happens setup e s) (thread_in e)
event_leaves laws setup s e = record { count = laws.count setup s e; others = laws.others setup s e }

-- a run in which the script of thread i has come so far, and its data are these
abbrev pub turned : Played → ℕ → Player → Whole → Played
turned p i q w = record { whole = w; players = set p.players i q; outcomes = p.outcomes; log = p.log }

pub same_players : (p : Played) (i : ℕ) (w : Whole) → turned p i (player_at p i) w ≡ record p { whole = w }
same_players p i w k = record {
  whole = w;
  players = set-get_or p.players i no_player k;
  outcomes = p.outcomes;
  log = p.log;
}

-- an event of thread i, from one state to another
record Turning (input : Inputs) (p : Played) (i : ℕ) (q : Player) (w : Whole) (s z : State) : Type 0 where
  inside : i < length p.players
  played : IsPlayed input p s
  leaves : Leaves s z i
  shows : Shows (conditions_of input) w z

plays_on : (input : Inputs) (p : Played) (i : ℕ) (q : Player) (w : Whole) (s z : State) → Turning input p i q w s z
    → Plays input i q (thread_of z i) → IsPlayed input (turned p i q w) z
plays_on input p i q w s z h own =
    record {
      shows = h.shows;
      outcomes = h.played.outcomes;
      count = length-set p.players i q ∙ h.played.count ∙ sym h.played.shows.count ∙ sym h.leaves.count ∙ h.shows.count;
      plays = λ k. ⊎_elim (λ (e : i ≡ k).
          subst (λ (n : ℕ). Plays input n (get_or (set p.players i q) n no_player) (thread_of z n)) e mine)
          (λ (apart : i ≡ k → ⊥). other k apart) (cases_eq i k);
    }
  where
    mine : Plays input i (get_or (set p.players i q) i no_player) (thread_of z i)
    mine = let P : Player → Type 0 = λ x. Plays input i x (thread_of z i) in
        subst P (sym (get_or-set_same p.players i q no_player h.inside)) own

    other : (k : ℕ) → (i ≡ k → ⊥) → Plays input k (get_or (set p.players i q) k no_player) (thread_of z k)
    other k apart =
        let P : lock.Thread → Type 0 = λ u. Plays input k (get_or (set p.players i q) k no_player) u in
        let Q : Player → Type 0 = λ x. Plays input k x (thread_of s k) in
        subst P (sym (h.leaves.others k apart))
        (subst Q (sym (get_or-set_other p.players i k q no_player (λ e. apart (sym e)))) (h.played.plays k))

-- what a thread and its script weigh
abbrev weighed : lock.Thread → Player → ℕ
weighed u p = weight_at u p.stuck (lines_left p.actor)

record Scales (input : Inputs) (p : Played) (i : ℕ) (q : Player) (w : Whole) (s z : State) : Type 0 where
  threads : length w.threads ≡ length p.whole.threads
  players : length (set p.players i q) ≡ length p.whole.threads
  inside : i < length p.whole.threads
  others : (k : ℕ) → (i ≡ k → ⊥) → weight (get_or w.threads k no_thread) (get_or (set p.players i q) k no_player)
      ≡ weight (get_or p.whole.threads k no_thread) (get_or p.players k no_player)
  before : weight (get_or p.whole.threads i no_thread) (get_or p.players i no_player)
      ≡ weighed (thread_of s i) (player_at p i)
  after : weight (get_or w.threads i no_thread) (get_or (set p.players i q) i no_player) ≡ weighed (thread_of z i) q

scales : (input : Inputs) (p : Played) (i : ℕ) (q : Player) (w : Whole) (s z : State) → Turning input p i q w s z
    → Scales input p i q w s z
scales input p i q w s z h =
    let terms = conditions_of input in
    let before = h.played.shows in
    record {
      threads = sym h.shows.count ∙ h.leaves.count ∙ before.count;
      players = length-set p.players i q ∙ h.played.count;
      inside = subst (λ (n : ℕ). i < n) h.played.count h.inside;
      others = λ k apart.
          let x = get_or p.players k no_player in
          ap (weight (thread_at w k)) (get_or-set_other p.players i k q no_player (λ e. apart (sym e)))
          ∙ weight_shown terms k z.rows (thread_at w k) (thread_of z k) x (h.shows.threads k)
          ∙ ap (λ (u : lock.Thread). weighed u x) (h.leaves.others k apart)
          ∙ sym (weight_shown terms k s.rows (thread_at p.whole k) (thread_of s k) x (before.threads k));
      before = weight_shown terms i s.rows (thread_at p.whole i) (thread_of s i) (player_at p i) (before.threads i);
      after = ap (weight (thread_at w i)) (get_or-set_same p.players i q no_player h.inside)
          ∙ weight_shown terms i z.rows (thread_at w i) (thread_of z i) q (h.shows.threads i);
    }

falls_on : (input : Inputs) (p : Played) (i : ℕ) (q : Player) (w : Whole) (s z : State) → Turning input p i q w s z
    → weighed (thread_of z i) q < weighed (thread_of s i) (player_at p i)
    → Falls true p.whole.threads p.players w.threads (set p.players i q)
falls_on input p i q w s z h less =
    let a = scales input p i q w s z h in
    total_falls p.whole.threads w.threads p.players (set p.players i q) i (a.threads, h.played.count, a.players)
    a.inside a.others
    (subst (λ (n : ℕ). n < weight (thread_at p.whole i) (player_at p i)) (sym a.after)
    (subst (λ (n : ℕ). weighed (thread_of z i) q < n) (sym a.before) less))

stays_on : (input : Inputs) (p : Played) (i : ℕ) (q : Player) (w : Whole) (s z : State) → Turning input p i q w s z
    → weighed (thread_of z i) q ≤ weighed (thread_of s i) (player_at p i)
    → Falls false p.whole.threads p.players w.threads (set p.players i q)
stays_on input p i q w s z h less =
    let a = scales input p i q w s z h in
    total_stays p.whole.threads w.threads p.players (set p.players i q) i (a.threads, h.played.count, a.players)
    a.inside a.others
    (subst (λ (n : ℕ). n ≤ weight (thread_at p.whole i) (player_at p i)) (sym a.after)
    (subst (λ (n : ℕ). weighed (thread_of z i) q ≤ n) (sym a.before) less))

-- ## In a call

-- the thread goes on within its call
record Within (u v : lock.Thread) : Type 0 where
  asked : v.asked ≡ u.asked
  replies : v.replies ≡ u.replies
  inside : IsIn v.phase ≡ true

-- or the call has its reply
record Replied (u v : lock.Thread) : Type 0 where
  reply : Reply
  asked : v.asked ≡ u.asked
  replies : v.replies ≡ u.replies ++ reply ∷ []
  works : v.phase ≡ Working

abbrev gives : lock.Phase → Bool
gives (Granted job) = true
gives (Recorded job) = true
gives p = false

answered_goes : (u : lock.Thread) (c : Call) (n : ℕ) (a : TurnEnd) → Within u (answered u c n a)
    ⊎ Replied u (answered u c n a)
answered_goes u c n (turn_end.Reply r) = inr (record { reply = r; asked = refl; replies = refl; works = refl })
answered_goes u c n (turn_end.Blocked b) = inl (record { asked = refl; replies = refl; inside = refl })

call_goes : (setup : Setup) (i : ℕ) (u v : lock.Thread) → IsIn u.phase ≡ true → IsMoved setup i u v → Within u v
    ⊎ Replied u v
call_goes setup i u v inside h = by_event h
  where
    stays : (w : lock.Thread) → v ≡ w → Within u w ⊎ Replied u w → Within u v ⊎ Replied u v
    stays w is h = subst (λ (t : lock.Thread). Within u t ⊎ Replied u t) (sym is) h

    answers : (job : Job) → v ≡ (answer setup.calls u job).thread → Within u v ⊎ Replied u v
    answers job is = stays (answer setup.calls u job).thread is
        (answered_goes u job.call _ (setup.calls.answer job.found job.call job.outcome job.carried))

    by_event : IsMoved setup i u v → Within u v ⊎ Replied u v
    by_event (AsksStep x phase next is) = absurd (false≢true (sym (ap IsIn phase) ∙ inside))
    by_event (GoesOut job phase is) = stays _ is (inl (record { asked = refl; replies = refl; inside = refl }))
    by_event (GetsOutcome job o phase next fits is) =
        stays _ is (inl (record { asked = refl; replies = refl; inside = refl }))
    by_event (AnswersGranted job phase is) = answers job is
    by_event (AnswersRecorded job phase is) = answers job is
    by_event (MakesAgain c b phase is) = stays _ is (inl (record { asked = refl; replies = refl; inside = refl }))

call_stays : (setup : Setup) (i : ℕ) (u v : lock.Thread) → IsIn u.phase ≡ true → gives u.phase ≡ false
    → IsMoved setup i u v → Within u v
call_stays setup i u v inside quiet h = by_event h
  where
    stays : (w : lock.Thread) → v ≡ w → Within u w → Within u v
    stays w is h = subst (Within u) (sym is) h

    by_event : IsMoved setup i u v → Within u v
    by_event (AsksStep x phase next is) = absurd (false≢true (sym (ap IsIn phase) ∙ inside))
    by_event (GoesOut job phase is) = stays _ is (record { asked = refl; replies = refl; inside = refl })
    by_event (GetsOutcome job o phase next fits is) =
        stays _ is (record { asked = refl; replies = refl; inside = refl })
    by_event (AnswersGranted job phase is) = absurd (true≢false (sym (ap gives phase) ∙ quiet))
    by_event (AnswersRecorded job phase is) = absurd (true≢false (sym (ap gives phase) ∙ quiet))
    by_event (MakesAgain c b phase is) = stays _ is (record { asked = refl; replies = refl; inside = refl })

in_call : (input : Inputs) (i : ℕ) (p : Player) (u : lock.Thread) → IsIn u.phase ≡ true → Plays input i p u
    → IsInCall input i p u
in_call input i p u inside h = by_phase u.phase inside h
  where
    by_phase : (q : lock.Phase) → IsIn q ≡ true → PlaysIn q input i p u → IsInCall input i p u
    by_phase Working e h = absurd (false≢true e)
    by_phase Ended e h = absurd (false≢true e)
    by_phase q e h = h

from_call : (input : Inputs) (i : ℕ) (p : Player) (u : lock.Thread) → IsIn u.phase ≡ true → IsInCall input i p u
    → Plays input i p u
from_call input i p u inside h = by_phase u.phase inside
  where
    by_phase : (q : lock.Phase) → IsIn q ≡ true → PlaysIn q input i p u
    by_phase Working e = absurd (false≢true e)
    by_phase Ended e = absurd (false≢true e)
    by_phase q e = h

-- a script plays on in its call
within_plays : (input : Inputs) (i : ℕ) (p : Player) (u v : lock.Thread) → IsInCall input i p u → Within u v
    → Plays input i p v
within_plays input i p u v h g =
    from_call input i p v g.inside
    (record {
      even = ap (λ (rs : List Reply). suc (length rs)) g.replies ∙ h.even ∙ sym (ap calls_in g.asked);
      reached = λ r. ap₂ (λ (asked : List Step) (rs : List Reply). reached_after (at_start (script_of input i)) asked
          (rs ++ r ∷ [])) g.asked g.replies ∙ h.reached r;
      free = h.free;
    })

-- and after it, with the reply
reply_plays : (input : Inputs) (i : ℕ) (p : Player) (u v : lock.Thread) (r : Reply) → IsInCall input i p u
    → v.asked ≡ u.asked → v.replies ≡ u.replies ++ r ∷ [] → v.phase ≡ Working
    → Plays input i (record p { last = Some r }) v
reply_plays input i p u v r h asked replies works =
    let P : lock.Phase → Type 0 = λ q. PlaysIn q input i (record p { last = Some r }) v in
    let Q : Bool → Type 0 = λ b. Pauses b input i (record p { last = Some r }) v in
    subst P (sym works) (subst Q (sym h.free) (record {
      even = ap length replies ∙ length-append u.replies (r ∷ []) ∙ plus_one (length u.replies) ∙ h.even
          ∙ sym (ap calls_in asked);
      reached = ap₂ (reached_after (at_start (script_of input i))) asked replies ∙ h.reached r;
    }))
  where
    plus_one : (n : ℕ) → n + 1 ≡ suc n
    plus_one n = omega arith

longer : (rs : List Reply) (r : Reply) → rs ≡ rs ++ r ∷ [] → ⊥
longer rs r e = too_long (length rs) (ap length e ∙ length-append rs (r ∷ []))
  where
    too_long : (n : ℕ) → n ≡ n + 1 → ⊥
    too_long n h = omega (arith, h)

-- ## The phases of both

-- in a call, and not outside
abbrev pub is_calling : Phase → Bool
is_calling phase.Working = false
is_calling (phase.Outside outing) = false
is_calling phase.Ended = false
is_calling p = true

abbrev is_giving : Phase → Bool
is_giving (phase.Granted row object ends) = true
is_giving (phase.Recorded outing) = true
is_giving p = false

record Calling (u : lock.Phase) (p : Phase) : Type 0 where
  inside : IsIn u ≡ true
  quiet : is_outside u ≡ false
  gives_is : gives u ≡ is_giving p

calling_by : (u q : lock.Phase) (p : Phase) → u ≡ q → Calling q p → Calling u p
calling_by u q p e h = subst (λ (x : lock.Phase). Calling x p) (sym e) h

calling : (terms : Conditions) (i : ℕ) (rows : List Row) (t : Thread) (u : lock.Thread) (p : Phase)
    → is_calling p ≡ true → PhaseShows terms i rows t u p → Calling u.phase p
calling terms i rows t u phase.Working is h = absurd (false≢true is)
calling terms i rows t u (phase.Outside outing) is h = absurd (false≢true is)
calling terms i rows t u phase.Ended is h = absurd (false≢true is)
calling terms i rows t u (phase.WantsTable call carried) is h =
    calling_by u.phase (WantsTable call carried) (phase.WantsTable call carried) h
    (record { inside = refl; quiet = refl; gives_is = refl })
calling terms i rows t u (phase.WantsObject call carried clock object) is (way, h) =
    calling_by u.phase (WantsObject call carried clock object way) (phase.WantsObject call carried clock object) h.0
    (record { inside = refl; quiet = refl; gives_is = refl })
calling terms i rows t u (phase.Granted row object ends) is (job, h) =
    calling_by u.phase (Granted job) (phase.Granted row object ends) h.0
    (record { inside = refl; quiet = refl; gives_is = refl })
calling terms i rows t u (phase.ToOutside outing) is (job, h) =
    calling_by u.phase (ToOutside job) (phase.ToOutside outing) h.0
    (record { inside = refl; quiet = refl; gives_is = refl })
calling terms i rows t u (phase.Recorded outing) is (job, h) = calling_by u.phase (Recorded job) (phase.Recorded outing)
    h.0 (record { inside = refl; quiet = refl; gives_is = refl })
calling terms i rows t u (phase.Blocked carried) is (call, h) =
    calling_by u.phase (Blocked call carried) (phase.Blocked carried) h
    (record { inside = refl; quiet = refl; gives_is = refl })

calling_at : (input : Inputs) (p : Played) (s : State) (i : ℕ) (q : Phase) → Shows (conditions_of input) p.whole s
    → (thread_at p.whole i).phase ≡ q → is_calling q ≡ true → Calling (thread_of s i).phase q
calling_at input p s i q h is calls =
    let P : Phase → Type 0 = λ x. PhaseShows (conditions_of input) i s.rows (thread_at p.whole i) (thread_of s i) x in
    calling (conditions_of input) i s.rows (thread_at p.whole i) (thread_of s i) q calls
    (subst P is (h.threads i).phase)

-- ## Answers, and other events of a call

abbrev pub went : Bool → Progress
went moved = if moved then progress.Moves else progress.Stays

-- nothing came, and nothing diverges
quiet_made : EventLaws → (input : Inputs) (s : State) (i : ℕ) (p new : Played) (moved : Bool)
    → Quietly moved i new.whole (conditions_of input) s → new.log ≡ p.log → is_outside (thread_of s i).phase ≡ false
    → IsPlayed input new (advance (setup_of input) i s)
    → Falls moved p.whole.threads p.players new.whole.threads new.players → Made (went moved) i p new input s
quiet_made laws input s i p new moved h same quiet played falls =
    let setup = setup_of input in
    record {
      can = h.can ∙ sym (moved_by moved);
      diverges = quiet_diverges setup s i quiet ∙ sym (diverges_by moved);
      plays = played;
      log = logs_none (came_between input.settings.version i s (advance setup i s)) p.log new.log
          (none_between input.settings.version i s (advance setup i s) (quiet_came laws setup s (Advances i) quiet))
          same;
      falls = subst (λ (b : Bool). Falls b p.whole.threads p.players new.whole.threads new.players)
          (sym (moved_by moved)) falls;
    }
  where
    moved_by : (b : Bool) → has_moved (went b) ≡ b
    moved_by true = refl
    moved_by false = refl

    diverges_by : (b : Bool) → has_diverged (went b) ≡ false
    diverges_by true = refl
    diverges_by false = refl

-- thread i is in a call, and its event has these replies
record Telling (input : Inputs) (p : Played) (i : ℕ) (w : Whole) (s : State) (told : Option posix.Answer) : Type 0 where
  inside : i < length p.players
  played : IsPlayed input p s
  calls : IsIn (thread_of s i).phase ≡ true
  made : Quietly (is_some told) i w (conditions_of input) s
  replies : (thread_of (advance (setup_of input) i s) i).replies ≡ replied told (thread_of s i).replies

-- what the script plays then
told_plays : EventLaws → (input : Inputs) (p : Played) (i : ℕ) (w : Whole) (s : State) (told : Option posix.Answer)
    → Telling input p i w s told → Plays input i (heard told (player_at p i))
    (thread_of (advance (setup_of input) i s) i)
told_plays laws input p i w s None h =
    let P : State → Type 0 = λ z. Plays input i (player_at p i) (thread_of z i) in
    subst P (sym (laws.not_allowed (setup_of input) (Advances i) s h.made.can)) (h.played.plays i)
told_plays laws input p i w s (Some a) h =
    by_goes a h.replies (call_goes setup i u v h.calls (laws.moved setup s i h.made.can))
  where
    setup : Setup
    setup = setup_of input

    u : lock.Thread
    u = thread_of s i

    v : lock.Thread
    v = thread_of (advance setup i s) i

    call : IsInCall input i (player_at p i) u
    call = in_call input i (player_at p i) u h.calls (h.played.plays i)

    by_goes : (a : posix.Answer) → v.replies ≡ replied (Some a) u.replies → Within u v ⊎ Replied u v
        → Plays input i (heard (Some a) (player_at p i)) v
    by_goes (answer.Reply r) same (inl g) = absurd (longer u.replies r (sym g.replies ∙ same))
    by_goes (answer.Reply r) same (inr g) = reply_plays input i (player_at p i) u v r call g.asked same g.works
    by_goes answer.Again same (inl g) = within_plays input i (player_at p i) u v call g
    by_goes answer.Again same (inr g) = absurd (longer u.replies g.reply (sym same ∙ g.replies))

same_le : (n : ℕ) → n ≤ n
same_le n = omega arith

heard_stuck : (told : Option posix.Answer) (p : Player) → (heard told p).stuck ≡ p.stuck
heard_stuck (Some (answer.Reply r)) p = refl
heard_stuck (Some answer.Again) p = refl
heard_stuck None p = refl

heard_actor : (told : Option posix.Answer) (p : Player) → lines_left (heard told p).actor ≡ lines_left p.actor
heard_actor (Some (answer.Reply r)) p = refl
heard_actor (Some answer.Again) p = refl
heard_actor None p = refl

heard_weighs : (told : Option posix.Answer) (p : Player) (u : lock.Thread) → weighed u (heard told p) ≡ weighed u p
heard_weighs told p u = ap₂ (weight_at u) (heard_stuck told p) (heard_actor told p)

-- an event in a call leaves less to do
call_weighs : EventLaws → (input : Inputs) (s : State) (i : ℕ) (p : Player) → IsIn (thread_of s i).phase ≡ true
    → p.stuck ≡ false → can_advance (setup_of input) s i ≡ true
    → weighed (thread_of (advance (setup_of input) i s) i) p < weighed (thread_of s i) p
call_weighs laws input s i p calls free can =
    let lines = lines_left p.actor in
    subst (λ (b : Bool). weight_at (thread_of (advance (setup_of input) i s) i) b lines
    < weight_at (thread_of s i) b lines) (sym free) (advance_falls laws (conditions_of input) i s lines calls can)

-- one that is not made leaves what there was
same_weighs : EventLaws → (input : Inputs) (s : State) (i : ℕ) (p : Player) → can_advance (setup_of input) s i ≡ false
    → weighed (thread_of (advance (setup_of input) i s) i) p ≤ weighed (thread_of s i) p
same_weighs laws input s i p off = subst (λ (z : State). weighed (thread_of z i) p ≤ weighed (thread_of s i) p)
    (sym (laws.not_allowed (setup_of input) (Advances i) s off)) (same_le (weighed (thread_of s i) p))

told_falls : EventLaws → (input : Inputs) (p : Played) (i : ℕ) (w : Whole) (s : State) (told : Option posix.Answer)
    → Telling input p i w s told → Falls (is_some told) p.whole.threads p.players w.threads
    (set p.players i (heard told (player_at p i)))
told_falls laws input p i w s told h = by_test told (is_some told) refl
  where
    setup : Setup
    setup = setup_of input

    x : Player
    x = player_at p i

    turning : Turning input p i (heard told x) w s (advance setup i s)
    turning = record {
      inside = h.inside;
      played = h.played;
      leaves = event_leaves laws setup s (Advances i);
      shows = h.made.shows;
    }

    by_test : (o : Option posix.Answer) (b : Bool) → is_some told ≡ b
        → Falls b p.whole.threads p.players w.threads (set p.players i (heard told x))
    by_test o true e =
        let call = in_call input i x (thread_of s i) h.calls (h.played.plays i) in
        falls_on input p i (heard told x) w s (advance setup i s) turning
        (subst (λ (n : ℕ). n < weighed (thread_of s i) x) (sym (heard_weighs told x (thread_of (advance setup i s) i)))
        (call_weighs laws input s i x h.calls call.free (h.made.can ∙ e)))
    by_test o false e =
        stays_on input p i (heard told x) w s (advance setup i s) turning
        (subst (λ (n : ℕ). n ≤ weighed (thread_of s i) x) (sym (heard_weighs told x (thread_of (advance setup i s) i)))
        (same_weighs laws input s i x (h.made.can ∙ e)))

told_made : EventLaws → (input : Inputs) (p : Played) (i : ℕ) (w : Whole) (s : State) (told : Option posix.Answer)
    → Telling input p i w s told → is_outside (thread_of s i).phase ≡ false
    → Made (went (is_some told)) i p (turned p i (heard told (player_at p i)) w) input s
told_made laws input p i w s told h quiet =
    let setup = setup_of input in
    let q = heard told (player_at p i) in
    let turning : Turning input p i q w s (advance setup i s) =
    record {
      inside = h.inside;
      played = h.played;
      leaves = event_leaves laws setup s (Advances i);
      shows = h.made.shows;
    } in
    quiet_made laws input s i p (turned p i q w) (is_some told) h.made refl quiet
    (plays_on input p i q w s (advance setup i s) turning (told_plays laws input p i w s told h))
    (told_falls laws input p i w s told h)

-- a call has its answer, and its script hears it
pub tells_made : EventLaws → (p : Played) (i : ℕ) (w : Whole) (q : Phase) (told : Option posix.Answer)
    → i < length p.players → (thread_at p.whole i).phase ≡ q → is_calling q ≡ true → Tells told i p.whole w
    → Makes (went (is_some told)) i p (hears told i (record p { whole = w }))
tells_made laws p i w q told inside is calls h input s at =
    let a = h (conditions_of input) s (at.0, at.1.shows) in
    let c = calling_at input p s i q at.1.shows is calls in
    told_made laws input p i w s told
    (record { inside = inside; played = at.1; calls = c.inside; made = a.0; replies = a.1 }) c.quiet

-- an event that brings nothing
pub moves_made : EventLaws → (p : Played) (i : ℕ) (w : Whole) (q : Phase) (moved : Bool) → i < length p.players
    → (thread_at p.whole i).phase ≡ q → is_calling q ≡ true → is_giving q ≡ false → AdvancesQuietly moved i p.whole w
    → Makes (went moved) i p (record p { whole = w })
moves_made laws p i w q moved inside is calls silent h input s at =
    by_test moved (h (conditions_of input) s (at.0, at.1.shows))
  where
    setup : Setup
    setup = setup_of input

    c : Calling (thread_of s i).phase q
    c = calling_at input p s i q at.1.shows is calls

    -- no reply comes
    silently : can_advance setup s i ≡ true → (thread_of (advance setup i s) i).replies ≡ (thread_of s i).replies
    silently can = (call_stays setup i (thread_of s i) (thread_of (advance setup i s) i) c.inside (c.gives_is ∙ silent)
        (laws.moved setup s i can)).replies

    by_test : (b : Bool) → Quietly b i w (conditions_of input) s → Made (went b) i p (record p { whole = w }) input s
    by_test true a =
        subst (λ (x : Played). Made progress.Moves i p x input s) (same_players p i w)
        (told_made laws input p i w s (Some answer.Again)
        (record { inside = inside; played = at.1; calls = c.inside; made = a; replies = silently a.can }) c.quiet)
    by_test false a =
        subst (λ (x : Played). Made progress.Stays i p x input s) (same_players p i w)
        (told_made laws input p i w s None
        (record {
          inside = inside;
          played = at.1;
          calls = c.inside;
          made = a;
          replies = ap (λ (z : State). (thread_of z i).replies) (laws.not_allowed setup (Advances i) s a.can);
        })
        c.quiet)

-- ## No event

-- thread i can't make one, and does not diverge
stays_made : EventLaws → (input : Inputs) (p : Played) (s : State) (i : ℕ) (q : Player) (w : Whole)
    → i < length p.players → IsPlayed input p s → moves (setup_of input) i (thread_of s i) ≡ None
    → is_diverging (setup_of input) s i ≡ false → Shows (conditions_of input) w s
    → Plays input i q (thread_of s i) → weighed (thread_of s i) q ≤ weighed (thread_of s i) (player_at p i)
    → Made progress.Stays i p (turned p i q w) input s
stays_made laws input p s i q w inside played none quiet h own less =
    let setup = setup_of input in
    let off : can_advance setup s i ≡ false = ap is_some none in
    let same : advance setup i s ≡ s = laws.not_allowed setup (Advances i) s off in
    let turning : Turning input p i q w s s =
    record {
      inside = inside;
      played = played;
      leaves = record { count = refl; others = λ k apart. refl };
      shows = h;
    } in
    let P : State → Type 0 = IsPlayed input (turned p i q w) in
    record {
      can = off;
      diverges = quiet;
      plays = subst P (sym same) (plays_on input p i q w s s turning own);
      log = logs_none (came_between input.settings.version i s (advance setup i s)) p.log p.log
          (none_between input.settings.version i s (advance setup i s) (ap (λ (z : State). (thread_of z i).came) same))
          refl;
      falls = stays_on input p i q w s s turning less;
    }

still_made : EventLaws → (input : Inputs) (p : Played) (s : State) (i : ℕ) → i < length p.players → IsPlayed input p s
    → moves (setup_of input) i (thread_of s i) ≡ None → is_diverging (setup_of input) s i ≡ false
    → Made progress.Stays i p p input s
still_made laws input p s i inside played none quiet =
    subst (λ (x : Played). Made progress.Stays i p x input s) (same_players p i p.whole)
    (stays_made laws input p s i (player_at p i) p.whole inside played none quiet played.shows (played.plays i)
    (same_le (weighed (thread_of s i) (player_at p i))))

moves_none : (setup : Setup) (i : ℕ) (u : lock.Thread) (p : lock.Phase) → u.phase ≡ p → moves_in setup i u p ≡ None
    → moves setup i u ≡ None
unfolding moves
moves_none setup i u p e h = ap (λ (q : lock.Phase). within setup.limits.clock_limit (moves_in setup i u q)) e
    ∙ ap (within setup.limits.clock_limit) h

-- threads in these phases make no event without the turn
abbrev pub is_idle : Phase → Bool
is_idle (phase.WantsTable call carried) = true
is_idle (phase.WantsObject call carried clock object) = true
is_idle phase.Ended = true
is_idle p = false

idle_moves : (terms : Conditions) (i : ℕ) (rows : List Row) (t : Thread) (u : lock.Thread) (p : Phase)
    → is_idle p ≡ true → PhaseShows terms i rows t u p → (moves (setup_under terms) i u ≡ None)
    × (is_outside u.phase ≡ false)
idle_moves terms i rows t u (phase.WantsTable call carried) is h =
    (moves_none (setup_under terms) i u (WantsTable call carried) h refl, ap is_outside h)
idle_moves terms i rows t u (phase.WantsObject call carried clock object) is (way, h) =
    (moves_none (setup_under terms) i u (WantsObject call carried clock object way) h.0 refl, ap is_outside h.0)
idle_moves terms i rows t u phase.Ended is h = (moves_none (setup_under terms) i u Ended h refl, ap is_outside h)
idle_moves terms i rows t u p is h = absurd (false≢true is)

pub idle_made : EventLaws → (p : Played) (i : ℕ) → i < length p.players → is_idle (thread_at p.whole i).phase ≡ true
    → Makes progress.Stays i p p
idle_made laws p i inside idle input s at =
    let terms = conditions_of input in
    let a = idle_moves terms i s.rows (thread_at p.whole i) (thread_of s i) (thread_at p.whole i).phase idle
    (at.1.shows.threads i).phase in
    still_made laws input p s i inside at.1 a.0 (quiet_diverges (setup_of input) s i a.1)

-- ## A script is asked for its next step

working_at : (input : Inputs) (p : Played) (s : State) (i : ℕ) → Shows (conditions_of input) p.whole s
    → (thread_at p.whole i).phase ≡ phase.Working → (thread_of s i).phase ≡ Working
working_at input p s i h is
    = let P : Phase → Type 0 = λ x. PhaseShows (conditions_of input) i s.rows (thread_at p.whole i) (thread_of s i) x
    in subst P is (h.threads i).phase

pausing : (input : Inputs) (i : ℕ) (p : Player) (u : lock.Thread) (stuck : Bool) → u.phase ≡ Working → p.stuck ≡ stuck
    → Plays input i p u → Pauses stuck input i p u
pausing input i p u stuck works is h =
    let P : lock.Phase → Type 0 = λ q. PlaysIn q input i p u in
    let Q : Bool → Type 0 = λ b. Pauses b input i p u in
    subst Q is (subst P works h)

-- one that has no room for it stays so
pub stuck_made : EventLaws → (p : Played) (i : ℕ) → i < length p.players → (thread_at p.whole i).phase ≡ phase.Working
    → (player_at p i).stuck ≡ true → Makes progress.Stays i p p
stuck_made laws p i inside is stuck input s at =
    let works = working_at input p s i at.1.shows is in
    still_made laws input p s i inside at.1
    (pausing input i (player_at p i) (thread_of s i) true works stuck (at.1.plays i))
    (quiet_diverges (setup_of input) s i (ap is_outside works))

-- a script past its next step
abbrev pub stepped : Player → Bool → Player
stepped p stuck = record { actor = (next_of p.last p.actor).1; last = None; stuck = stuck }

asked_plays : EventLaws → (input : Inputs) (calls : CallTable) (i : ℕ) (p : Player) (u : lock.Thread) (x : Step)
    → IsBetween input i p u → Plays input i (stepped p false) (after_step calls u x)
asked_plays laws input calls i p u (step.Work n) h =
    record {
      even = h.even ∙ sym (laws.calls u.asked (step.Work n) ∙ no_more (calls_in u.asked));
      reached = reached_work (at_start (script_of input i)) u.asked u.replies n ∙ ap (past None) h.reached;
    }
  where
    no_more : (n : ℕ) → n + 0 ≡ n
    no_more n = omega arith
asked_plays laws input calls i p u (step.Call call) h =
    record {
      even = one_more (length u.replies) (calls_in u.asked) (calls_in (u.asked ++ step.Call call ∷ [])) h.even
          (laws.calls u.asked (step.Call call));
      reached = λ r. reached_call (at_start (script_of input i)) u.asked u.replies call r h.even
          ∙ ap (past (Some r)) h.reached;
      free = refl;
    }
  where
    one_more : (a b c : ℕ) → a ≡ b → c ≡ b + 1 → suc a ≡ c
    one_more a b c e f = omega arith
asked_plays laws input calls i p u step.End h = tt

abbrev is_working : lock.Phase → Bool
is_working Working = true
is_working p = false

-- the thread that asks this step is so after it
asked_thread : (setup : Setup) (i : ℕ) (u v : lock.Thread) (x : Step) → u.phase ≡ Working
    → setup.supply.next i u.asked u.replies ≡ Some x → IsMoved setup i u v → v ≡ after_step setup.calls u x
asked_thread setup i u v x works next h = by_event h
  where
    other : {p : lock.Phase} → u.phase ≡ p → is_working p ≡ false → v ≡ after_step setup.calls u x
    other phase off = absurd (false≢true (sym off ∙ sym (ap is_working phase) ∙ ap is_working works))

    by_event : IsMoved setup i u v → v ≡ after_step setup.calls u x
    by_event (AsksStep y phase q is) = is ∙ ap (after_step setup.calls u) (same_Some y x (sym q ∙ next))
    by_event (GoesOut job phase is) = other phase refl
    by_event (GetsOutcome job o phase q fits is) = other phase refl
    by_event (AnswersGranted job phase is) = other phase refl
    by_event (AnswersRecorded job phase is) = other phase refl
    by_event (MakesAgain c b phase is) = other phase refl

-- a script that works, and is asked
record Asking (input : Inputs) (p : Played) (i : ℕ) (s : State) (x : Step) : Type 0 where
  inside : i < length p.players
  played : IsPlayed input p s
  works : (thread_of s i).phase ≡ Working
  free : (player_at p i).stuck ≡ false
  step_is : x ≡ (next_of (player_at p i).last (player_at p i).actor).0
  next : (let u : lock.Thread = thread_of s i in (setup_of input).supply.next i u.asked u.replies) ≡ Some x
  between : IsBetween input i (player_at p i) (thread_of s i)

asked_yes : EventLaws → RunsEnd → (input : Inputs) (p : Played) (i : ℕ) (s : State) (x : Step) (w : Whole)
    → Asking input p i s x → Quietly true i w (conditions_of input) s
    → Made progress.Moves i p (turned p i (stepped (player_at p i) false) w) input s
asked_yes laws ends input p i s x w h a =
    let setup = setup_of input in
    let u = thread_of s i in
    let y = player_at p i in
    let q = stepped y false in
    let there : thread_of (advance setup i s) i ≡ after_step setup.calls u x =
    asked_thread setup i u (thread_of (advance setup i s) i) x h.works h.next (laws.moved setup s i a.can) in
    let P : lock.Thread → Type 0 = Plays input i q in
    let turning : Turning input p i q w s (advance setup i s) =
    record {
      inside = h.inside;
      played = h.played;
      leaves = event_leaves laws setup s (Advances i);
      shows = a.shows;
    } in
    let own : Plays input i q (thread_of (advance setup i s) i) =
    subst P (sym there) (asked_plays laws input setup.calls i y u x h.between) in
    let lines = lines_left y.actor in
    let less : weighed (after_step setup.calls u x) q < weight_at u false lines =
    subst (λ (z : Step). weighed (after_step setup.calls u z) q < weight_at u false lines) (sym h.step_is)
    (asked_falls ends setup.calls u y.last y.actor h.works) in
    quiet_made laws input s i p (turned p i q w) true a refl (ap is_outside h.works)
    (plays_on input p i q w s (advance setup i s) turning own)
    (falls_on input p i q w s (advance setup i s) turning
    (subst (λ (b : Bool). weighed (thread_of (advance setup i s) i) q < weight_at u b lines) (sym h.free)
    (subst (λ (v : lock.Thread). weighed v q < weight_at u false lines) (sym there) less)))

asked_no : EventLaws → (input : Inputs) (p : Played) (i : ℕ) (s : State) (x : Step) (w : Whole) → Asking input p i s x
    → Quietly false i w (conditions_of input) s
    → Made progress.Stays i p (turned p i (stepped (player_at p i) true) w) input s
asked_no laws input p i s x w h a =
    let setup = setup_of input in
    let u = thread_of s i in
    let y = player_at p i in
    let q = stepped y true in
    let none : moves setup i u ≡ None = none_by (moves setup i u) a.can in
    let P : lock.Phase → Type 0 = λ z. PlaysIn z input i q u in
    let Q : State → Type 0 = Shows (conditions_of input) w in
    stays_made laws input p s i q w h.inside h.played none (quiet_diverges setup s i (ap is_outside h.works))
    (subst Q (laws.not_allowed setup (Advances i) s a.can) a.shows)
    (subst P (sym h.works) none)
    (subst (λ (b : Bool). weighed u q ≤ weight_at u b (lines_left y.actor)) (sym h.free)
    (stuck_weighs u (lines_left q.actor) (lines_left y.actor) h.works))
  where
    none_by : {A : Type 0} (o : Option A) → is_some o ≡ false → o ≡ None
    none_by None h = refl
    none_by (Some x) h = absurd (true≢false h)

pub asks_made : EventLaws → RunsEnd → (p : Played) (i : ℕ) (w : Whole) (x : Step) (moved : Bool) → i < length p.players
    → (thread_at p.whole i).phase ≡ phase.Working → (player_at p i).stuck ≡ false
    → x ≡ (next_of (player_at p i).last (player_at p i).actor).0 → AsksFor moved i x p.whole w
    → Makes (went moved) i p (turned p i (stepped (player_at p i) (not moved)) w)
asks_made laws ends p i w x moved inside is free step_is h input s at =
    let terms = conditions_of input in
    let u = thread_of s i in
    let works = working_at input p s i at.1.shows is in
    let between : IsBetween input i (player_at p i) u = pausing input i (player_at p i) u false works free
    (at.1.plays i) in
    let next : terms.supply.next i u.asked u.replies ≡ Some x = ap (λ (r : Reached). Some (next_at r)) between.reached
    ∙ ap (λ (z : Step). Some z) (sym step_is) in
    by_test moved (record {
      inside = inside;
      played = at.1;
      works = works;
      free = free;
      step_is = step_is;
      next = next;
      between = between;
    }) (h terms s (at.0, at.1.shows) next)
  where
    by_test : (b : Bool) → Asking input p i s x → Quietly b i w (conditions_of input) s
        → Made (went b) i p (turned p i (stepped (player_at p i) (not b)) w) input s
    by_test true a q = asked_yes laws ends input p i s x w a q
    by_test false a q = asked_no laws input p i s x w a q

-- ## An outcome comes

outside_at : (input : Inputs) (p : Played) (s : State) (i : ℕ) (o : Outing) → Shows (conditions_of input) p.whole s
    → (thread_at p.whole i).phase ≡ phase.Outside o → (job : Job) × ((thread_of s i).phase ≡ Outside job)
outside_at input p s i o h is =
    let P : Phase → Type 0 = λ x. PhaseShows (conditions_of input) i s.rows (thread_at p.whole i) (thread_of s i) x in
    let (job, shown) = (subst P is (h.threads i).phase) in (job, shown.0)

-- the outcome that is next for thread i
abbrev pub next_given : Played → ℕ → Option Given
next_given p i = slice_get (slice_index_or p.outcomes i []) (thread_at p.whole i).came

given_next : (input : Inputs) (p : Played) (s : State) (i : ℕ) → IsPlayed input p s
    → slice_get (outcomes_of input i) (length (thread_of s i).came) ≡ next_given p i
given_next input p s i h = ap₂ (λ (os : List (List Given)) (n : ℕ). slice_get (slice_index_or os i []) n) h.outcomes
    (h.shows.threads i).came

-- none is there
pub awaits_made : EventLaws → (p : Played) (i : ℕ) (o : Outing) → i < length p.players
    → (thread_at p.whole i).phase ≡ phase.Outside o → next_given p i ≡ None → Makes progress.Stays i p p
awaits_made laws p i o inside is none input s at =
    let setup = setup_of input in
    let u = thread_of s i in
    let (job, out) = (outside_at input p s i o at.1.shows is) in
    let given : slice_get (outcomes_of input i) (length u.came) ≡ None = given_next input p s i at.1 ∙ none in
    still_made laws input p s i inside at.1
    (moves_none setup i u (Outside job) out (ap (record_outcome setup.calls u job) given))
    (ap₂ (diverging_in setup) out given)

-- a run that is played is so with any log
with_log : (input : Inputs) (p : Played) (s : State) (l : Written) → IsPlayed input p s
    → IsPlayed input (record p { log = l }) s
with_log input p s l h = record { shows = h.shows; outcomes = h.outcomes; count = h.count; plays = h.plays }

pub records_made : EventLaws → (p : Played) (i : ℕ) (w : Whole) (o : Outing) (g : Given) (made : Progress)
    → i < length p.players → (thread_at p.whole i).phase ≡ phase.Outside o → next_given p i ≡ Some g
    → RecordsGiven made i g p.whole w
    → Makes made i p (record p {
      whole = w;
      log = log_with made (logged_as p.whole.settings.version i (thread_at p.whole i).came (as_it_comes p.whole i g))
          p.log;
    })
records_made laws p i w o g made inside is there h input s at =
    let l = log_with made (logged_as p.whole.settings.version i (thread_at p.whole i).came (as_it_comes p.whole i g))
    p.log in
    subst (λ (y : Played). Made made i p (record y { log = l }) input s) (same_players p i w)
    (record {
      can = a.can;
      diverges = a.diverges;
      plays = with_log input (turned p i x w) (advance setup i s) l
          (plays_on input p i x w s (advance setup i s) turning (own (can_advance setup s i) refl));
      log = log_more;
      falls = falls (has_moved made) refl;
    })
  where
    setup : Setup
    setup = setup_of input

    x : Player
    x = player_at p i

    u : lock.Thread
    u = thread_of s i

    a : Advanced made i (as_it_comes p.whole i g) w (conditions_of input) s
    a = h (conditions_of input) s (at.0, at.1.shows) (given_next input p s i at.1 ∙ there)

    log_more : LogsMore (came_between input.settings.version i s (advance setup i s)) p.log
        (log_with made (logged_as p.whole.settings.version i (thread_at p.whole i).came (as_it_comes p.whole i g))
        p.log)
    log_more =
        let L : Settings → Type 0 = λ y. LogsMore (came_between input.settings.version i s (advance setup i s)) p.log
        (log_with made (logged_as y.version i (thread_at p.whole i).came (as_it_comes p.whole i g)) p.log) in
        subst L at.1.shows.settings (logs_with input.settings.version i s (advance setup i s) made
        (as_it_comes p.whole i g) (thread_at p.whole i).came p.log a.came (at.1.shows.threads i).came)

    out : (job : Job) × (u.phase ≡ Outside job)
    out = outside_at input p s i o at.1.shows is

    calls : IsIn u.phase ≡ true
    calls = ap IsIn out.1

    call : IsInCall input i x u
    call = in_call input i x u calls (at.1.plays i)

    turning : Turning input p i x w s (advance setup i s)
    turning = record {
      inside = inside;
      played = at.1;
      leaves = event_leaves laws setup s (Advances i);
      shows = a.shows;
    }

    own : (b : Bool) → can_advance setup s i ≡ b → Plays input i x (thread_of (advance setup i s) i)
    own true can = within_plays input i x u (thread_of (advance setup i s) i) call
        (call_stays setup i u (thread_of (advance setup i s) i) calls (ap gives out.1) (laws.moved setup s i can))
    own false off = let P : State → Type 0 = λ z. Plays input i x (thread_of z i) in
        subst P (sym (laws.not_allowed setup (Advances i) s off)) (at.1.plays i)

    falls : (b : Bool) → has_moved made ≡ b → Falls b p.whole.threads p.players w.threads (set p.players i x)
    falls true e = falls_on input p i x w s (advance setup i s) turning
        (call_weighs laws input s i x calls call.free (a.can ∙ e))
    falls false e = stays_on input p i x w s (advance setup i s) turning (same_weighs laws input s i x (a.can ∙ e))

-- ## Attempts

pub attempts_made : EventLaws → (p : Played) (i : ℕ) (w : Whole) (made : Bool) → i < length p.players
    → shows.Attempts made i p.whole w → Attempted made i p (record p { whole = w })
attempts_made laws p i w made inside h input s at =
    subst (λ (y : Played). playing.Tried made i p y input s) (same_players p i w)
    (record {
      can = a.0;
      plays = plays_on input p i x w s (attempt setup i s) turning
          (own (can_attempt setup s i) refl);
      log = refl;
      falls = falls made refl;
    })
  where
    setup : Setup
    setup = setup_of input

    x : Player
    x = player_at p i

    u : lock.Thread
    u = thread_of s i

    v : lock.Thread
    v = thread_of (attempt setup i s) i

    a : (can_attempt setup s i ≡ made) × Shows (conditions_of input) w (attempt setup i s)
    a = h (conditions_of input) s (at.0, at.1.shows)

    turning : Turning input p i x w s (attempt setup i s)
    turning = record { inside = inside; played = at.1; leaves = event_leaves laws setup s (Attempts i); shows = a.1 }

    in_attempt : can_attempt setup s i ≡ true → IsInCall input i x u
    in_attempt can = in_call input i x u (laws.tried setup s i can).before (at.1.plays i)

    own : (b : Bool) → can_attempt setup s i ≡ b → Plays input i x v
    own true can = let g = laws.tried setup s i can in
        within_plays input i x u v (in_attempt can) (record { asked = g.asked; replies = g.replies; inside = g.after })
    own false off = let P : State → Type 0 = λ z. Plays input i x (thread_of z i) in
        subst P (sym (laws.not_allowed setup (Attempts i) s off)) (at.1.plays i)

    falls : (b : Bool) → made ≡ b → Falls b p.whole.threads p.players w.threads (set p.players i x)
    falls true e =
        let can = a.0 ∙ e in
        let call = in_attempt can in
        let lines = lines_left x.actor in
        falls_on input p i x w s (attempt setup i s) turning
        (subst (λ (b : Bool). weight_at v b lines < weight_at u b lines) (sym call.free)
        (attempt_falls laws (conditions_of input) i s lines can))
    falls false e =
        stays_on input p i x w s (attempt setup i s) turning
        (subst (λ (z : State). weighed (thread_of z i) x ≤ weighed u x)
        (sym (laws.not_allowed setup (Attempts i) s (a.0 ∙ e))) (same_le (weighed u x)))

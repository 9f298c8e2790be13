-- A reply that a machine gives has no more bytes than ends its call, or than came for it.
use Rattle.std.proofs.Common.{◌≡◌, ℕ, zero, suc, ◌+◌, ◌<◌, ◌≤◌, List, [], ◌∷◌, ◌++◌, length}
use Rattle.std.proofs.Common.{Option, Some, None, Bool}
use Rattle.std.proofs.Common.{true, false, slice_get, sym, ap, ◌∙◌, subst, arith}
use Rattle.std.proofs.lemmas.List.{append_cancel_left, get_or-set_same, length-append}
use Rattle.std.proofs.lemmas.Option.{none-some, same_Some, slice_get-map}
use Rattle.std.specs.Prelude.{Result, Ok, Err, if◌then◌else◌, option_map, pos}
use Rattle.posix_terms.specs.Calls.{Call}
use Rattle.posix_terms.specs.Queries.{Query}
use Rattle.posix_terms.specs.declared.call.Call.TheVariants as call
use Rattle.posix_terms.specs.declared.errno.Errno.{Errno}
use Rattle.posix_terms.specs.declared.outcome.Outcome.{Outcome}
use Rattle.posix_terms.specs.declared.outcome.Outcome.TheVariants as outcome
use Rattle.posix_terms.specs.declared.reply.Answer.TheVariants as answer
use Rattle.posix_terms.specs.declared.reply.Reply.{Reply}
use Rattle.posix_terms.specs.declared.reply.Reply.TheVariants as reply
use Rattle.posix_terms.specs.declared.transcript.HistoryRow.{HistoryRow}
use Rattle.posix_terms.specs.declared.transcript.Settings.{Settings}
use Rattle.sequential_object.specs.Acts as ending
use Rattle.sequential_object.specs.Acts.{Ending}
use Rattle.sequential_object.specs.Answers.{answer_in, outcome_in}
use Rattle.sequential_object.specs.Effects.{Asking}
use Rattle.sequential_object.specs.Changes.{changed, door_opened}
use Rattle.sequential_object.specs.Decided.{decided}
use Rattle.sequential_object.specs.Meant.{ended, meant, reply_outside, request_asked, request_kind, seen}
use Rattle.sequential_object.specs.Object as object
use Rattle.sequential_object.specs.Step.{Carried, Moved, concluded, failed, gave_up, held_up, nothing_moved, outside}
use Rattle.sequential_object.specs.Step.{query_of, step, waited}
use Rattle.sequential_object.specs.declared.decision.Change.TheVariants as change
use Rattle.sequential_object.specs.declared.decision.Decision.{Decision}
use Rattle.sequential_object.specs.declared.decision.Decision.TheVariants as decision
use Rattle.sequential_object.specs.declared.decision.Deed.TheVariants as deed
use Rattle.sequential_object.specs.declared.turn_end.TurnEnd.{TurnEnd}
use Rattle.sequential_object.specs.declared.turn_end.TurnEnd.TheVariants as end
use Rattle.lock_model.specs.Held.{row_of}
use Rattle.lock_model.specs.Machine as machine
use Rattle.lock_model.specs.Machine.{Setup, advance, answered, move, moves, moves_in}
use Rattle.lock_model.specs.Rows.{shown}
use Rattle.lock_model.specs.State as lock
use Rattle.lock_model.specs.State.{Job, State, nobody, thread_of}
use Rattle.lock_model.specs.State.Phase.{Granted, Recorded}
use Rattle.lock_machine.specs.Shows.{PhaseShows}
use Rattle.lock_machine.specs.Whole.{Whole, thread_at}
use Rattle.lock_machine.specs.declared.thread.Outing.{Outing}
use Rattle.lock_machine.specs.declared.thread.Phase.{Phase}
use Rattle.lock_machine.specs.declared.thread.Phase.TheVariants as phase
use Rattle.machine.specs.Events.{Tells}
use Rattle.machine.specs.Runs.{IsEnd, setup_with, terms_with}
use Rattle.machine.specs.Runs.Coming.{Nothing}
use Rattle.lock_model.specs.Runs.{own}
use Rattle.c_words.specs.Words.{bytes_in}
use Rattle.detio_c.specs.Reads.{bytes_at_end, bytes_came}

none_fits : (n : ℕ) → 0 ≤ n
none_fits n = omega arith

same_fits : (n : ℕ) → n ≤ n
same_fits n = omega arith

-- ## By the definition of the calls

-- what ends a turn has no more bytes than this
abbrev Within : ℕ → TurnEnd → Type 0
Within n e = bytes_at_end e ≤ n

outside_fits : (c : Call) (value : ℕ) (bytes : List ℕ) → length (bytes_in (reply_outside c value bytes)) ≤ length bytes
outside_fits (call.Open path access flags) value bytes = none_fits (length bytes)
outside_fits (call.Close descriptor) value bytes = none_fits (length bytes)
outside_fits (call.Read descriptor count) value bytes = same_fits (length bytes)
outside_fits (call.Write descriptor sent) value bytes = none_fits (length bytes)
outside_fits (call.Pread descriptor count position) value bytes = none_fits (length bytes)
outside_fits (call.Pwrite descriptor sent position) value bytes = none_fits (length bytes)
outside_fits (call.Lseek descriptor offset whence) value bytes = none_fits (length bytes)
outside_fits (call.Ftruncate descriptor size) value bytes = none_fits (length bytes)
outside_fits (call.Fstat descriptor) value bytes = none_fits (length bytes)
outside_fits (call.Dup descriptor) value bytes = none_fits (length bytes)
outside_fits (call.DupFrom descriptor least) value bytes = none_fits (length bytes)
outside_fits (call.Dup2 descriptor target) value bytes = none_fits (length bytes)
outside_fits (call.Getfl descriptor) value bytes = none_fits (length bytes)
outside_fits (call.Setfl descriptor append nonblock) value bytes = none_fits (length bytes)
outside_fits (call.Link old_path new_path) value bytes = none_fits (length bytes)
outside_fits (call.Unlink path) value bytes = none_fits (length bytes)
outside_fits (call.Rename old_path new_path) value bytes = none_fits (length bytes)
outside_fits (call.Mkdir path) value bytes = none_fits (length bytes)
outside_fits (call.Rmdir path) value bytes = none_fits (length bytes)
outside_fits call.Pipe value bytes = none_fits (length bytes)
outside_fits call.Socketpair value bytes = none_fits (length bytes)
outside_fits (call.Shutdown descriptor how) value bytes = none_fits (length bytes)
outside_fits (call.HostOpen path access flags) value bytes = none_fits (length bytes)
outside_fits (call.TcpListen port) value bytes = none_fits (length bytes)
outside_fits (call.TcpConnect port) value bytes = none_fits (length bytes)
outside_fits (call.TcpAccept descriptor) value bytes = none_fits (length bytes)

gave_up_fits : (n : ℕ) → length (bytes_in (gave_up n)) ≤ 0
gave_up_fits zero = none_fits 0
gave_up_fits (suc n) = none_fits 0

held_fits : (b : Bool) (after : object.State) (moved : Moved) (carried : Carried)
    → Within 0 (answer_in (held_up b after moved carried))
held_fits true after moved carried = none_fits 0
held_fits false after moved carried = gave_up_fits moved.bytes

failed_fits : (b : Bool) (settings : Settings) (s after : object.State) (e : Errno) (carried : Carried)
    → Within 0 (answer_in (if b then waited settings s nothing_moved carried else failed after e))
failed_fits true settings s after e carried = held_fits _ s nothing_moved carried
failed_fits false settings s after e carried = none_fits 0

asked_fits : (settings : Settings) (s : object.State) (a : Asking) (o : Option Outcome) (carried : Carried)
    → ((value : ℕ) (bytes : List ℕ) → length (bytes_in (a.succeeds value bytes).1) ≤ length bytes)
    → Within (bytes_came o) (answer_in (outside settings s a o carried))
asked_fits settings s a (Some (outcome.Ok value bytes)) carried h = h value bytes
asked_fits settings s a (Some (outcome.Fail e)) carried h = failed_fits _ settings s a.otherwise e carried
asked_fits settings s a None carried h = none_fits 0

-- an act asks nothing outside
acted_inside : (c : Call) (after : object.State) (e : Ending) (q : Query) → query_of c (ended after e) ≡ Some q → ⊥
acted_inside c after (ending.Replies (reply.Count n)) q is = none-some q is
acted_inside c after (ending.Replies (reply.Data bytes)) q is = none-some q is
acted_inside c after (ending.Replies (reply.Number n)) q is = none-some q is
acted_inside c after (ending.Replies (reply.Pair first second)) q is = none-some q is
acted_inside c after (ending.Replies (reply.Stat kind n links)) q is = none-some q is
acted_inside c after (ending.Replies reply.Done) q is = none-some q is
acted_inside c after (ending.Replies (reply.Fail e)) q is = none-some q is
acted_inside c after (ending.Blocks moved) q is = none-some q is

abbrev asking : object.State → Call → Bool → (ℕ → List ℕ → object.State × Reply) → Asking
asking s c blocks succeeds = record {
  kind = request_kind c;
  asked = request_asked c;
  succeeds = succeeds;
  otherwise = s;
  waits = blocks;
}

-- a call that goes outside is answered with no more bytes than came
meant_fits : (settings : Settings) (s : object.State) (c : Call) (o : Option Outcome) (carried : Carried)
    (d : Result Decision Errno) (q : Query) → query_of c (meant s c d) ≡ Some q
    → Within (bytes_came o) (answer_in (concluded settings s o carried (meant s c d)))
meant_fits settings s c o carried (Err e) q is = absurd (none-some q is)
meant_fits settings s c o carried (Ok (decision.Replies r x)) q is = absurd (none-some q is)
meant_fits settings s c o carried (Ok (decision.Locks at (deed.Acts a x))) q is = absurd (acted_inside c _ _ q is)
meant_fits settings s c o carried (Ok (decision.Locks at (deed.Asks blocks))) q is =
    asked_fits settings s (asking s c blocks (λ value bytes. (s, reply_outside c value bytes))) o carried
    (outside_fits c)
meant_fits settings s c o carried (Ok (decision.Locks at (deed.Closes n key))) q is =
    let after = changed s c (change.Close n key) in
    asked_fits settings s (asking after c false (λ value bytes. (after, reply_outside c value bytes))) o carried
    (outside_fits c)
meant_fits settings s c o carried (Ok (decision.Locks at (deed.Opens blocks listener new))) q is =
    asked_fits settings s
    (asking s c blocks (λ value bytes. (door_opened s c new value, reply.Number (pos new.number)))) o carried
    (λ value bytes. none_fits (length bytes))

-- ## By the events of the lock machine

longer : (rs : List Reply) (r : Reply) → rs ≡ rs ++ r ∷ [] → ⊥
longer rs r is = wrong (length rs) (ap length is ∙ length-append rs (r ∷ []))
  where
    wrong : (n : ℕ) → n ≡ n + 1 → ⊥
    wrong n e = omega arith

last_same : (q r : Reply) → q ∷ [] ≡ r ∷ [] → q ≡ r
last_same q r is = same_Some q r (ap (λ (xs : List Reply). slice_get xs 0) is)

-- what answers a call is the reply that its thread gets
answered_so : (t : lock.Thread) (c : Call) (clock : ℕ) (e : TurnEnd) (r : Reply)
    → (answered t c clock e).replies ≡ t.replies ++ r ∷ [] → e ≡ end.Reply r
answered_so t c clock (end.Reply q) r is = ap end.Reply (last_same q r (append_cancel_left t.replies _ _ is))
answered_so t c clock (end.Blocked b) r is = absurd (longer t.replies r is)

moved_so : (s : State) (i : ℕ) (m : machine.Moved) (b : Bool) (r : Reply) → i < length s.threads
    → (thread_of (move i (if b then Some m else None) s) i).replies ≡ (thread_of s i).replies ++ r ∷ []
    → m.thread.replies ≡ (thread_of s i).replies ++ r ∷ []
moved_so s i m true r inside is =
    sym (ap (λ (t : lock.Thread). t.replies) (get_or-set_same s.threads i m.thread nobody inside)) ∙ is
moved_so s i m false r inside is = absurd (longer (thread_of s i).replies r is)

advanced_so : (setup : Setup) (s : State) (i : ℕ) (job : Job) (r : Reply) → i < length s.threads
    → moves_in setup i (thread_of s i) (thread_of s i).phase ≡ Some (machine.answer setup.calls (thread_of s i) job)
    → (thread_of (advance setup i s) i).replies ≡ (thread_of s i).replies ++ r ∷ []
    → setup.calls.answer job.found job.call job.outcome job.carried ≡ end.Reply r
unfolding advance moves
advanced_so setup s i job r inside is told =
    let t = thread_of s i in
    let P : Option machine.Moved → Type 0 =
    λ o. (thread_of (move i (machine.within setup.limits.clock_limit o) s) i).replies ≡ t.replies ++ r ∷ [] in
    answered_so t job.call _ _ r
    (moved_so s i (machine.answer setup.calls t job) _ r inside (subst P is told))

-- ## Of a machine

pub granted_fits : (w : Whole) (s : State) (i place : ℕ) (number : Option ℕ) (e : TurnEnd) (r : Reply) → IsEnd w s
    → i < length w.threads → (thread_at w i).phase ≡ phase.Granted place number e → Tells (answer.Reply r) i w
    → length (bytes_in r) ≤ bytes_at_end e
granted_fits w s i place number e r ends inside is told =
    let h = ends.1 in
    let P : Phase → Type 0 = λ p. PhaseShows (terms_with w (own s)) i s.rows (thread_at w i) (thread_of s i) p in
    let g = subst P is (h.threads i).phase in
    let setup = setup_with w Nothing s in
    let there : i < length s.threads = subst (λ (n : ℕ). i < n) (sym h.count) inside in
    let so = advanced_so setup s i g.0 r there
    (ap (λ (p : lock.Phase). moves_in setup i (thread_of s i) p) g.1.0) (told s ends) in
    subst (λ (x : TurnEnd). length (bytes_in r) ≤ bytes_at_end x) (sym so ∙ g.1.1.answers) (same_fits _)

pub recorded_fits : (w : Whole) (s : State) (i : ℕ) (o : Outing) (row : HistoryRow) (r : Reply) → IsEnd w s
    → i < length w.threads → (thread_at w i).phase ≡ phase.Recorded o → slice_get w.rows o.row ≡ Some row
    → Tells (answer.Reply r) i w → length (bytes_in r) ≤ bytes_came row.outcome
recorded_fits w s i o row r ends inside is at told =
    let h = ends.1 in
    let P : Phase → Type 0 = λ p. PhaseShows (terms_with w (own s)) i s.rows (thread_at w i) (thread_of s i) p in
    let g = subst P is (h.threads i).phase in
    let job : Job = g.0 in
    let setup = setup_with w Nothing s in
    let there : i < length s.threads = subst (λ (n : ℕ). i < n) (sym h.count) inside in
    let so = advanced_so setup s i job r there
    (ap (λ (p : lock.Phase). moves_in setup i (thread_of s i) p) g.1.0) (told s ends) in
    let found : Some (shown (row_of job)) ≡ Some row =
    sym (ap (option_map shown) g.1.1.row) ∙ sym (slice_get-map shown s.rows o.row)
    ∙ ap (λ (rs : List HistoryRow). slice_get rs o.row) h.rows ∙ at in
    let same : shown (row_of job) ≡ row = same_Some _ _ found in
    let fits : Within (bytes_came (outcome_in job.outcome))
    (answer_in (step (terms_with w (own s)).settings job.found.object job.call (outcome_in job.outcome) job.carried)) =
    meant_fits (terms_with w (own s)).settings job.found.object job.call (outcome_in job.outcome) job.carried
    (decided (seen job.found.object) job.call job.carried.moved) _ g.1.1.asks_is in
    subst (λ (x : HistoryRow). length (bytes_in r) ≤ bytes_came x.outcome) same
    (subst (λ (x : TurnEnd). Within (bytes_came (outcome_in job.outcome)) x) so fits)

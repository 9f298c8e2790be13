-- What contracts see of a lock machine, by its fields.
use Rattle.posix_terms.specs.declared.transcript.Settings.{Settings}
use Rattle.std.proofs.Common.{◌≡◌, ℕ, ◌<◌, List, length, get_or, Option, true, sym, refl, ap, ◌∙◌, subst}
use Rattle.std.proofs.lemmas.List.{get_or_default}
use Rattle.det_mutex.specs.declared.lock.DetLock.{DetLock}
use Rattle.logical_clocks.specs.ThreadClocks.{clock_at, live_clocks}
use Rattle.logical_clocks.specs.TurnOrder.{has_turn}
use Rattle.logical_clocks.specs.declared.clocks.ThreadClock.{ThreadClock}
use Rattle.call_turns.specs.Store.{Stored}
use Rattle.posix_terms.specs.declared.transcript.HistoryRow.{HistoryRow}
use Rattle.lock_machine.specs.Lives.{Agree, is_live}
use Rattle.lock_machine.specs.Threads.{Thread, joined, timed}
use Rattle.lock_machine.specs.Views.{clocks_of, item_at, no_item}
use Rattle.lock_machine.specs.Whole.{Whole, thread_at}
use Rattle.lock_machine.specs.Shows.{GrantedIn}
use Rattle.lock_machine.specs.declared.thread.Phase.{Phase}
use Rattle.lock_machine.specs.declared.thread.Phase.TheVariants as phase
use Rattle.lock_machine.specs.declared.thread.Thread as declared
use Rattle.lock_machine.proofs.Joining.{agree_length, get-joined, length-joined, live-joined}

abbrev pub whole_by : Settings → List declared.Thread → List ThreadClock → DetLock → List DetLock → Stored
    → List HistoryRow → Whole
whole_by settings ts cs lock objects table rows =
    record { settings = settings; threads = joined ts cs; lock = lock; objects = objects; table = table; rows = rows }

pub inside_of : (ts : List declared.Thread) (cs : List ThreadClock) (v w : Whole) (i : ℕ) → v.threads ≡ joined ts cs
    → v ≡ w → i < length w.threads → i < length ts
inside_of ts cs v w i is view inside = subst (λ (n : ℕ). i < n) (ap (λ (x : Whole). length x.threads) (sym view)
    ∙ ap length is ∙ length-joined ts cs) inside

-- what holds of the phase that contracts see does so of the one that the field has
pub item_in : (P : Phase → Type 0) (ts : List declared.Thread) (cs : List ThreadClock) (v w : Whole) (i : ℕ)
    → v.threads ≡ joined ts cs → v ≡ w → i < length ts → P (thread_at w i).phase
    → P (let t : declared.Thread = item_at ts i in t.phase)
item_in P ts cs v w i is view inside h =
    subst P (ap (λ (x : Whole). (thread_at x i).phase) (sym view)
    ∙ ap (λ (l : List Thread). (thread_at (record v { threads = l }) i).phase) is
    ∙ ap (λ (t : Thread). t.phase) (get-joined ts cs i inside)) h

-- the turns that contracts see are those of the clocks
pub turn_of : (ts : List declared.Thread) (cs : List ThreadClock) (v w : Whole) (i : ℕ) → Agree ts cs
    → v.threads ≡ joined ts cs → v ≡ w → has_turn (clocks_of w.threads) i ≡ true → has_turn (live_clocks cs) i ≡ true
turn_of ts cs v w i agree is view turn = ap (λ (l : List (Option ℕ)). has_turn l i) (live-joined ts cs agree
    ∙ ap clocks_of (sym is) ∙ ap (λ (x : Whole). clocks_of x.threads) view) ∙ turn

-- a thread's clock is one of the clocks
pub clock_inside : (ts : List declared.Thread) (cs : List ThreadClock) (i : ℕ) → Agree ts cs → i < length ts
    → i < length cs
clock_inside ts cs i agree inside = subst (λ (n : ℕ). i < n) (sym (agree_length ts cs agree)) inside

-- an item that was looked at is the one in its place
pub item_is : (ts : List declared.Thread) (i : ℕ) (x : declared.Thread) → i < length ts → x ≡ get_or ts i x
    → item_at ts i ≡ x
item_is ts i x inside at = get_or_default ts i no_item x inside ∙ sym at

-- an event leaves as many threads
pub count_kept : (ts us : List declared.Thread) (cs ds : List ThreadClock) (v w : Whole) → v.threads ≡ joined ts cs
    → v ≡ w → length us ≡ length ts → length (joined us ds) ≡ length w.threads
count_kept ts us cs ds v w is view same = length-joined us ds ∙ same ∙ sym (length-joined ts cs) ∙ ap length (sym is)
    ∙ ap (λ (x : Whole). length x.threads) view

-- a thread in this phase is live
pub lives_in : (ts : List declared.Thread) (i : ℕ) (x : declared.Thread) (p : Phase) → i < length ts → x ≡ get_or ts i x
    → (let t : declared.Thread = item_at ts i in t.phase) ≡ p → is_live p ≡ true → is_live x.phase ≡ true
lives_in ts i x p inside at is live = ap (λ (t : declared.Thread). is_live t.phase) (sym (item_is ts i x inside at))
    ∙ ap is_live is ∙ live

pub granted_lives : (p : Phase) (place : ℕ) (object : Option ℕ) → GrantedIn p place object → is_live p ≡ true
granted_lives phase.Working place object h = refl
granted_lives (phase.WantsTable call carried) place object h = refl
granted_lives (phase.WantsObject call carried clock n) place object h = refl
granted_lives (phase.Granted row n e) place object h = refl
granted_lives (phase.ToOutside o) place object h = refl
granted_lives (phase.Outside o) place object h = refl
granted_lives (phase.Recorded o) place object h = refl
granted_lives (phase.Blocked carried) place object h = refl
granted_lives phase.Ended place object h = absurd h

-- an item that was looked at, by what holds of the phase in its place
pub phase_in : (P : Phase → Type 0) (ts : List declared.Thread) (i : ℕ) (x : declared.Thread) → i < length ts
    → x ≡ get_or ts i x → P (let t : declared.Thread = item_at ts i in t.phase) → P x.phase
phase_in P ts i x inside at h = subst (λ (t : declared.Thread). P t.phase) (item_is ts i x inside at) h

-- an item that was looked at is the thread that contracts see
pub thread_seen : (ts : List declared.Thread) (cs : List ThreadClock) (v w : Whole) (i : ℕ) (x : declared.Thread)
    → v.threads ≡ joined ts cs → v ≡ w → i < length ts → x ≡ get_or ts i x → thread_at w i ≡ timed x (clock_at cs i)
thread_seen ts cs v w i x is view inside at =
    ap (λ (t : Whole). thread_at t i) (sym view) ∙ ap (λ (l : List Thread). thread_at (record v { threads = l }) i) is
    ∙ get-joined ts cs i inside ∙ ap (λ (t : declared.Thread). timed t (clock_at cs i)) (item_is ts i x inside at)

pub length_seen : (ts : List declared.Thread) (cs : List ThreadClock) (v w : Whole) → v.threads ≡ joined ts cs → v ≡ w
    → length ts ≡ length w.threads
length_seen ts cs v w is view = sym (length-joined ts cs) ∙ ap length (sym is)
    ∙ ap (λ (x : Whole). length x.threads) view

pub clocks_seen : (ts : List declared.Thread) (cs : List ThreadClock) (v w : Whole) → Agree ts cs
    → v.threads ≡ joined ts cs → v ≡ w → live_clocks cs ≡ clocks_of w.threads
clocks_seen ts cs v w agree is view = live-joined ts cs agree ∙ ap clocks_of (sym is)
    ∙ ap (λ (x : Whole). clocks_of x.threads) view

-- Which threads live, and whether all of them are stuck, thread by thread and turn by turn.
use Rattle.std.proofs.Common.{◌≡◌, ◌∙◌, ap, ℕ, suc, ◌+◌, ◌-◌, ◌<◌, Bool, true, false, not, ◌&&◌, ◌||◌, List, [], ◌∷◌}
use Rattle.std.proofs.Common.{drop, length, slice_index_or, if◌then◌else◌, refl, sym, arith, nat_lt, cond}
use Rattle.std.proofs.Common.{◌==◌}
use Rattle.std.specs.Bool.{Decides}
use Rattle.std.specs.Prelude.{count_by}
use Rattle.std.proofs.lemmas.Bool.Decides.{Decides-eqb}
use Rattle.std.proofs.Math.Seq.{drop-cons}
use Rattle.std.proofs.lemmas.List.Sums.{sum_by-cons}
use Rattle.posix_terms.specs.declared.transcript.HistoryRow.{HistoryRow}
use Rattle.deadlocks.specs.Blocked.{are_still, are_stuck, are_within, blocked_after, blocked_in, has_reply}
use Rattle.deadlocks.specs.Blocked.{has_turn, is_blocked, is_live, is_of, may_move}
use Rattle.deadlocks.specs.Blocked.{replies_at, since_move, since_reply, still_turns, waiting_calls}
use Rattle.deadlocks.specs.Places.{place_after, place_of}
use Rattle.deadlocks.specs.declared.blocked.BlockedCall.{BlockedCall}
use Rattle.deadlocks.specs.declared.places.ThreadPlace.{ThreadPlace}

-- whether the threads from this one on are stuck, where one of those before is live or none, and all
-- that are were blocked
abbrev pub stuck_from : Bool → ℕ → List Bool → List HistoryRow → List HistoryRow → Bool
stuck_from live thread [] past later = live
stuck_from live thread (has_ended ∷ ended) past later =
    if is_live has_ended thread later
    then has_turn thread (still_turns past) && stuck_from true (thread + 1) ended past later
    else stuck_from live (thread + 1) ended past later

all_at : (b : Bool) (thread : ℕ) (ended : List Bool) (past later : List HistoryRow)
    → stuck_from true (thread + 1) ended past later ≡ are_still (waiting_calls (thread + 1) ended past later) past
    → (if b then has_turn thread (still_turns past) && stuck_from true (thread + 1) ended past later
    else stuck_from true (thread + 1) ended past later)
    ≡ are_still (if b then record { thread = thread; row = replies_at thread past }
    ∷ waiting_calls (thread + 1) ended past later else waiting_calls (thread + 1) ended past later) past
all_at true thread ended past later rest = ap (λ all. has_turn thread (still_turns past) && all) rest
all_at false thread ended past later rest = rest

all_from : (thread : ℕ) (ended : List Bool) (past later : List HistoryRow)
    → stuck_from true thread ended past later ≡ are_still (waiting_calls thread ended past later) past
all_from thread [] past later = refl
all_from thread (e ∷ ended) past later =
    all_at (is_live e thread later) thread ended past later (all_from (thread + 1) ended past later)

stuck_at : (b : Bool) (thread : ℕ) (ended : List Bool) (past later : List HistoryRow)
    → stuck_from true (thread + 1) ended past later ≡ are_still (waiting_calls (thread + 1) ended past later) past
    → stuck_from false (thread + 1) ended past later ≡ are_stuck (waiting_calls (thread + 1) ended past later) past
    → (if b then has_turn thread (still_turns past) && stuck_from true (thread + 1) ended past later
    else stuck_from false (thread + 1) ended past later)
    ≡ are_stuck (if b then record { thread = thread; row = replies_at thread past }
    ∷ waiting_calls (thread + 1) ended past later else waiting_calls (thread + 1) ended past later) past
stuck_at true thread ended past later all rest = ap (λ all. has_turn thread (still_turns past) && all) all
stuck_at false thread ended past later all rest = rest

pub all_stuck : (thread : ℕ) (ended : List Bool) (past later : List HistoryRow)
    → stuck_from false thread ended past later ≡ are_stuck (waiting_calls thread ended past later) past
all_stuck thread [] past later = refl
all_stuck thread (e ∷ ended) past later = stuck_at (is_live e thread later) thread ended past later
    (all_from (thread + 1) ended past later) (all_stuck (thread + 1) ended past later)

turn_at : (b : Bool) (n : ℕ) (rest : Bool) → nat_lt 0 n ≡ rest → nat_lt 0 (cond b 1 0 + n) ≡ (b || rest)
turn_at true n rest is = grind arith
turn_at false n rest is = rw (← is) (grind arith)

-- a thread has a turn exactly when it has one at least
pub some_turn : (thread : ℕ) (rows : List HistoryRow)
    → nat_lt 0 (count_by (is_of thread) rows) ≡ has_turn thread rows
some_turn thread [] = refl
some_turn thread (row ∷ rows) =
    ap (nat_lt 0) (sum_by-cons (λ one. cond (is_of thread one) 1 0) row rows)
    ∙ turn_at (is_of thread row) (count_by (is_of thread) rows) (has_turn thread rows) (some_turn thread rows)

-- ## A thread by its place

-- it is live exactly when its place says so
live_is : (has_ended : Bool) (thread : ℕ) (past later : List HistoryRow) (place : ThreadPlace)
    → place ≡ place_of past later thread
    → (not has_ended || nat_lt 0 place.left) ≡ is_live has_ended thread later
live_is has_ended thread past later place is = rw is (ap (λ some. not has_ended || some) (some_turn thread later))

one_further : (ended : List Bool) (thread : ℕ) (d : Bool) → thread < length ended
    → drop thread ended ≡ slice_index_or ended thread d ∷ drop (thread + 1) ended
one_further ended thread d inside =
    let next : suc thread ≡ thread + 1 = omega arith in
    drop-cons ended thread d inside ∙ ap (λ n. slice_index_or ended thread d ∷ drop n ended) next

-- whether the threads are stuck, after one that is live, and after one that is not
pub found_live : (live : Bool) (thread : ℕ) (ended : List Bool) (past later : List HistoryRow) (d : Bool)
    (place : ThreadPlace) → place ≡ place_of past later thread → thread < length ended
    → (not (slice_index_or ended thread d) || nat_lt 0 place.left) ≡ true
    → stuck_from live thread (drop thread ended) past later
    ≡ (place.still && stuck_from true (thread + 1) (drop (thread + 1) ended) past later)
found_live live thread ended past later d place at inside is =
    let lives = sym (live_is (slice_index_or ended thread d) thread past later place at) ∙ is in
    let here = one_further ended thread d inside in
    rw (here, lives, at) refl

pub found_dead : (live : Bool) (thread : ℕ) (ended : List Bool) (past later : List HistoryRow) (d : Bool)
    (place : ThreadPlace) → place ≡ place_of past later thread → thread < length ended
    → (not (slice_index_or ended thread d) || nat_lt 0 place.left) ≡ false
    → stuck_from live thread (drop thread ended) past later
    ≡ stuck_from live (thread + 1) (drop (thread + 1) ended) past later
found_dead live thread ended past later d place at inside is =
    let dies = sym (live_is (slice_index_or ended thread d) thread past later place at) ∙ is in
    let here = one_further ended thread d inside in
    rw (here, dies) refl

-- its call, if it is live
pub call_of : (thread : ℕ) (ended : List Bool) (past later : List HistoryRow) (d : Bool)
    (place : ThreadPlace) → place ≡ place_of past later thread → thread < length ended
    → (not (slice_index_or ended thread d) || nat_lt 0 place.left) ≡ true
    → waiting_calls thread (drop thread ended) past later
    ≡ record { thread = thread; row = place.replies } ∷ waiting_calls (thread + 1) (drop (thread + 1) ended) past later
call_of thread ended past later d place at inside is =
    let lives = sym (live_is (slice_index_or ended thread d) thread past later place at) ∙ is in
    let here = one_further ended thread d inside in
    rw (here, lives, at) refl

pub no_call : (thread : ℕ) (ended : List Bool) (past later : List HistoryRow) (d : Bool)
    (place : ThreadPlace) → place ≡ place_of past later thread → thread < length ended
    → (not (slice_index_or ended thread d) || nat_lt 0 place.left) ≡ false
    → waiting_calls thread (drop thread ended) past later
    ≡ waiting_calls (thread + 1) (drop (thread + 1) ended) past later
no_call thread ended past later d place at inside is =
    let dies = sym (live_is (slice_index_or ended thread d) thread past later place at) ∙ is in
    let here = one_further ended thread d inside in
    rw (here, dies) refl

-- ## One more turn

left_more : (b : Bool) (n : ℕ) → (if b then (cond b 1 0 + n) - 1 else cond b 1 0 + n) ≡ n
left_more true n = grind arith
left_more false n = grind arith

replies_more : (b : Bool) (n : ℕ) → (if b then n + 1 else n) ≡ cond b 1 0 + n
replies_more true n = grind arith
replies_more false n = grind arith

blocked_more : (b : Bool) (thread : ℕ) (row : HistoryRow) (past : List HistoryRow)
    → (b && (is_of thread row || has_turn thread (since_reply past)))
    ≡ has_turn thread (if b then row ∷ since_reply past else [])
blocked_more true thread row past = refl
blocked_more false thread row past = refl

moved_more : (b : Bool) (thread : ℕ) (row : HistoryRow) (earlier : List HistoryRow)
    → (not b && (is_of thread row || has_turn thread (since_move earlier)))
    ≡ has_turn thread (if b then [] else row ∷ since_move earlier)
moved_more true thread row earlier = refl
moved_more false thread row earlier = refl

still_more : (b : Bool) (thread : ℕ) (row : HistoryRow) (earlier : List HistoryRow)
    → (b && not (may_move row earlier) && (is_of thread row || has_turn thread (since_move earlier)))
    ≡ has_turn thread (since_move (if b then row ∷ earlier else []))
still_more true thread row earlier = moved_more (may_move row earlier) thread row earlier
still_more false thread row earlier = refl

place_is : (a b : ThreadPlace) → a.left ≡ b.left → a.since_reply ≡ b.since_reply → a.still ≡ b.still
    → a.replies ≡ b.replies → a ≡ b
place_is a b left since_reply still replies = λ i. record {
  left = left i;
  since_reply = since_reply i;
  still = still i;
  replies = replies i;
}

-- the place of a thread after the next turn
pub place_more : (thread : ℕ) (row : HistoryRow) (past later : List HistoryRow)
    → place_after (place_of past (row ∷ later) thread) (is_of thread row) row (may_move row (since_reply past))
    ≡ place_of (row ∷ past) later thread
place_more thread row past later = place_is
    (place_after (place_of past (row ∷ later) thread) (is_of thread row) row (may_move row (since_reply past)))
    (place_of (row ∷ past) later thread)
    (rw (sum_by-cons (λ one. cond (is_of thread one) 1 0) row later)
    (left_more (is_of thread row) (count_by (is_of thread) later)))
    (blocked_more (is_blocked row) thread row past)
    (still_more (is_blocked row) thread row (since_reply past))
    (replies_more (is_of thread row && has_reply row) (replies_at thread past)
    ∙ sym (sum_by-cons (λ one. cond (is_of thread one && has_reply one) 1 0) row past))

-- ## A moment after the next turn

pub next_row : (i : ℕ) (row : HistoryRow) (history : List HistoryRow) → i < length history
    → row ≡ slice_index_or history i row → drop i history ≡ row ∷ drop (i + 1) history
next_row i row history inside is =
    let next : suc i ≡ i + 1 = omega arith in
    drop-cons history i row inside
    ∙ ap (λ n. slice_index_or history i row ∷ drop n history) next
    ∙ ap (λ one. one ∷ drop (i + 1) history) (sym is)

both_true : (a b : Bool) → (a && b) ≡ true → (a ≡ true) × (b ≡ true)
both_true true b is = (refl, is)
both_true false b is = absurd (cc is)

-- all turns that are left are of threads that are there
pub within_next : (threads i : ℕ) (row : HistoryRow) (history : List HistoryRow) → i < length history
    → row ≡ slice_index_or history i row → are_within threads (drop i history) ≡ true
    → (row.turn.thread < threads) × (are_within threads (drop (i + 1) history) ≡ true)
within_next threads i row history inside is within =
    let both = rw (next_row i row history inside is) at within in
    let apart = both_true (nat_lt row.turn.thread threads) (are_within threads (drop (i + 1) history)) both in
    (grind (arith, apart.0), apart.1)

pub in_within : (ended : List Bool) (history : List HistoryRow) → are_within (length ended) history ≡ true
    → blocked_after ended [] history ≡ blocked_in ended history
in_within ended history is = rw is refl

-- the calls are blocked for good there, or not, and then maybe later
pub stuck_next : (ended : List Bool) (row : HistoryRow) (past later : List HistoryRow)
    → are_stuck (waiting_calls 0 ended (row ∷ past) later) (row ∷ past) ≡ true
    → waiting_calls 0 ended (row ∷ past) later ≡ blocked_after ended past (row ∷ later)
stuck_next ended row past later is = rw is refl

pub free_next : (ended : List Bool) (row : HistoryRow) (past later : List HistoryRow)
    → are_stuck (waiting_calls 0 ended (row ∷ past) later) (row ∷ past) ≡ false
    → blocked_after ended (row ∷ past) later ≡ blocked_after ended past (row ∷ later)
free_next ended row past later is = rw is refl

-- ## Calls that are the same

call_is : (a b : BlockedCall) → a.thread ≡ b.thread → a.row ≡ b.row → a ≡ b
call_is a b thread row = λ i. record { thread = thread i; row = row i }

both_hold : (a b : Bool) → a ≡ true → b ≡ true → (a && b) ≡ true
both_hold a b one other = rw one other

-- they are exactly where their threads and rows are
pub call_decides : (a b : BlockedCall) → Decides (a.thread == b.thread && a.row == b.row) (a ≡ b)
call_decides a b = (
  λ is. let both = both_true (a.thread == b.thread) (a.row == b.row) is in
      call_is a b ((Decides-eqb a.thread b.thread).0 both.0) ((Decides-eqb a.row b.row).0 both.1),
  λ same. both_hold (a.thread == b.thread) (a.row == b.row)
      ((Decides-eqb a.thread b.thread).1 (ap (λ (call : BlockedCall). call.thread) same))
      ((Decides-eqb a.row b.row).1 (ap (λ (call : BlockedCall). call.row) same)),
)

-- Calls that are blocked for good are so still after each further turn, and then only patience answers them.
use Rattle.std.proofs.Common.{◌≡◌, ◌⊎◌, inl, inr, ◌∙◌, ap, sym, refl, arith, ◌+◌, ◌<◌, ℕ, zero, suc, ℤ}
use Rattle.std.proofs.Common.{List, [], ◌∷◌, length, slice_index_or, Bool, true, false, not, ◌&&◌, ◌||◌}
use Rattle.std.proofs.Common.{Result, Ok, Err, Option, Some, None, is_some, if◌then◌else◌, subst, nat_lt}
use Rattle.std.proofs.lemmas.Bool.{true≢false, false≢true}
use Rattle.std.specs.Prelude.{reverse}
use mathlib.Core.List.{reverse_aux}
use Rattle.posix_terms.specs.Answers.{reply_of}
use Rattle.posix_terms.specs.Calls.{Call, kind_of}
use Rattle.posix_terms.specs.declared.call.Call.TheVariants as call
use Rattle.posix_terms.specs.declared.carried.Moved.{Moved}
use Rattle.posix_terms.specs.declared.errno.Errno.{Errno}
use Rattle.posix_terms.specs.declared.outcome.Outcome.{Outcome}
use Rattle.posix_terms.specs.declared.reply.Answer.{Answer}
use Rattle.posix_terms.specs.declared.reply.Answer.TheVariants as answer
use Rattle.posix_terms.specs.declared.transcript.HistoryRow.{HistoryRow}
use Rattle.posix_terms.specs.declared.transcript.Settings.{Settings}
use Rattle.sequential_object.specs.Decided.{decided}
use Rattle.sequential_object.specs.Effects.{Asks, Blocks, Completes, Effect}
use Rattle.sequential_object.specs.Ends.{StartsMatched, StepsKeepMatched}
use Rattle.sequential_object.specs.Legal.{IsLegalFrom, IsRight, carried_after}
use Rattle.sequential_object.specs.Meant.{meant, seen}
use Rattle.sequential_object.specs.Object.{State, empty_state}
use Rattle.sequential_object.specs.Step.{Carried, Stepped, asks, concluded, effect_of, held_up, nothing_carried}
use Rattle.sequential_object.specs.Step.{query_of}
use Rattle.sequential_object.specs.Step.{step}
use Rattle.sequential_object.specs.Transfers.{write_decided}
use Rattle.sequential_object.specs.Unused.{HoldsNothingUnused, StartsTidy, StepsKeepTidy}
use Rattle.sequential_object.specs.View.{View}
use Rattle.sequential_object.specs.Waiting.{AgainMovesInParts, EndsMatch, WaitsInParts}
use Rattle.deadlocks.specs.Blocked.{are_still, are_stuck, has_turn, is_blocked, is_of, may_move}
use Rattle.deadlocks.specs.Blocked.{since_move, since_reply, still_turns, writes}
use Rattle.deadlocks.specs.declared.blocked.BlockedCall.{BlockedCall}
use Rattle.deadlocks.specs.Laws.{IsStuck, Leads, MakesAgain, Moment, after_turn}
use Rattle.deadlocks.specs.Laws.{blocked_call, is_held, start, turn_at}
use Rattle.deadlocks.proofs.Blocking.{blocked_write, of_write}
use Rattle.deadlocks.proofs.Writes.{Grows, IsFull, full_blocks, grown_full}

-- ## Rows

both_true : (a b : Bool) → (a && b) ≡ true → (a ≡ true) × (b ≡ true)
both_true true b is = (refl, is)
both_true false b is = absurd (false≢true is)

-- a row at which a call was blocked in memory
row_blocked : (row : HistoryRow) → is_blocked row ≡ true
    → (row.answer ≡ Some answer.Again) × (is_some row.outcome ≡ false) × (is_held row ≡ true)
row_blocked row is = by_answer row.answer refl (row.outcome) refl is
  where
    by_answer : (a : Option Answer) → row.answer ≡ a → (o : Option Outcome) → row.outcome ≡ o
        → (is_some a && not (is_some (reply_of a)) && not (is_some o)) ≡ true
        → (row.answer ≡ Some answer.Again) × (is_some row.outcome ≡ false) × (is_held row ≡ true)
    by_answer None given o came is = absurd (grind (arith, is))
    by_answer (Some (answer.Reply r)) given o came is = absurd (grind (arith, is))
    by_answer (Some answer.Again) given (Some outcome) came is = absurd (grind (arith, is))
    by_answer (Some answer.Again) given None came is =
        (given, ap (λ (o : Option Outcome). is_some o) came, rw given refl)

-- a thread that had one of the turns since a call last went on is blocked with its call
window_call : (thread : ℕ) (past : List HistoryRow) → has_turn thread (since_reply past) ≡ true
    → (c : Call) × (blocked_call thread past ≡ Some c)
window_call thread [] has = absurd (false≢true has)
window_call thread (row ∷ earlier) has = by_blocked (is_blocked row) refl has (window_call thread earlier)
  where
    by_own : (b : Bool) → is_held row ≡ true → (b || has_turn thread (since_reply earlier)) ≡ true
        → (has_turn thread (since_reply earlier) ≡ true → (c : Call) × (blocked_call thread earlier ≡ Some c))
        → (c : Call)
        × ((if b then (if is_held row then Some row.call else None) else blocked_call thread earlier) ≡ Some c)
    by_own true held has rest = (row.call, rw held refl)
    by_own false held has rest = rest has

    by_blocked : (b : Bool) → is_blocked row ≡ b
        → has_turn thread (if b then row ∷ since_reply earlier else []) ≡ true
        → (has_turn thread (since_reply earlier) ≡ true → (c : Call) × (blocked_call thread earlier ≡ Some c))
        → (c : Call) × (blocked_call thread (row ∷ earlier) ≡ Some c)
    by_blocked true is has rest = by_own (is_of thread row) (row_blocked row is).2 has rest
    by_blocked false is has rest = absurd (false≢true has)

-- the turns at which nothing changed are among those since a call last went on
still_in_window : (thread : ℕ) (rows : List HistoryRow) → has_turn thread (since_move rows) ≡ true
    → has_turn thread rows ≡ true
still_in_window thread [] has = has
still_in_window thread (row ∷ earlier) has = by_move (may_move row earlier) has (still_in_window thread earlier)
  where
    by_own : (b : Bool) → (b || has_turn thread (since_move earlier)) ≡ true
        → (has_turn thread (since_move earlier) ≡ true → has_turn thread earlier ≡ true)
        → (b || has_turn thread earlier) ≡ true
    by_own true has rest = refl
    by_own false has rest = rest has

    by_move : (b : Bool) → has_turn thread (if b then [] else row ∷ since_move earlier) ≡ true
        → (has_turn thread (since_move earlier) ≡ true → has_turn thread earlier ≡ true)
        → has_turn thread (row ∷ earlier) ≡ true
    by_move true has rest = absurd (false≢true has)
    by_move false has rest = by_own (is_of thread row) has rest

-- calls that are stuck are still, each of them
stuck_still : (calls : List BlockedCall) (past : List HistoryRow) → are_stuck calls past ≡ true
    → are_still calls past ≡ true
stuck_still [] past is = refl
stuck_still (c ∷ calls) past is = is

each_still : (calls : List BlockedCall) (past : List HistoryRow) → are_still calls past ≡ true
    → (k : ℕ) (d : BlockedCall) → k < length calls
    → let call = slice_index_or calls k d in has_turn call.thread (still_turns past) ≡ true
each_still [] past is k d inside = absurd (grind (arith, inside))
each_still (c ∷ calls) past is zero d inside =
    (both_true (has_turn c.thread (still_turns past)) (are_still calls past) is).0
each_still (c ∷ calls) past is (suc k) d inside =
    each_still calls past (both_true (has_turn c.thread (still_turns past)) (are_still calls past) is).1 k d
    (grind (arith, inside))

-- they stay so at a turn at which nothing can change
module _ (past : List HistoryRow) (row : HistoryRow) (own : has_turn row.turn.thread (still_turns past) ≡ true)
    (is : is_blocked row ≡ true) where
  stays_put : may_move row (since_reply past) ≡ false
  stays_put =
      let has = still_in_window row.turn.thread (since_reply past) own in
      rw has (by_kind (writes (kind_of row.call)))
    where
      by_kind : (b : Bool) → (b && not true) ≡ false
      by_kind true = refl
      by_kind false = refl

  one_more : still_turns (row ∷ past) ≡ row ∷ still_turns past
  one_more = rw (is, stays_put) refl

  has_more : (thread : ℕ) → has_turn thread (still_turns past) ≡ true
      → has_turn thread (still_turns (row ∷ past)) ≡ true
  has_more thread has = ap (has_turn thread) one_more ∙ by_own (is_of thread row)
    where
      by_own : (b : Bool) → (b || has_turn thread (still_turns past)) ≡ true
      by_own true = refl
      by_own false = has

  are_still_more : (calls : List BlockedCall) → are_still calls past ≡ true → are_still calls (row ∷ past) ≡ true
  are_still_more [] still = refl
  are_still_more (c ∷ calls) still =
      let both = both_true (has_turn c.thread (still_turns past)) (are_still calls past) still in
      rw (has_more c.thread both.0, are_still_more calls both.1) refl

  pub stuck_more : (calls : List BlockedCall) → are_stuck calls past ≡ true → are_stuck calls (row ∷ past) ≡ true
  stuck_more [] stuck = stuck
  stuck_more (c ∷ calls) stuck = are_still_more (c ∷ calls) stuck

-- ## One turn

abbrev blocks : State → Moved → Result Effect Errno
blocks after moved = Ok (Blocks after moved)

-- a turn that is answered that the call is blocked, and asks nothing
held_turn : (settings : Settings) (s : State) (c : Call) (o : Option Outcome) (carried : Carried)
    → (let stepped = step settings s c o carried in stepped.answer ≡ answer.Again)
    → is_some (asks s c carried) ≡ false
    → let stepped = step settings s c o carried in
    effect_of s c carried ≡ blocks stepped.after stepped.carried.moved
held_turn settings s c o carried again none = by_effect (effect_of s c carried) again none
  where
    by_patience : (b : Bool) (after : State) (moved : Moved)
        → (let stepped = held_up b after moved carried in stepped.answer ≡ answer.Again)
        → let stepped = held_up b after moved carried in
        blocks after moved ≡ blocks stepped.after stepped.carried.moved
    by_patience true after moved again = refl
    by_patience false after moved again = cc

    by_effect : (r : Result Effect Errno)
        → (let stepped = concluded settings s o carried r in stepped.answer ≡ answer.Again)
        → is_some (query_of c r) ≡ false
        → let stepped = concluded settings s o carried r in r ≡ blocks stepped.after stepped.carried.moved
    by_effect (Ok (Completes after r)) again none = cc
    by_effect (Ok (Blocks after moved)) again none =
        by_patience (nat_lt (carried.turns + 1) settings.patience) after moved again
    by_effect (Ok (Asks a)) again none = absurd (true≢false none)
    by_effect (Err e) again none = cc

-- what is decided of a call but a write depends on nothing that it moved
decided_alike : (v : View) (c : Call) (m n : Moved) → writes (kind_of c) ≡ false → decided v c m ≡ decided v c n
decided_alike v (call.Write descriptor bytes) m n plain = absurd (true≢false plain)
decided_alike v c m n plain = refl

leaves_same : (s : State) (c : Call) (before : ℕ) (after : State) (moved : ℕ) → writes (kind_of c) ≡ false
    → WaitsInParts s c before after moved → after ≡ s
leaves_same s (call.Write descriptor bytes) before after moved plain there = absurd (true≢false plain)
leaves_same s c before after moved plain there = there

-- ## What holds after turns that are past

module _ (settings : Settings) (tidy_first : StartsTidy) (tidy_next : StepsKeepTidy) (matched_first : StartsMatched)
    (matched_next : StepsKeepMatched) (in_parts : AgainMovesInParts) where
  -- there is no room for a write that was blocked since a call last went on, and what was blocked since something may
  -- have changed is blocked again
  pub record Holds (past : List HistoryRow) (at : Moment) : Type 0 where
    pub tidy : HoldsNothingUnused at.state
    pub matched : EndsMatch at.state
    pub full : (thread : ℕ) (descriptor : ℤ) (bytes : List ℕ) → has_turn thread (since_reply past) ≡ true
        → blocked_call thread past ≡ Some (call.Write descriptor bytes)
        → IsFull at.state descriptor bytes (at.carried thread).moved
    pub stuck : (thread : ℕ) (c : Call) → has_turn thread (still_turns past) ≡ true → blocked_call thread past ≡ Some c
        → effect_of at.state c (at.carried thread) ≡ blocks at.state (at.carried thread).moved

  module _ (past : List HistoryRow) (at : Moment) (row : HistoryRow) (o : Option Outcome) (h : Holds past at)
      (right : IsRight (asks at.state row.call (at.carried row.turn.thread)) (turn_at settings at row o) row)
      (again : (c : Call) → blocked_call row.turn.thread past ≡ Some c → row.call ≡ c) where
    abbrev stepped : Stepped
    stepped = turn_at settings at row o

    abbrev carried : Carried
    carried = at.carried row.turn.thread

    abbrev to : Moment
    to = after_turn at row stepped

    module _ (is : is_blocked row ≡ true) where
      answered : stepped.answer ≡ answer.Again
      answered = sym (right.answer_is answer.Again (row_blocked row is).0)

      effect_is : effect_of at.state row.call carried ≡ blocks stepped.after stepped.carried.moved
      effect_is = held_turn settings at.state row.call o carried answered
          (sym (right.outcome_came answer.Again (row_blocked row is).0) ∙ (row_blocked row is).1)

      -- what the turn leaves where it is one of a write
      writes_leave : (descriptor : ℤ) (bytes : List ℕ) → row.call ≡ call.Write descriptor bytes
          → IsFull stepped.after descriptor bytes stepped.carried.moved
          × ((stepped.after ≡ at.state) ⊎ Grows at.state stepped.after)
      writes_leave descriptor bytes writing =
          blocked_write at.state descriptor bytes carried.moved stepped.after stepped.carried.moved h.matched
          (write_decided (seen at.state) descriptor (length bytes) carried.moved)
          (of_write at.state descriptor (length bytes) carried.moved)
          (subst (λ c. effect_of at.state c carried ≡ blocks stepped.after stepped.carried.moved) writing effect_is)

      plain_leaves : writes (kind_of row.call) ≡ false → stepped.after ≡ at.state
      plain_leaves plain =
          leaves_same at.state row.call carried.moved.bytes stepped.after stepped.carried.moved.bytes plain
          (in_parts settings at.state row.call o carried h.matched answered)

      grows : (c : Call) → row.call ≡ c → (stepped.after ≡ at.state) ⊎ Grows at.state stepped.after
      grows (call.Write descriptor bytes) writing = (writes_leave descriptor bytes writing).1
      grows c other = inl (plain_leaves (ap (λ (other : Call). writes (kind_of other)) other))

      -- the call is blocked so in this state, where it moved so much
      abbrev IsBlockedIn : State → Moved → Type 0
      IsBlockedIn s moved = meant s row.call (decided (seen s) row.call moved) ≡ blocks s moved

      parts_of : (s t : State) (m n : Moved) → blocks s m ≡ blocks t n → (s ≡ t) × (m ≡ n)
      parts_of s t m n same = (grind (arith, same), grind (arith, same))

      second : (a b : Bool) → a ≡ true → (a && not b) ≡ false → b ≡ true
      second true true a is = refl
      second true false a is = absurd (true≢false is)
      second false b a is = absurd (false≢true a)

      -- where nothing may have changed, the turn leaves the state, and the call is blocked again
      still_leaves : may_move row (since_reply past) ≡ false → (c : Call) → row.call ≡ c
          → (stepped.after ≡ at.state) × IsBlockedIn at.state stepped.carried.moved
      still_leaves still (call.Write descriptor bytes) writing =
          let has = second (writes (kind_of row.call)) (has_turn row.turn.thread (since_reply past))
          (ap (λ (other : Call). writes (kind_of other)) writing) still in
          let waits = window_call row.turn.thread past has in
          let before = h.full row.turn.thread descriptor bytes has
          (waits.1 ∙ ap (λ (c : Call). Some c) (sym (again waits.0 waits.1) ∙ writing)) in
          let blocked_is : effect_of at.state row.call carried ≡ blocks at.state carried.moved =
          subst (λ c. effect_of at.state c carried ≡ blocks at.state carried.moved) (sym writing)
          (full_blocks at.state descriptor bytes carried.moved before) in
          let same = parts_of stepped.after at.state stepped.carried.moved carried.moved (sym effect_is ∙ blocked_is) in
          (same.0, subst (λ m. IsBlockedIn at.state m) (sym same.1) blocked_is)
      still_leaves still c other =
          let plain : writes (kind_of row.call) ≡ false = ap (λ (other : Call). writes (kind_of other)) other in (
            plain_leaves plain,
            ap (meant at.state row.call) (decided_alike
                (seen at.state) row.call stepped.carried.moved carried.moved plain)
                ∙ effect_is ∙ ap (λ s. blocks s stepped.carried.moved) (plain_leaves plain),
          )

      still_blocks : may_move row (since_reply past) ≡ false
          → (stepped.after ≡ at.state) × IsBlockedIn stepped.after stepped.carried.moved
      still_blocks still =
          let left = still_leaves still row.call refl in
          (left.0, subst (λ s. IsBlockedIn s stepped.carried.moved) (sym left.0) left.1)

      -- ## What holds of each thread after the turn

      module _ (thread : ℕ) where
        -- what it carries, where this is its own turn and where not
        abbrev carries : Bool → Carried
        carries b = if b then carried_after (at.carried thread) row.answer stepped else at.carried thread

        abbrev call_of : Bool → Option Call
        call_of b = if b then (if is_held row then Some row.call else None) else blocked_call thread past

        own_call : (c : Call) → call_of true ≡ Some c → row.call ≡ c
        own_call c is_own =
            let held : Some row.call ≡ Some c = subst (λ (b : Bool). (if b then Some row.call else None) ≡ Some c)
            (row_blocked row is).2 is_own in
            grind (arith, held)

        own_carried : carries true ≡ stepped.carried
        own_carried = rw (row_blocked row is).0 refl

        full_here : (b : Bool) (descriptor : ℤ) (bytes : List ℕ) → (b || has_turn thread (since_reply past)) ≡ true
            → call_of b ≡ Some (call.Write descriptor bytes)
            → IsFull stepped.after descriptor bytes (let k = carries b in k.moved)
        full_here true descriptor bytes has made =
            subst (λ (k : Carried). IsFull stepped.after descriptor bytes k.moved) (sym own_carried)
            (writes_leave descriptor bytes (own_call (call.Write descriptor bytes) made)).0
        full_here false descriptor bytes has made =
            by_growth (grows row.call refl) (h.full thread descriptor bytes has made)
          where
            by_growth : (stepped.after ≡ at.state) ⊎ Grows at.state stepped.after
                → IsFull at.state descriptor bytes (at.carried thread).moved
                → IsFull stepped.after descriptor bytes (at.carried thread).moved
            by_growth (inl same) before =
                subst (λ s. IsFull s descriptor bytes (at.carried thread).moved) (sym same) before
            by_growth (inr g) before =
                subst (λ s. IsFull s descriptor bytes (at.carried thread).moved) (sym g.after_is)
                (grown_full at.state g.object g.waiting g.left g.was g.more descriptor bytes
                (at.carried thread).moved before)

        stuck_here : may_move row (since_reply past) ≡ false → (b : Bool) (c : Call)
            → (b || has_turn thread (since_move (since_reply past))) ≡ true → call_of b ≡ Some c
            → effect_of stepped.after c (carries b) ≡ blocks stepped.after (let k = carries b in k.moved)
        stuck_here still true c has made =
            subst (λ (k : Carried). effect_of stepped.after c k ≡ blocks stepped.after k.moved) (sym own_carried)
            (subst (λ c. effect_of stepped.after c stepped.carried ≡ blocks stepped.after stepped.carried.moved)
            (own_call c made) (still_blocks still).1)
        stuck_here still false c has made =
            subst (λ s. effect_of s c (at.carried thread) ≡ blocks s (at.carried thread).moved)
            (sym (still_blocks still).0) (h.stuck thread c has made)

    full_next : (thread : ℕ) (descriptor : ℤ) (bytes : List ℕ) (b : Bool) → is_blocked row ≡ b
        → has_turn thread (if b then row ∷ since_reply past else []) ≡ true
        → blocked_call thread (row ∷ past) ≡ Some (call.Write descriptor bytes)
        → IsFull to.state descriptor bytes (to.carried thread).moved
    full_next thread descriptor bytes true is has made =
        full_here is thread (is_of thread row) descriptor bytes has made
    full_next thread descriptor bytes false is has made = absurd (false≢true has)

    stuck_next : (thread : ℕ) (c : Call) (b : Bool) → is_blocked row ≡ b
        → (moves : Bool) → may_move row (since_reply past) ≡ moves
        → has_turn thread (if b then (if moves then [] else row ∷ since_move (since_reply past)) else []) ≡ true
        → blocked_call thread (row ∷ past) ≡ Some c
        → effect_of to.state c (to.carried thread) ≡ blocks to.state (to.carried thread).moved
    stuck_next thread c true is false still has made = stuck_here is thread still (is_of thread row) c has made
    stuck_next thread c true is true moves has made = absurd (false≢true has)
    stuck_next thread c false is moves m has made = absurd (false≢true has)

    still_is : (thread : ℕ) (b : Bool)
        → has_turn thread (since_move (if b then row ∷ since_reply past else [])) ≡ true
        → has_turn thread
        (if b then (if may_move row (since_reply past) then [] else row ∷ since_move (since_reply past)) else []) ≡ true
    still_is thread true has = has
    still_is thread false has = has

    holds_next : Holds (row ∷ past) to
    holds_next = record {
      tidy = tidy_next settings at.state row.call o carried h.tidy;
      matched = matched_next settings at.state row.call o carried h.tidy h.matched;
      full = λ thread descriptor bytes has made.
          full_next thread descriptor bytes (is_blocked row) refl has made;
      stuck = λ thread c has made.
          stuck_next thread c (is_blocked row) refl (may_move row (since_reply past)) refl
          (still_is thread (is_blocked row) has) made;
    }

  -- ## A whole history

  go_over : (history past : List HistoryRow) (at last : Moment) → Holds past at
      → IsLegalFrom settings at.state at.carried history → MakesAgain past history → Leads settings at history last
      → Holds (reverse_aux history past) last
  go_over [] past at last h legal again leads = subst (Holds past) leads h
  go_over (row ∷ rows) past at last h legal again (o, may, leads) =
      let turn = legal o may in
      go_over rows (row ∷ past) (after_turn at row (turn_at settings at row o)) last
      (holds_next past at row o h turn.0 again.0) turn.1 again.1 leads

  holds_first : Holds [] start
  holds_first = record {
    tidy = tidy_first;
    matched = matched_first;
    full = λ thread descriptor bytes has made. absurd (false≢true has);
    stuck = λ thread c has made. absurd (false≢true has);
  }

  stuck_thread : (past : List HistoryRow) (last : Moment) (thread : ℕ) → Holds past last
      → has_turn thread (still_turns past) ≡ true → IsStuck last thread (blocked_call thread past)
  stuck_thread past last thread h has =
      let waits = window_call thread past (still_in_window thread (since_reply past) has) in
      subst (IsStuck last thread) (sym waits.1) (h.stuck thread waits.0 has waits.1)

  pub all_stuck : (history : List HistoryRow) (last : Moment) (calls : List BlockedCall)
      → IsLegalFrom settings empty_state (λ thread. nothing_carried) history → MakesAgain [] history
      → Leads settings start history last → are_stuck calls (reverse history) ≡ true
      → (k : ℕ) (d : BlockedCall) → k < length calls
      → let call = slice_index_or calls k d in IsStuck last call.thread (blocked_call call.thread (reverse history))
  all_stuck history last calls legal again leads stuck k d inside =
      let call : BlockedCall = slice_index_or calls k d in
      stuck_thread (reverse history) last call.thread (go_over history [] start last holds_first legal again leads)
      (each_still calls (reverse history) (stuck_still calls (reverse history) stuck) k d inside)

-- How a turn of a call is answered that fails or waits, and what it leaves.
use Rattle.std.proofs.Common.{◌≡◌, ◌&&◌, ◌≤◌, ◌+◌, ℕ, zero, suc, ℤ, Bool, true, false, Option, Some, None, Result, Ok}
use Rattle.std.proofs.Common.{Err, if◌then◌else◌, arith, refl, sym, ◌∙◌}
use Rattle.std.proofs.lemmas.Bool.{false≢true}
use Rattle.std.proofs.lemmas.Bool.Decides.{nat_tests}
use Rattle.std.specs.Prelude.{IfOk, ◌<◌, is_ok, nat_lt, length}
use Rattle.posix_terms.specs.Calls.{Call}
use Rattle.posix_terms.specs.declared.call.Call.TheVariants as call
use Rattle.posix_terms.specs.declared.carried.Moved.{Moved}
use Rattle.posix_terms.specs.declared.errno.Errno.{Errno}
use Rattle.posix_terms.specs.declared.outcome.Outcome.{Outcome}
use Rattle.posix_terms.specs.declared.outcome.Outcome.TheVariants as out
use Rattle.posix_terms.specs.declared.reply.Answer.TheVariants as answer
use Rattle.posix_terms.specs.declared.reply.Reply.{Reply}
use Rattle.posix_terms.specs.declared.reply.Reply.TheVariants as reply
use Rattle.posix_terms.specs.declared.transcript.Settings.{Settings}
use Rattle.sequential_object.specs.Decided.{decided}
use Rattle.sequential_object.specs.Effects.{Asks, Blocks, Completes, Effect, nothing_moved}
use Rattle.sequential_object.specs.Meant.{meant, seen}
use Rattle.sequential_object.specs.Object.{State}
use Rattle.sequential_object.specs.So.{IsSo, is_failure}
use Rattle.sequential_object.specs.Step.{Carried, FailChangesNothing, closes_door, concluded, effect_of, failed}
use Rattle.sequential_object.specs.Step.{gave_up, held_up, is_again, waited}
use Rattle.sequential_object.specs.Transfers.{write_decided}
use Rattle.sequential_object.specs.Waiting.{AgainMovesInParts, EndsMatch, MovedBytesAreReported, ReportsMoved}
use Rattle.sequential_object.specs.Waiting.{WaitsInParts}
use Rattle.sequential_object.specs.declared.decision.Decision.{Decision}
use Rattle.sequential_object.specs.declared.decision.Decision.TheVariants as decision
use Rattle.sequential_object.specs.declared.decision.Deed.TheVariants as deed
use Rattle.sequential_object.proofs.Failing.{FailsInPlace, InPlace, LeavesParts, acts_in_place, in_place, is_write}
use Rattle.sequential_object.proofs.Failing.{is_writing, resumed_turn, write_fails, write_parts}
use Rattle.sequential_object.proofs.Outside.{so_of, waited_alone, waited_leaves}
use Rattle.sequential_object.proofs.Writing.{IsTurn}

-- ## What waits

-- all but a write wait in place
in_parts : (s : State) (c : Call) (before moved : ℕ) (after : State) → is_write c ≡ false → after ≡ s
    → WaitsInParts s c before after moved
in_parts s (call.Write descriptor bytes) before moved after plain same = absurd (false≢true (sym plain))
in_parts s c before moved after plain same = same

parts_in_place : (s : State) (c : Call) (before : ℕ) (r : Result Effect Errno) → is_write c ≡ false → IfOk r (InPlace s)
    → IfOk r (LeavesParts s c before)
parts_in_place s c before (Ok (Completes after r)) plain h = tt
parts_in_place s c before (Ok (Blocks after moved)) plain h = in_parts s c before moved.bytes after plain h
parts_in_place s c before (Ok (Asks a)) plain h = in_parts s c before 0 s plain refl
parts_in_place s c before (Err e) plain h = tt

other_parts : (s : State) (c : Call) (before : ℕ) (r : Result Decision Errno) → IfOk r (IsSo (seen s) c)
    → is_write c ≡ false
    → IfOk (meant s c r) (LeavesParts s c before)
other_parts s c before (Err e) so plain = tt
other_parts s c before (Ok (decision.Replies r x)) so plain = tt
other_parts s c before (Ok (decision.Locks object (deed.Acts a x))) so plain =
    parts_in_place s c before (meant s c (Ok (decision.Locks object (deed.Acts a x)))) plain
    (acts_in_place s c object a x so.2 plain)
other_parts s c before (Ok (decision.Locks object (deed.Asks blocks))) so plain = in_parts s c before 0 s plain refl
other_parts s c before (Ok (decision.Locks object (deed.Closes n key))) so plain = in_parts s c before 0 s plain refl
other_parts s c before (Ok (decision.Locks object (deed.Opens blocks listener new))) so plain =
    in_parts s c before 0 s plain refl

leaves_parts : (s : State) (c : Call) (carried : Carried) → EndsMatch s
    → IfOk (effect_of s c carried) (LeavesParts s c carried.moved.bytes)
leaves_parts s (call.Write descriptor bytes) carried ends =
    write_parts s descriptor bytes ends carried.moved (write_decided (seen s) descriptor (length bytes) carried.moved)
    (is_writing s descriptor (length bytes) carried.moved)
leaves_parts s c carried ends = other_parts s c carried.moved.bytes (decided (seen s) c carried.moved)
    (so_of s c carried.moved) refl

-- one that waits hands on what it has moved
held : (settings : Settings) (s : State) (carried : Carried) (c : Call) (after : State) (moved : Moved)
    → WaitsInParts s c carried.moved.bytes after moved.bytes
    → let stepped = waited settings after moved carried in
    stepped.answer ≡ answer.Again → WaitsInParts s c carried.moved.bytes stepped.after stepped.carried.moved.bytes
held settings s carried c after moved there again = by_patience (nat_lt (carried.turns + 1) settings.patience) again
  where
    by_patience : (b : Bool) → let stepped = held_up b after moved carried in
        stepped.answer ≡ answer.Again → WaitsInParts s c carried.moved.bytes stepped.after stepped.carried.moved.bytes
    by_patience true again = there
    by_patience false again = cc

blocked_alone : (settings : Settings) (s : State) (outcome : Option Outcome) (carried : Carried) (c : Call)
    (r : Result Effect Errno) → IfOk r (LeavesParts s c carried.moved.bytes)
    → let stepped = concluded settings s outcome carried r in
    stepped.answer ≡ answer.Again → WaitsInParts s c carried.moved.bytes stepped.after stepped.carried.moved.bytes
blocked_alone settings s outcome carried c (Ok (Completes after x)) there again = cc
blocked_alone settings s outcome carried c (Ok (Blocks after moved)) there again =
    held settings s carried c after moved there again
blocked_alone settings s (Some (out.Ok value bytes)) carried c (Ok (Asks a)) there again = cc
blocked_alone settings s (Some (out.Fail e)) carried c (Ok (Asks a)) there again = by_test (a.waits && is_again e) again
  where
    by_test : (b : Bool) → let stepped = if b then waited settings s nothing_moved carried else failed a.otherwise e in
        stepped.answer ≡ answer.Again → WaitsInParts s c carried.moved.bytes stepped.after stepped.carried.moved.bytes
    by_test true again = held settings s carried c s nothing_moved there again
    by_test false again = cc
blocked_alone settings s None carried c (Ok (Asks a)) there again = cc
blocked_alone settings s outcome carried c (Err f) there again = cc

pub again_moves_in_parts : AgainMovesInParts
again_moves_in_parts settings s c outcome carried ends again =
    blocked_alone settings s outcome carried c (effect_of s c carried) (leaves_parts s c carried ends) again

-- ## What fails

left_alone : (settings : Settings) (s : State) (outcome : Option Outcome) (carried : Carried) (r : Result Effect Errno)
    (e : Errno) → IfOk r (FailsInPlace s)
    → (concluded settings s outcome carried r).answer ≡ answer.Reply (reply.Fail e)
    → (concluded settings s outcome carried r).after ≡ s
left_alone settings s outcome carried (Ok (Completes after x)) e granted fails = grind arith
left_alone settings s outcome carried (Ok (Blocks after moved)) e granted fails =
    waited_leaves settings after moved carried
    ∙ granted (gave_up_none (nat_lt (carried.turns + 1) settings.patience) moved fails)
  where
    gave_up_none : (b : Bool) (moved : Moved) → (held_up b after moved carried).answer ≡ answer.Reply (reply.Fail e)
        → moved.bytes ≡ 0
    gave_up_none true moved fails = cc
    gave_up_none false moved fails = by_bytes moved.bytes fails
      where
        by_bytes : (n : ℕ) → answer.Reply (gave_up n) ≡ answer.Reply (reply.Fail e) → n ≡ 0
        by_bytes zero fails = refl
        by_bytes (suc n) fails = cc
left_alone settings s (Some (out.Ok value bytes)) carried (Ok (Asks a)) e granted fails =
    absurd (not_failed (a.succeeds value bytes).1 (granted.0 value bytes) fails)
  where
    not_failed : (r : Reply) → is_failure r ≡ false → answer.Reply r ≡ answer.Reply (reply.Fail e) → ⊥
    not_failed r quiet is = grind arith
left_alone settings s (Some (out.Fail f)) carried (Ok (Asks a)) e granted fails = by_test (a.waits && is_again f)
  where
    by_test : (b : Bool) → (if b then waited settings s nothing_moved carried else failed a.otherwise f).after ≡ s
    by_test true = waited_alone settings s carried
    by_test false = granted.1
left_alone settings s None carried (Ok (Asks a)) e granted fails = granted.1
left_alone settings s outcome carried (Err f) e granted fails = refl

fails_in_place : (s : State) (r : Result Effect Errno) → IfOk r (InPlace s) → IfOk r (FailsInPlace s)
fails_in_place s (Ok (Completes after r)) h = h
fails_in_place s (Ok (Blocks after moved)) h = λ none. h
fails_in_place s (Ok (Asks a)) h = h
fails_in_place s (Err e) h = tt

call_fails : (s : State) (c : Call) (carried : Carried) → closes_door s c carried ≡ false
    → IfOk (effect_of s c carried) (FailsInPlace s)
call_fails s (call.Write descriptor bytes) carried alone =
    write_fails s descriptor bytes carried.moved (write_decided (seen s) descriptor (length bytes) carried.moved)
    (is_writing s descriptor (length bytes) carried.moved)
call_fails s c carried alone =
    fails_in_place s (effect_of s c carried)
    (in_place s c carried (decided (seen s) c carried.moved) refl (so_of s c carried.moved) refl alone)

pub fail_leaves_state : FailChangesNothing
fail_leaves_state settings s c outcome carried e alone fails =
    left_alone settings s outcome carried (effect_of s c carried) e (call_fails s c carried alone) fails

-- ## What is reported

-- a write that moved bytes before is not refused
not_refused : (s : State) (descriptor : ℤ) (count : ℕ) (moved : Moved) → 0 < moved.bytes
    → is_ok (write_decided (seen s) descriptor count moved) ≡ true
unfolding write_decided
not_refused s descriptor count moved some = grind (arith, nat_tests, some)

pub moved_is_reported : MovedBytesAreReported
moved_is_reported settings s descriptor bytes outcome carried ends some =
    by_effect (effect_of s (call.Write descriptor bytes) carried)
    (resumed_turn s descriptor bytes ends carried.moved (write_decided (seen s) descriptor (length bytes) carried.moved)
    some (is_writing s descriptor (length bytes) carried.moved)
    (not_refused s descriptor (length bytes) carried.moved some))
  where
    by_patience : (b : Bool) (after : State) (moved : Moved) → carried.moved.bytes ≤ moved.bytes
        → let stepped = held_up b after moved carried in
        ReportsMoved carried.moved.bytes stepped.answer stepped.carried.moved
    by_patience true after moved more = more
    by_patience false after moved more = by_bytes moved.bytes more
      where
        by_bytes : (n : ℕ) → carried.moved.bytes ≤ n
            → ReportsMoved carried.moved.bytes (answer.Reply (gave_up n)) nothing_moved
        by_bytes zero more = grind (arith, some, more)
        by_bytes (suc n) more = more

    by_effect : (r : Result Effect Errno) → IsTurn s descriptor bytes carried.moved.bytes r
        → let stepped = concluded settings s outcome carried r in
        ReportsMoved carried.moved.bytes stepped.answer stepped.carried.moved
    by_effect (Ok (Completes after (reply.Count n))) h = h
    by_effect (Ok (Completes after r)) h = absurd h
    by_effect (Ok (Blocks after moved)) h = by_patience (nat_lt (carried.turns + 1) settings.patience) after moved h.2
    by_effect (Ok (Asks a)) h = absurd h
    by_effect (Err e) h = grind (arith, some, h)

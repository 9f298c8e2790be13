-- Believed: a contract of the headline stands on it.
-- What one call, taken alone, answers and leaves.
use Rattle.std.specs.Prelude.{◌≡◌, ℕ, zero, suc, ◌+◌, Bool, true, false, ◌&&◌, Result, Ok, Err}
use Rattle.std.specs.Prelude.{Option, Some, None, is_some, if◌then◌else◌, nat_lt}
use Rattle.sequential_object.specs.Decided.{decided}
use Rattle.sequential_object.specs.Effects.{Effect, Asking, Asks, Blocks, Completes}
pub use Rattle.sequential_object.specs.Effects.{nothing_moved}
use Rattle.sequential_object.specs.Meant.{meant, seen}
use Rattle.sequential_object.specs.Object.{State}
use Rattle.posix_terms.specs.Calls.{Call}
use Rattle.posix_terms.specs.declared.call.Call.TheVariants as call
pub use Rattle.posix_terms.specs.declared.carried.Carried.{Carried}
pub use Rattle.posix_terms.specs.declared.carried.Moved.{Moved}
use Rattle.posix_terms.specs.declared.errno.Errno.{Errno}
use Rattle.posix_terms.specs.declared.errno.Errno.TheVariants.{EAGAIN, EINTR, EIO}
use Rattle.posix_terms.specs.declared.outcome.Outcome.{Outcome}
use Rattle.posix_terms.specs.declared.outcome.Outcome.TheVariants as outcome
use Rattle.posix_terms.specs.Queries.{Query}
use Rattle.posix_terms.specs.declared.reply.Answer.{Answer}
use Rattle.posix_terms.specs.declared.reply.Answer.TheVariants as answer
use Rattle.posix_terms.specs.declared.reply.Reply.{Reply}
use Rattle.posix_terms.specs.declared.reply.Reply.TheVariants as reply
use Rattle.posix_terms.specs.declared.transcript.Settings.{Settings}

-- `Carried` is what a blocked call hands on to its next turn: the number of its blocked turns so
-- far, and what it moved at them. Of a call at its first turn it is this
abbrev pub nothing_carried : Carried
nothing_carried = record { turns = 0; moved = nothing_moved }

-- what a call does, by what is decided of what it sees, or its refusal, by the table or under the
-- lock
abbrev pub effect_of : State → Call → Carried → Result Effect Errno
effect_of s c carried = meant s c (decided (seen s) c carried.moved)

-- what a call asks of the outside, if it goes there
abbrev pub query_of : Call → Result Effect Errno → Option Query
query_of c (Ok (Asks a)) = Some (record { kind = a.kind; asked = a.asked; call = c })
query_of c effect = None

-- what a call that carries this asks of the outside, if it goes there
abbrev pub asks : State → Call → Carried → Option Query
asks s c carried = query_of c (effect_of s c carried)

-- the state after a turn of a call, how it was answered, and what the thread's next call turn
-- carries
pub record Stepped : Type 0 where
  pub after : State
  pub answer : Answer
  pub carried : Carried

-- the reply to a call that gives up when it has moved so many bytes
abbrev pub gave_up : ℕ → Reply
gave_up zero = reply.Fail EINTR
gave_up (suc n) = reply.Count (suc n)

-- a turn at which a call is blocked, leaves this state and has moved so much, with patience for
-- another turn or at the end of it
abbrev pub held_up : Bool → State → Moved → Carried → Stepped
held_up true after moved carried =
    let next : Carried = record { turns = carried.turns + 1; moved = moved } in
    record { after = after; answer = answer.Again; carried = next }
held_up false after moved carried =
    record { after = after; answer = answer.Reply (gave_up moved.bytes); carried = nothing_carried }

-- a call that carries this is blocked: it is made anew at later turns, until its patience ends
abbrev pub waited : Settings → State → Moved → Carried → Stepped
waited settings after moved carried =
    held_up (nat_lt (carried.turns + 1) settings.patience) after moved carried

-- whether an error is EAGAIN
abbrev pub is_again : Errno → Bool
is_again EAGAIN = true
is_again e = false

-- a call that failed, and leaves this state
abbrev pub failed : State → Errno → Stepped
failed after e = record {
  after = after;
  answer = answer.Reply (reply.Fail e);
  carried = nothing_carried;
}

-- how a call went on outside. EAGAIN may make it wait, which moves nothing, and every other failure
-- is its reply. An outcome that is still missing leaves what a failure leaves; until it comes, the
-- answer says nothing
abbrev pub outside : Settings → State → Asking → Option Outcome → Carried → Stepped
outside settings s a (Some (outcome.Ok value bytes)) carried =
    record {
      after = (a.succeeds value bytes).0;
      answer = answer.Reply (a.succeeds value bytes).1;
      carried = nothing_carried;
    }
outside settings s a (Some (outcome.Fail e)) carried =
    if a.waits && is_again e then waited settings s nothing_moved carried else failed a.otherwise e
outside settings s a None carried = failed a.otherwise EIO

-- The outcome is that of the request which the call makes of the outside
abbrev pub concluded : Settings → State → Option Outcome → Carried → Result Effect Errno → Stepped
concluded settings s outcome carried (Ok (Completes after r)) = record {
  after = after;
  answer = answer.Reply r;
  carried = nothing_carried;
}
concluded settings s outcome carried (Ok (Blocks after moved)) = waited settings after moved carried
concluded settings s outcome carried (Ok (Asks a)) = outside settings s a outcome carried
concluded settings s outcome carried (Err e) = failed s e

-- a turn of a call that carries this, by the outcome of what it asks outside
abbrev pub step : Settings → State → Call → Option Outcome → Carried → Stepped
step settings s c outcome carried = concluded settings s outcome carried (effect_of s c carried)

-- a `close` that goes outside: its descriptor was the last of a door
abbrev pub closes_door : State → Call → Carried → Bool
closes_door s (call.Close descriptor) carried = is_some (asks s (call.Close descriptor) carried)
closes_door s c carried = false

-- any other call that fails leaves the state as it was
abbrev pub FailChangesNothing : Type 0
FailChangesNothing =
    (settings : Settings) (s : State) (c : Call) (outcome : Option Outcome) (carried : Carried)
    (e : Errno)
    → closes_door s c carried ≡ false
    → (step settings s c outcome carried).answer ≡ answer.Reply (reply.Fail e)
    → (step settings s c outcome carried).after ≡ s

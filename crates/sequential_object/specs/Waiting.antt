-- Internal: no contract of the headline or of a command stands on it.
-- What a call leaves that cannot go on, and that the bytes which it moved are reported.
use Rattle.std.specs.Prelude.{◌≡◌, ◌⊎◌, ◌<◌, ◌≤◌, ◌+◌, ℕ, ℤ, List, ◌++◌, length, take, drop}
use Rattle.std.specs.Prelude.{Option, Some, Ok}
use Rattle.sequential_object.specs.Descriptors.{described}
use Rattle.std.specs.FinMap as map
use Rattle.posix_terms.specs.declared.object.End.{End}
use Rattle.posix_terms.specs.declared.object.End.TheVariants as part
use Rattle.posix_terms.specs.declared.object.Side.{Side}
use Rattle.sequential_object.specs.Object.{State, Content, Description, File, Pipe, Pair, DoorTo}
use Rattle.sequential_object.specs.Object.{content_of, with_content}
use Rattle.sequential_object.specs.Step.{Carried, Moved, step}
use Rattle.posix_terms.specs.Calls.{Call}
use Rattle.posix_terms.specs.declared.call.Call.TheVariants as call
use Rattle.posix_terms.specs.declared.limits.TheConstants.Limits as limit
use Rattle.posix_terms.specs.declared.outcome.Outcome.{Outcome}
use Rattle.posix_terms.specs.declared.reply.Answer.{Answer}
use Rattle.posix_terms.specs.declared.reply.Answer.TheVariants as answer
use Rattle.posix_terms.specs.declared.reply.Reply.TheVariants as reply
use Rattle.posix_terms.specs.declared.transcript.Settings.{Settings}

-- an object that holds this has such an end
abbrev pub HasEnd : Content → End → Type 0
HasEnd (File bytes) which = which ≡ part.Only
HasEnd (Pipe bytes) which = (which ≡ part.Read) ⊎ (which ≡ part.Write)
HasEnd (Pair sockets) which = (side : Side) × (which ≡ part.Socket side)
HasEnd (DoorTo door) which = which ≡ part.Door door

-- each description is of an end that its object has
abbrev pub EndsMatch : State → Type 0
EndsMatch s =
    (key : ℕ) (d : Description) → map.get s.descriptions key ≡ Some d
    → HasEnd (content_of s d.object) d.«end»

-- the next bytes of a write wait in the pipe of its descriptor too, and all else is as it was; so
-- many of its bytes went before, and so many with these
pub record AddsToPipe (s : State) (descriptor : ℤ) (bytes : List ℕ) (before : ℕ)
    (after : State) (moved : ℕ) : Type 0 where
  pub key : ℕ
  pub description : Description
  pub waiting : List ℕ
  pub more : List ℕ
  pub is_described : described s descriptor ≡ Ok (key, description)
  pub was : content_of s description.object ≡ Pipe waiting
  pub after_is : after ≡ with_content s description.object (Pipe (waiting ++ more))
  pub next : more ≡ take (length more) (drop before bytes)
  pub counted : moved ≡ before + length more

-- a call that waits leaves the state as it was, but for a write of more than PIPE_BUF bytes to a
-- pipe. What a write hands on counts the bytes that it added
abbrev pub WaitsInParts : State → Call → (before : ℕ) → State → (moved : ℕ) → Type 0
WaitsInParts s (call.Write descriptor bytes) before after moved =
    ((after ≡ s) × (moved ≡ before))
    ⊎ ((limit.PIPE_BUF < length bytes) × AddsToPipe s descriptor bytes before after moved)
WaitsInParts s c before after moved = after ≡ s

-- each call that has to wait leaves the state in this way
abbrev pub AgainMovesInParts : Type 0
AgainMovesInParts =
    (settings : Settings) (s : State) (c : Call) (outcome : Option Outcome) (carried : Carried)
    → EndsMatch s
    → (step settings s c outcome carried).answer ≡ answer.Again
    → let stepped = step settings s c outcome carried in
    WaitsInParts s c carried.moved.bytes stepped.after stepped.carried.moved.bytes

-- an answer that reports so many bytes at least, or hands them on
abbrev pub ReportsMoved : ℕ → Answer → Moved → Type 0
ReportsMoved bytes answer.Again moved = bytes ≤ moved.bytes
ReportsMoved bytes (answer.Reply (reply.Count count)) moved = bytes ≤ count
ReportsMoved bytes a moved = ⊥

-- a write that moved bytes does not fail, and reports them
abbrev pub MovedBytesAreReported : Type 0
MovedBytesAreReported =
    (settings : Settings) (s : State) (descriptor : ℤ) (bytes : List ℕ)
    (outcome : Option Outcome) (carried : Carried)
    → EndsMatch s → 0 < carried.moved.bytes
    → let stepped = step settings s (call.Write descriptor bytes) outcome carried in
    ReportsMoved carried.moved.bytes stepped.answer stepped.carried.moved

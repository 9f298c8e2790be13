-- Believed: a contract of the headline stands on it.
-- What a script does: the next step of a thread after the last
-- reply, and its state after that step.
use Rattle.std.specs.Prelude.{ℕ, zero, suc, ◌+◌, ◌-◌, Bool, true, false, List, [], length}
use Rattle.std.specs.Prelude.{replicate, slice_get, slice_index_or, slice_set, if◌then◌else◌}
use Rattle.std.specs.Prelude.{Option, Some, None, ℤ, pos, neg_ℤ}
use Rattle.std.specs.Int.{cast_signed, int_wrapping_add, w64}
use Rattle.std.specs.Ordering.{int_eq}
use Rattle.posix_terms.specs.Errors.{code_of}
use Rattle.posix_terms.specs.Calls.{Call}
use Rattle.posix_terms.specs.declared.call.Call.TheVariants as call
use Rattle.posix_terms.specs.declared.limits.TheConstants.Limits.{EXECUTED_LINES}
use Rattle.posix_terms.specs.declared.reply.Reply.{Reply}
use Rattle.posix_terms.specs.declared.reply.Reply.TheVariants as reply
use Rattle.thread_scripts.specs.CallLines.{CallLine}
use Rattle.thread_scripts.specs.declared.line.Number.{Number}
use Rattle.thread_scripts.specs.declared.line.Number.TheVariants as number
use Rattle.thread_scripts.specs.declared.line.Data.{Data}
use Rattle.thread_scripts.specs.declared.line.Data.TheVariants as bytes
use Rattle.thread_scripts.specs.declared.line.Line.{Line}
use Rattle.thread_scripts.specs.declared.line.Line.TheVariants as line
use Rattle.thread_scripts.specs.declared.state.Action.{Action}
use Rattle.thread_scripts.specs.declared.state.Action.TheVariants as action
use Rattle.posix_terms.specs.declared.step.Step.{Step}
use Rattle.posix_terms.specs.declared.step.Step.TheVariants as step
use Rattle.thread_scripts.specs.declared.actor.ScriptState.{ScriptState}

-- a script before its first line: every register is 0, every byte register empty
abbrev pub start_of : List Line → ScriptState
start_of script = record {
  script = script;
  place = 0;
  numbers = replicate 16 (pos 0);
  bytes = replicate 4 [];
  executed = 0;
}

-- what a reply leaves in r0 and r1; counts beyond 64 bits with a sign wrap
abbrev pub numbers_after : Reply → List ℤ → List ℤ
numbers_after (reply.Count n) numbers = slice_set numbers 0 (cast_signed w64 n)
numbers_after (reply.Data bytes) numbers = slice_set numbers 0 (cast_signed w64 (length bytes))
numbers_after (reply.Number n) numbers = slice_set numbers 0 n
numbers_after (reply.Pair first second) numbers = slice_set (slice_set numbers 0 first) 1 second
numbers_after (reply.Stat kind n links) numbers =
    slice_set (slice_set numbers 0 (cast_signed w64 n)) 1 (cast_signed w64 links)
numbers_after reply.Done numbers = slice_set numbers 0 (pos 0)
numbers_after (reply.Fail error) numbers = slice_set numbers 0 (neg_ℤ (pos (code_of error)))

-- what it leaves in b0
abbrev pub bytes_after : Reply → List (List ℕ) → List (List ℕ)
bytes_after (reply.Data bytes) registers = slice_set registers 0 bytes
bytes_after _ registers = registers

-- the state in which a reply is stored
abbrev pub stored : Option Reply → ScriptState → ScriptState
stored None s = s
stored (Some last) s = record s {
  numbers = numbers_after last s.numbers;
  bytes = bytes_after last s.bytes;
}

-- whether there is a last reply, and it is a failure
abbrev pub is_failure : Option Reply → Bool
is_failure (Some (reply.Fail error)) = true
is_failure _ = false

-- the number that a register holds
abbrev pub register_value : ScriptState → ℕ → ℤ
register_value s register = slice_index_or s.numbers register (pos 0)

-- the value of a number operand: its own, or what its register holds
abbrev pub number_value : ScriptState → Number → ℤ
number_value s (number.Value n) = n
number_value s (number.Register register) = register_value s register

-- the bytes of an operand: its own, or what its byte register holds
abbrev pub data_value : ScriptState → Data → List ℕ
data_value s (bytes.Text text) = text
data_value s (bytes.Register register) = slice_index_or s.bytes register []

-- the call that a line makes
abbrev pub call_of : ScriptState → CallLine → Call
call_of s (call.Open path access flags) = call.Open path access flags
call_of s (call.Close descriptor) = call.Close (number_value s descriptor)
call_of s (call.Read descriptor count) =
    call.Read (number_value s descriptor) (number_value s count)
call_of s (call.Write descriptor bytes) =
    call.Write (number_value s descriptor) (data_value s bytes)
call_of s (call.Pread descriptor count position) =
    call.Pread (number_value s descriptor) (number_value s count) (number_value s position)
call_of s (call.Pwrite descriptor bytes position) =
    call.Pwrite (number_value s descriptor) (data_value s bytes) (number_value s position)
call_of s (call.Lseek descriptor offset whence) =
    call.Lseek (number_value s descriptor) (number_value s offset) whence
call_of s (call.Ftruncate descriptor size) =
    call.Ftruncate (number_value s descriptor) (number_value s size)
call_of s (call.Fstat descriptor) = call.Fstat (number_value s descriptor)
call_of s (call.Dup descriptor) = call.Dup (number_value s descriptor)
call_of s (call.DupFrom descriptor least) =
    call.DupFrom (number_value s descriptor) (number_value s least)
call_of s (call.Dup2 descriptor target) =
    call.Dup2 (number_value s descriptor) (number_value s target)
call_of s (call.Getfl descriptor) = call.Getfl (number_value s descriptor)
call_of s (call.Setfl descriptor append nonblock) =
    call.Setfl (number_value s descriptor) append nonblock
call_of s (call.Link old_path new_path) = call.Link old_path new_path
call_of s (call.Unlink path) = call.Unlink path
call_of s (call.Rename old_path new_path) = call.Rename old_path new_path
call_of s (call.Mkdir path) = call.Mkdir path
call_of s (call.Rmdir path) = call.Rmdir path
call_of s call.Pipe = call.Pipe
call_of s call.Socketpair = call.Socketpair
call_of s (call.Shutdown descriptor how) = call.Shutdown (number_value s descriptor) how
call_of s (call.HostOpen path access flags) = call.HostOpen path access flags
call_of s (call.TcpListen port) = call.TcpListen (number_value s port)
call_of s (call.TcpConnect port) = call.TcpConnect (number_value s port)
call_of s (call.TcpAccept descriptor) = call.TcpAccept (number_value s descriptor)

-- what a line does; `end` goes after the last line
unfoldable pub action_of : Bool → ScriptState → Line → Action
action_of failed s (line.Call l) = action.Step (step.Call (call_of s l))
action_of failed s (line.Work amount) = action.Step (step.Work amount)
action_of failed s line.End = action.Go (length s.script)
action_of failed s (line.Set register value) = action.Set register (number_value s value)
action_of failed s (line.Add register value) =
    action.Set register (int_wrapping_add w64 (register_value s register) (number_value s value))
action_of failed s (line.SetBytes register value) = action.SetBytes register (data_value s value)
action_of failed s line.Label = action.Nothing
action_of failed s (line.Jump place) = action.Go place
action_of failed s (line.JumpIfZero register place) = if int_eq (register_value s register) (pos 0)
    then action.Go place else action.Nothing
action_of failed s (line.JumpIfFailed place) = if failed then action.Go place else action.Nothing

-- the step that it gives, if it gives one
abbrev pub step_given : Action → Option Step
step_given (action.Step step) = Some step
step_given _ = None

-- the state after it
abbrev pub performed : Action → ScriptState → ScriptState
performed (action.Step step) s = s
performed (action.Set register n) s = record s { numbers = slice_set s.numbers register n }
performed (action.SetBytes register text) s = record s { bytes = slice_set s.bytes register text }
performed (action.Go place) s = record s { place = place }
performed action.Nothing s = s

-- the state past a line, before what it does
abbrev pub past : ScriptState → ScriptState
past s = record s { place = s.place + 1; executed = s.executed + 1 }

-- the state after a line
abbrev pub behind : Bool → ScriptState → Line → ScriptState
behind failed s l = performed (action_of failed s l) (past s)

-- past the last line the thread ends
abbrev pub end_or : Option Line → ScriptState → (Line → Step × ScriptState) → Step × ScriptState
end_or None s more = (step.End, s)
end_or (Some l) s more = more l

-- the step of this line, or that of those after it
abbrev pub given_or : Option Step → ScriptState → Step × ScriptState → Step × ScriptState
given_or (Some step) s more = (step, s)
given_or None s more = more

-- the next step where at most n more lines are executed: lines
-- are executed up to one that gives a step
unfoldable pub next_within : Bool → ℕ → ScriptState → Step × ScriptState
next_within failed zero s = (step.End, s)
next_within failed (suc n) s =
    end_or (slice_get s.script s.place) s
    (λ l. given_or (step_given (action_of failed s l)) (behind failed s l)
    (next_within failed n (behind failed s l)))

-- how many more lines a thread may execute
abbrev pub lines_left : ScriptState → ℕ
lines_left s = EXECUTED_LINES - s.executed

-- the next step after the last reply, which is stored first, and the state after it
abbrev pub next_of : Option Reply → ScriptState → Step × ScriptState
next_of last s = next_within (is_failure last) (lines_left s) (stored last s)

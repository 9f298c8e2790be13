-- Internal: no contract of the headline or of a command stands on it.
-- Examples of calls that go outside, worked out by hand from the rules: one thread's calls, each
-- with its outcome and its reply.
use Rattle.std.specs.Prelude.{◌≡◌, ℕ, pos, negsuc, List, [], ◌∷◌, Bool, map, Option, Some, None}
use Rattle.std.specs.Prelude.{is_some, true, false, codes}
use Rattle.sequential_object.specs.Examples.{appending, creating, plainly}
use Rattle.sequential_object.specs.Object.{State, empty_state}
use Rattle.sequential_object.specs.Step.{Carried, asks, nothing_carried, step}
use Rattle.posix_terms.specs.declared.call.Access.TheVariants as access
use Rattle.posix_terms.specs.Calls.{Call}
use Rattle.posix_terms.specs.declared.call.Call.TheVariants as call
use Rattle.posix_terms.specs.declared.call.ShutdownHow.TheVariants as how
use Rattle.posix_terms.specs.declared.call.Whence.TheVariants as whence
use Rattle.posix_terms.specs.declared.errno.Errno.TheVariants.{EAGAIN, EBADF, EBUSY, EINTR, EINVAL}
use Rattle.posix_terms.specs.declared.errno.Errno.TheVariants.{EIO, ENOENT}
use Rattle.posix_terms.specs.declared.outcome.Outcome.{Outcome}
use Rattle.posix_terms.specs.declared.outcome.Outcome.TheVariants as outcome
use Rattle.posix_terms.specs.declared.reply.Answer.{Answer}
use Rattle.posix_terms.specs.declared.reply.Answer.TheVariants as answer
use Rattle.posix_terms.specs.declared.reply.ObjectKind.TheVariants as kind
use Rattle.posix_terms.specs.declared.reply.Reply.{Reply}
use Rattle.posix_terms.specs.declared.reply.Reply.TheVariants as reply
use Rattle.posix_terms.specs.declared.transcript.Settings.{Settings}

-- a call, its outcome if it goes outside, and its reply
pub record Visit : Type 0 where
  pub call : Call
  pub outcome : Option Outcome
  pub reply : Reply

-- this call, with this outcome and this reply
abbrev pub visit : Call → Option Outcome → Reply → Visit
visit c o r = record { call = c; outcome = o; reply = r }

-- how these calls are answered, made one after another with their outcomes
abbrev pub visits_from : Settings → State → List Visit → List Answer
visits_from settings s [] = []
visits_from settings s (v ∷ visits) =
    let stepped = step settings s v.call v.outcome nothing_carried in
    stepped.answer ∷ visits_from settings stepped.after visits

-- which of the calls go outside
abbrev pub asked_from : Settings → State → List Visit → List Bool
asked_from settings s [] = []
asked_from settings s (v ∷ visits) =
    is_some (asks s v.call nothing_carried)
    ∷ asked_from settings (step settings s v.call v.outcome nothing_carried).after visits

-- from the empty state, the calls that have these outcomes go outside, and all are answered by
-- these replies
abbrev pub Visits : List Visit → Type 0
Visits visits =
    (settings : Settings)
    → (visits_from settings empty_state visits ≡ map (λ (v : Visit). answer.Reply v.reply) visits)
    × (asked_from settings empty_state visits ≡ map (λ (v : Visit). is_some v.outcome) visits)

-- a success outside, with this value and no bytes
abbrev pub done : ℕ → Option Outcome
done value = Some (outcome.Ok value [])

-- a file of the host takes only some bytes, and then none
abbrev pub short_host_write : List Visit
short_host_write =
    visit (call.HostOpen (codes "out") access.WriteOnly creating) (done 0) (reply.Number (pos 0))
    ∷ visit (call.Write (pos 0) (0 ∷ 1 ∷ 2 ∷ 3 ∷ 4 ∷ 5 ∷ 6 ∷ 7 ∷ [])) (done 3) (reply.Count 3)
    ∷ visit (call.Write (pos 0) (3 ∷ 4 ∷ [])) (Some (outcome.Fail EIO)) (reply.Fail EIO)
    ∷ []

-- an opening that failed outside leaves its number free
abbrev pub missing_host_file : List Visit
missing_host_file =
    visit (call.HostOpen (codes "nofile") access.ReadOnly plainly) (Some (outcome.Fail ENOENT))
    (reply.Fail ENOENT)
    ∷ visit (call.Open (codes "/b") access.ReadWrite creating) None (reply.Number (pos 0))
    ∷ []

-- a listener, and a stream to it
abbrev pub over_loopback : List Visit
over_loopback =
    visit (call.TcpListen (pos 0)) (done 40000) (reply.Number (pos 0))
    ∷ visit (call.Fstat (pos 0)) None (reply.Stat kind.Listener 40000 0)
    ∷ visit (call.Read (pos 0) (pos 1)) None (reply.Fail EINVAL)
    ∷ visit (call.TcpConnect (pos 40000)) (done 0) (reply.Number (pos 1))
    ∷ visit (call.TcpAccept (pos 0)) (done 0) (reply.Number (pos 2))
    ∷ visit (call.Write (pos 1) (codes "hi")) (done 2) (reply.Count 2)
    ∷ visit (call.Read (pos 2) (pos 2)) (Some (outcome.Ok 2 (codes "hi"))) (reply.Data (codes "hi"))
    ∷ visit (call.Shutdown (pos 1) how.Write) (done 0) reply.Done
    ∷ visit (call.Read (pos 2) (pos 5)) (done 0) (reply.Data [])
    ∷ visit (call.Dup2 (pos 1) (pos 0)) None (reply.Fail EBUSY)
    ∷ visit (call.Close (pos 0)) (Some (outcome.Fail EIO)) (reply.Fail EIO)
    ∷ visit (call.Fstat (pos 0)) None (reply.Fail EBADF)
    ∷ visit (call.TcpAccept (pos 1)) None (reply.Fail EINVAL)
    ∷ []

-- a door that has another descriptor stays open where one is closed, by `close` or by `dup2`
abbrev pub shared_door : List Visit
shared_door =
    visit (call.HostOpen (codes "out") access.WriteOnly creating) (done 0) (reply.Number (pos 0))
    ∷ visit (call.Dup (pos 0)) None (reply.Number (pos 1))
    ∷ visit (call.Close (pos 0)) None reply.Done
    ∷ visit (call.Dup (pos 1)) None (reply.Number (pos 0))
    ∷ visit (call.Open (codes "/b") access.ReadWrite creating) None (reply.Number (pos 2))
    ∷ visit (call.Dup2 (pos 2) (pos 0)) None (reply.Number (pos 0))
    ∷ visit (call.Fstat (pos 0)) None (reply.Stat kind.File 0 1)
    ∷ visit (call.Dup2 (pos 2) (pos 1)) None (reply.Fail EBUSY)
    ∷ visit (call.Close (pos 1)) (done 0) reply.Done
    ∷ visit (call.Fstat (pos 1)) None (reply.Fail EBADF)
    ∷ []

-- a transfer of no bytes does not go outside
abbrev pub no_bytes_of_a_door : List Visit
no_bytes_of_a_door =
    visit (call.HostOpen (codes "out") access.ReadWrite creating) (done 0) (reply.Number (pos 0))
    ∷ visit (call.Read (pos 0) (pos 0)) None (reply.Data [])
    ∷ visit (call.Write (pos 0) []) None (reply.Count 0)
    ∷ []

-- `getfl` reports O_APPEND of a host file. An offset before the start is refused here; one that
-- counts from the offset goes to the host
abbrev pub appended_host_file : List Visit
appended_host_file =
    visit (call.HostOpen (codes "out") access.WriteOnly appending) (done 0) (reply.Number (pos 0))
    ∷ visit (call.Getfl (pos 0)) None (reply.Number (pos 5))
    ∷ visit (call.Write (pos 0) (codes "abc")) (done 3) (reply.Count 3)
    ∷ visit (call.Lseek (pos 0) (negsuc 0) whence.Set) None (reply.Fail EINVAL)
    ∷ visit (call.Lseek (pos 0) (negsuc 0) whence.Current) (done 2) (reply.Number (pos 2))
    ∷ []

-- with O_NONBLOCK the failure EAGAIN is the reply
abbrev pub would_block : List Visit
would_block =
    visit (call.TcpConnect (pos 40000)) (done 0) (reply.Number (pos 0))
    ∷ visit (call.Setfl (pos 0) false true) None reply.Done
    ∷ visit (call.Read (pos 0) (pos 4)) (Some (outcome.Fail EAGAIN)) (reply.Fail EAGAIN)
    ∷ []

-- a turn of a call: its outcome if it goes outside, and how it is answered
pub record CallTurn : Type 0 where
  pub call : Call
  pub outcome : Option Outcome
  pub answer : Answer

-- a turn of this call, with this outcome and this answer
abbrev pub call_turn : Call → Option Outcome → Answer → CallTurn
call_turn c o a = record { call = c; outcome = o; answer = a }

-- each turn carries on what the turn before left to carry
abbrev pub turns_from : Settings → State → Carried → List CallTurn → List Answer
turns_from settings s carried [] = []
turns_from settings s carried (t ∷ turns) =
    let stepped = step settings s t.call t.outcome carried in
    stepped.answer ∷ turns_from settings stepped.after stepped.carried turns

-- which of the turns go outside
abbrev pub asked_in_turn : Settings → State → Carried → List CallTurn → List Bool
asked_in_turn settings s carried [] = []
asked_in_turn settings s carried (t ∷ turns) =
    let stepped = step settings s t.call t.outcome carried in
    is_some (asks s t.call carried) ∷ asked_in_turn settings stepped.after stepped.carried turns

-- with this patience, the turns of one thread that have these outcomes go outside, and all are
-- answered so
abbrev pub TurnsAnswer : ℕ → List CallTurn → Type 0
TurnsAnswer patience turns =
    (settings : Settings) → settings.patience ≡ patience
    → (turns_from settings empty_state nothing_carried turns
    ≡ map (λ (t : CallTurn). t.answer) turns)
    × (asked_in_turn settings empty_state nothing_carried turns
    ≡ map (λ (t : CallTurn). is_some t.outcome) turns)

-- a stream to a peer from which nothing came yet, read so
abbrev pub read_early : List Answer → List CallTurn
read_early answers =
    call_turn (call.TcpConnect (pos 40000)) (done 0) (answer.Reply (reply.Number (pos 0)))
    ∷ map (call_turn (call.Read (pos 0) (pos 4)) (Some (outcome.Fail EAGAIN))) answers

-- without O_NONBLOCK the call is blocked. Each of its turns goes outside, the last of its patience
-- too, and the next call begins anew
abbrev pub patient_door : List CallTurn
patient_door = read_early (answer.Again ∷ answer.Reply (reply.Fail EINTR) ∷ answer.Again ∷ [])

-- without patience for another turn the blocked call fails with EINTR at its first one
abbrev pub impatient_door : List CallTurn
impatient_door = read_early (answer.Reply (reply.Fail EINTR) ∷ [])

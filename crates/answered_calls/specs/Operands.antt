-- Believed: a contract of a command stands on it.
-- The operands of calls, each with its name, in the order in which the line of a script has them.
use Rattle.std.specs.Prelude.{ℕ, Bool, false, List, [], ◌∷◌, codes}
use Rattle.posix_terms.specs.declared.call.Access.{Access}
use Rattle.posix_terms.specs.declared.call.Access.TheVariants as access
use Rattle.posix_terms.specs.declared.call.Call.{Call}
use Rattle.posix_terms.specs.declared.call.Call.TheVariants as call
use Rattle.posix_terms.specs.declared.call.OpenFlags.{OpenFlags}
use Rattle.posix_terms.specs.declared.call.ShutdownHow.{ShutdownHow}
use Rattle.posix_terms.specs.declared.call.ShutdownHow.TheVariants as how
use Rattle.posix_terms.specs.declared.call.Whence.{Whence}
use Rattle.posix_terms.specs.declared.call.Whence.TheVariants as whence

-- what an operand says, of a call whose numbers and written bytes are of these types: in a line of
-- a script they may be registers
pub data Said (N T : Type 0) : Type 0 where
  Descriptor : N → Said N T
  Number : N → Said N T
  Bytes : T → Said N T
  Path : List ℕ → Said N T
  Word : List ℕ → Said N T
  Flags : OpenFlags → Said N T

-- an operand: its name, and what it says
abbrev pub NamedSaid : Type 0 → Type 0 → Type 0
NamedSaid N T = List ℕ × Said N T

-- how something is opened
abbrev pub access_word : Access → List ℕ
access_word access.ReadOnly = codes "r"
access_word access.WriteOnly = codes "w"
access_word access.ReadWrite = codes "rw"

-- from where an offset counts
abbrev pub whence_word : Whence → List ℕ
whence_word whence.Set = codes "set"
whence_word whence.Current = codes "cur"
whence_word whence.End = codes "end"

-- what of a socket is shut
abbrev pub how_word : ShutdownHow → List ℕ
how_word how.Read = codes "read"
how_word how.Write = codes "write"
how_word how.Both = codes "both"

-- the flags that `setfl` sets
abbrev pub status_flags : Bool → Bool → OpenFlags
status_flags append nonblock = record {
  create = false;
  exclusive = false;
  truncate = false;
  append = append;
  nonblock = nonblock;
}

-- the descriptor of a call
abbrev pub descriptor_said : {N T : Type 0} → N → NamedSaid N T
descriptor_said n = (codes "descriptor", Descriptor n)

-- the bytes that a call writes
abbrev pub bytes_said : {N T : Type 0} → T → NamedSaid N T
bytes_said bytes = (codes "bytes", Bytes bytes)

-- how many bytes a call asks for
abbrev pub count_said : {N T : Type 0} → N → NamedSaid N T
count_said n = (codes "count", Number n)

-- where in the file a call reads or writes
abbrev pub position_said : {N T : Type 0} → N → NamedSaid N T
position_said n = (codes "position", Number n)

-- the port of a call
abbrev pub port_said : {N T : Type 0} → N → NamedSaid N T
port_said n = (codes "port", Number n)

-- the path of a call
abbrev pub path_said : {N T : Type 0} → List ℕ → NamedSaid N T
path_said path = (codes "path", Path path)

-- the two paths of a call
abbrev pub paths_said : {N T : Type 0} → List ℕ → List ℕ → List (NamedSaid N T)
paths_said old new = (codes "old_path", Path old) ∷ (codes "new_path", Path new) ∷ []

-- the flags of a call
abbrev pub flags_said : {N T : Type 0} → OpenFlags → NamedSaid N T
flags_said flags = (codes "flags", Flags flags)

-- how a call opens, and its flags
abbrev pub opening_said : {N T : Type 0} → Access → OpenFlags → List (NamedSaid N T)
opening_said access flags =
    (codes "access", Word (access_word access)) ∷ flags_said flags ∷ []

-- the operands of a call
unfoldable pub operands_of : {N T : Type 0} → Call N T → List (NamedSaid N T)
operands_of (call.Open path access flags) = path_said path ∷ opening_said access flags
operands_of (call.Close descriptor) = descriptor_said descriptor ∷ []
operands_of (call.Read descriptor count) = descriptor_said descriptor ∷ count_said count ∷ []
operands_of (call.Write descriptor bytes) = descriptor_said descriptor ∷ bytes_said bytes ∷ []
operands_of (call.Pread descriptor count position) =
    descriptor_said descriptor ∷ count_said count ∷ position_said position ∷ []
operands_of (call.Pwrite descriptor bytes position) =
    descriptor_said descriptor ∷ bytes_said bytes ∷ position_said position ∷ []
operands_of (call.Lseek descriptor offset whence) =
    descriptor_said descriptor ∷ (codes "offset", Number offset)
    ∷ (codes "whence", Word (whence_word whence)) ∷ []
operands_of (call.Ftruncate descriptor size) =
    descriptor_said descriptor ∷ (codes "size", Number size) ∷ []
operands_of (call.Fstat descriptor) = descriptor_said descriptor ∷ []
operands_of (call.Dup descriptor) = descriptor_said descriptor ∷ []
operands_of (call.DupFrom descriptor least) =
    descriptor_said descriptor ∷ (codes "least", Number least) ∷ []
operands_of (call.Dup2 descriptor target) =
    descriptor_said descriptor ∷ (codes "target", Descriptor target) ∷ []
operands_of (call.Getfl descriptor) = descriptor_said descriptor ∷ []
operands_of (call.Setfl descriptor append nonblock) =
    descriptor_said descriptor ∷ flags_said (status_flags append nonblock) ∷ []
operands_of (call.Link old_path new_path) = paths_said old_path new_path
operands_of (call.Unlink path) = path_said path ∷ []
operands_of (call.Rename old_path new_path) = paths_said old_path new_path
operands_of (call.Mkdir path) = path_said path ∷ []
operands_of (call.Rmdir path) = path_said path ∷ []
operands_of call.Pipe = []
operands_of call.Socketpair = []
operands_of (call.Shutdown descriptor how) =
    descriptor_said descriptor ∷ (codes "how", Word (how_word how)) ∷ []
operands_of (call.HostOpen path access flags) = path_said path ∷ opening_said access flags
operands_of (call.TcpListen port) = port_said port ∷ []
operands_of (call.TcpConnect port) = port_said port ∷ []
operands_of (call.TcpAccept descriptor) = descriptor_said descriptor ∷ []

-- Believed: a contract of a command stands on it.
-- The lines that make a call, by its word and operands.
use Rattle.std.specs.Prelude.{ℕ, ◌||◌, List, [], ◌∷◌, if◌then◌else◌, ℤ, Option, Some, None}
use Rattle.std.specs.Prelude.{option_map, bytes_eq}
use Rattle.posix_terms.specs.Calls.{word_of}
use Rattle.posix_terms.specs.declared.call.Access.{Access}
use Rattle.posix_terms.specs.declared.call.Call.TheVariants as call
use Rattle.posix_terms.specs.declared.call.CallKind.{CallKind}
use Rattle.posix_terms.specs.declared.call.TheConstants.CallKind as kinds
use Rattle.posix_terms.specs.declared.call.CallKind.TheVariants as kind
use Rattle.posix_terms.specs.declared.call.OpenFlags.{OpenFlags}
use Rattle.posix_terms.specs.declared.call.ShutdownHow.{ShutdownHow}
use Rattle.posix_terms.specs.declared.call.Whence.{Whence}
use Rattle.thread_scripts.specs.CallLines.{CallLine}
use Rattle.thread_scripts.specs.Numbers.{byte_register_of, number_of, register_of}
use Rattle.thread_scripts.specs.Texts.{access_of, bytes_of, known_to_host, no_flags, path_of}
use Rattle.thread_scripts.specs.Texts.{shutdown_how_of, whence_of, with_flags}
use Rattle.thread_scripts.specs.declared.line.Number.{Number}
use Rattle.thread_scripts.specs.declared.line.Number.TheVariants as number
use Rattle.thread_scripts.specs.declared.line.Data.{Data}
use Rattle.thread_scripts.specs.declared.line.Data.TheVariants as bytes

infixl 10 ◌>>=◌
-- the first operand that cannot be read ends the reading of a line
abbrev pub ◌>>=◌ : {A B : Type 0} → Option A → (A → Option B) → Option B
None >>= f = None
(Some x) >>= f = f x

-- an operand that is a number: a register's or its own
abbrev pub register_or_number : Option ℕ → Option ℤ → Option Number
register_or_number (Some register) value = Some (number.Register register)
register_or_number None value = option_map number.Value value

-- a word that is a number operand
unfoldable pub number_operand : List ℕ → Option Number
number_operand word = register_or_number (register_of word) (number_of word)

-- an operand that is bytes: a byte register's or its own
abbrev pub register_or_bytes : Option ℕ → Option (List ℕ) → Option Data
register_or_bytes (Some register) value = Some (bytes.Register register)
register_or_bytes None value = option_map bytes.Text value

-- a word that is an operand of bytes
unfoldable pub data_operand : List ℕ → Option Data
data_operand word = register_or_bytes (byte_register_of word) (bytes_of word)

-- the first call of these that a word names
abbrev pub kind_among : List CallKind → List ℕ → Option CallKind
kind_among [] word = None
kind_among (k ∷ ks) word = if bytes_eq word (word_of k) then Some k else kind_among ks word

-- the call that a word names
abbrev pub kind_named : List ℕ → Option CallKind
kind_named word = kind_among kinds.ALL word

-- ## Operands, by their shapes

-- NUMBER
abbrev pub one_number : List (List ℕ) → Option Number
one_number (a ∷ []) = number_operand a
one_number _ = None

-- NUMBER NUMBER
abbrev pub two_numbers : List (List ℕ) → Option (Number × Number)
two_numbers (a ∷ b ∷ []) = do
  x ← number_operand a
  y ← number_operand b
  Some (x, y)
two_numbers _ = None

-- NUMBER NUMBER NUMBER
abbrev pub three_numbers : List (List ℕ) → Option (Number × Number × Number)
three_numbers (a ∷ b ∷ c ∷ []) = do
  x ← number_operand a
  y ← number_operand b
  z ← number_operand c
  Some (x, y, z)
three_numbers _ = None

-- NUMBER BYTES
abbrev pub number_and_bytes : List (List ℕ) → Option (Number × Data)
number_and_bytes (a ∷ b ∷ []) = do
  x ← number_operand a
  y ← data_operand b
  Some (x, y)
number_and_bytes _ = None

-- NUMBER BYTES NUMBER
abbrev pub bytes_at : List (List ℕ) → Option (Number × Data × Number)
bytes_at (a ∷ b ∷ c ∷ []) = do
  x ← number_operand a
  z ← number_operand c
  y ← data_operand b
  Some (x, y, z)
bytes_at _ = None

-- NUMBER NUMBER WHENCE
abbrev pub seek : List (List ℕ) → Option (Number × Number × Whence)
seek (a ∷ b ∷ c ∷ []) = do
  x ← number_operand a
  y ← number_operand b
  w ← whence_of c
  Some (x, y, w)
seek _ = None

-- NUMBER HOW
abbrev pub number_and_how : List (List ℕ) → Option (Number × ShutdownHow)
number_and_how (a ∷ b ∷ []) = do
  x ← number_operand a
  h ← shutdown_how_of b
  Some (x, h)
number_and_how _ = None

-- NUMBER FLAG..
abbrev pub number_and_flags : List (List ℕ) → Option (Number × OpenFlags)
number_and_flags (a ∷ words) = do
  x ← number_operand a
  f ← with_flags no_flags words
  Some (x, f)
number_and_flags _ = None

-- PATH
abbrev pub one_path : List (List ℕ) → Option (List ℕ)
one_path (a ∷ []) = path_of a
one_path _ = None

-- PATH PATH
abbrev pub two_paths : List (List ℕ) → Option (List ℕ × List ℕ)
two_paths (a ∷ b ∷ []) = do
  p ← path_of a
  q ← path_of b
  Some (p, q)
two_paths _ = None

-- PATH ACCESS FLAG..
abbrev pub opening : List (List ℕ) → Option (List ℕ × Access × OpenFlags)
opening (a ∷ b ∷ words) = do
  x ← access_of b
  f ← with_flags no_flags words
  p ← path_of a
  Some (p, x, f)
opening _ = None

-- a call without operands
abbrev pub without_operands : CallLine → List (List ℕ) → Option CallLine
without_operands c [] = Some c
without_operands c _ = None

-- flags that can be set later: those for opening alone are not among them
abbrev pub status_flags : OpenFlags → Option OpenFlags
status_flags f = if f.create || f.exclusive || f.truncate then None else Some f

-- the line of a call with these operands
unfoldable pub call_line : CallKind → List (List ℕ) → Option CallLine
call_line kind.Open operands = option_map (λ o. call.Open o.0 o.1 o.2) (opening operands)
call_line kind.Close operands = option_map call.Close (one_number operands)
call_line kind.Read operands = option_map (λ o. call.Read o.0 o.1) (two_numbers operands)
call_line kind.Write operands = option_map (λ o. call.Write o.0 o.1) (number_and_bytes operands)
call_line kind.Pread operands = option_map (λ o. call.Pread o.0 o.1 o.2) (three_numbers operands)
call_line kind.Pwrite operands = option_map (λ o. call.Pwrite o.0 o.1 o.2) (bytes_at operands)
call_line kind.Lseek operands = option_map (λ o. call.Lseek o.0 o.1 o.2) (seek operands)
call_line kind.Ftruncate operands = option_map (λ o. call.Ftruncate o.0 o.1) (two_numbers operands)
call_line kind.Fstat operands = option_map call.Fstat (one_number operands)
call_line kind.Dup operands = option_map call.Dup (one_number operands)
call_line kind.DupFrom operands = option_map (λ o. call.DupFrom o.0 o.1) (two_numbers operands)
call_line kind.Dup2 operands = option_map (λ o. call.Dup2 o.0 o.1) (two_numbers operands)
call_line kind.Getfl operands = option_map call.Getfl (one_number operands)
call_line kind.Setfl operands = do
  o ← number_and_flags operands
  f ← status_flags o.1
  Some (call.Setfl o.0 f.append f.nonblock)
call_line kind.Link operands = option_map (λ o. call.Link o.0 o.1) (two_paths operands)
call_line kind.Unlink operands = option_map call.Unlink (one_path operands)
call_line kind.Rename operands = option_map (λ o. call.Rename o.0 o.1) (two_paths operands)
call_line kind.Mkdir operands = option_map call.Mkdir (one_path operands)
call_line kind.Rmdir operands = option_map call.Rmdir (one_path operands)
call_line kind.Pipe operands = without_operands call.Pipe operands
call_line kind.Socketpair operands = without_operands call.Socketpair operands
call_line kind.Shutdown operands = option_map (λ o. call.Shutdown o.0 o.1) (number_and_how operands)
call_line kind.HostOpen operands = do
  o ← opening operands
  f ← known_to_host o.2
  Some (call.HostOpen o.0 o.1 f)
call_line kind.TcpListen operands = option_map call.TcpListen (one_number operands)
call_line kind.TcpConnect operands = option_map call.TcpConnect (one_number operands)
call_line kind.TcpAccept operands = option_map call.TcpAccept (one_number operands)

-- Believed: a contract of a command stands on it.
-- The words of an expectation: those of a reply in a transcript, with `_` for any operand.
use Rattle.std.specs.Prelude.{ℕ, ◌-◌, ◌^◌, List, [], ◌∷◌, ◌==◌, if◌then◌else◌, Option, Some, None}
use Rattle.std.specs.Prelude.{option_map, option_and_then, bytes_eq, codes, find}
use Rattle.std.specs.Result.{result_ok}
use Rattle.hex.specs.Hex.{decode_of}
use Rattle.posix_terms.specs.Errors.{name_of}
use Rattle.posix_terms.specs.Replies.{kind_code}
use Rattle.posix_terms.specs.declared.errno.Errno.{Errno}
use Rattle.posix_terms.specs.declared.errno.Errno.TheVariants as errno
use Rattle.posix_terms.specs.declared.reply.ObjectKind.{ObjectKind}
use Rattle.posix_terms.specs.declared.reply.ObjectKind.TheVariants as kind
use Rattle.thread_scripts.specs.Calls.{◌>>=◌}
use Rattle.thread_scripts.specs.Numbers.{natural_of, number_of, up_to}
use Rattle.expectations.specs.declared.pattern.Pattern.{Pattern}
use Rattle.expectations.specs.declared.pattern.Pattern.TheVariants as pattern
use Rattle.expectations.specs.declared.wanted.Wanted.{Wanted}
use Rattle.expectations.specs.declared.wanted.Wanted.TheVariants as want

-- what an operand's word says: `_` is any operand, and another word is read
abbrev pub operand : {A : Type 0} → (List ℕ → Option A) → List ℕ → Option (Option A)
operand read word = if bytes_eq word (codes "_") then Some None else option_map Some (read word)

-- a number of 64 bits without a sign
abbrev pub size_of : List ℕ → Option ℕ
size_of word = up_to (2 ^ 64 - 1) (natural_of word)

-- hexadecimal digits, two for each byte, and `-` for no bytes
abbrev pub data_of : List ℕ → Option (List ℕ)
data_of word = if bytes_eq word (codes "-") then Some [] else result_ok (decode_of word)

-- all kinds of objects
abbrev pub kinds : List ObjectKind
kinds = kind.File ∷ kind.Pipe ∷ kind.SocketPair ∷ kind.HostFile ∷ kind.Listener ∷ kind.Stream ∷ []

-- the kind that is printed with this number
abbrev pub kind_numbered : ℕ → Option ObjectKind
kind_numbered n = find (λ kind. kind_code kind == n) kinds

-- the kind that a word names: its number
abbrev pub kind_of : List ℕ → Option ObjectKind
kind_of word = option_and_then kind_numbered (size_of word)

-- all errors
abbrev pub errors : List Errno
errors =
    errno.EBADF ∷ errno.EINVAL ∷ errno.EOVERFLOW ∷ errno.ESPIPE ∷ errno.EFBIG ∷ errno.EAGAIN
    ∷ errno.EPIPE ∷ errno.EINTR ∷ errno.EIO ∷ errno.ENOENT ∷ errno.EEXIST ∷ errno.ENOTDIR
    ∷ errno.EISDIR ∷ errno.ENOTEMPTY ∷ errno.EPERM ∷ errno.EACCES ∷ errno.EMFILE ∷ errno.ENFILE
    ∷ errno.ENOSPC ∷ errno.ENAMETOOLONG ∷ errno.ENOTSOCK ∷ errno.EBUSY ∷ errno.ECONNREFUSED
    ∷ errno.ECONNRESET ∷ errno.EADDRINUSE ∷ errno.ETIMEDOUT ∷ []

-- the one of these errors that has this name
abbrev pub error_among : List Errno → List ℕ → Option Errno
error_among errors word = find (λ error. bytes_eq word (name_of error)) errors

-- the error of this name
abbrev pub error_of : List ℕ → Option Errno
error_of word = error_among errors word

-- ## A pattern, by the operands of its word

-- count N
abbrev pub count_pattern : List (List ℕ) → Option Pattern
count_pattern (n ∷ []) = option_map pattern.Count (operand size_of n)
count_pattern _ = None

-- data HEX
abbrev pub data_pattern : List (List ℕ) → Option Pattern
data_pattern (bytes ∷ []) = option_map pattern.Data (operand data_of bytes)
data_pattern _ = None

-- number N
abbrev pub number_pattern : List (List ℕ) → Option Pattern
number_pattern (n ∷ []) = option_map pattern.Number (operand number_of n)
number_pattern _ = None

-- pair N N
abbrev pub pair_pattern : List (List ℕ) → Option Pattern
pair_pattern (a ∷ b ∷ []) = do
  first ← operand number_of a
  second ← operand number_of b
  Some (pattern.Pair first second)
pair_pattern _ = None

-- stat KIND N N
abbrev pub stat_pattern : List (List ℕ) → Option Pattern
stat_pattern (k ∷ n ∷ l ∷ []) = do
  kind ← operand kind_of k
  number ← operand size_of n
  links ← operand size_of l
  Some (pattern.Stat kind number links)
stat_pattern _ = None

-- done
abbrev pub done_pattern : List (List ℕ) → Option Pattern
done_pattern [] = Some pattern.Done
done_pattern _ = None

-- fail NAME
abbrev pub fail_pattern : List (List ℕ) → Option Pattern
fail_pattern (name ∷ []) = option_map pattern.Fail (operand error_of name)
fail_pattern _ = None

-- the pattern of this word with these operands
unfoldable pub pattern_by : List ℕ → List (List ℕ) → Option Pattern
pattern_by word operands =
    if bytes_eq word (codes "count") then count_pattern operands
    else if bytes_eq word (codes "data") then data_pattern operands
    else if bytes_eq word (codes "number") then number_pattern operands
    else if bytes_eq word (codes "pair") then pair_pattern operands
    else if bytes_eq word (codes "stat") then stat_pattern operands
    else if bytes_eq word (codes "done") then done_pattern operands
    else if bytes_eq word (codes "fail") then fail_pattern operands
    else None

-- ## What is wanted

-- the pattern of these words after `not`: there `fail` alone is any failure
abbrev pub excluded_of : List (List ℕ) → Option Pattern
excluded_of [] = None
excluded_of (word ∷ []) =
    if bytes_eq word (codes "fail") then Some (pattern.Fail None) else pattern_by word []
excluded_of (word ∷ operands) = pattern_by word operands

-- what these words want
abbrev pub wanted_of : List (List ℕ) → Option Wanted
wanted_of [] = None
wanted_of (word ∷ words) =
    if bytes_eq word (codes "not") then option_map want.Not (excluded_of words)
    else option_map want.Match (pattern_by word words)

-- Believed: a contract of a command stands on it.
-- Paths that calls of the tree in memory refuse, whatever the tree holds.
use Rattle.std.specs.Prelude.{◌≡◌, ℕ, Bool, true, false, List, ◌==◌, length, nat_lt, Option}
use Rattle.std.specs.Prelude.{Some, None, Result, Ok, Err, if◌then◌else◌}
use Rattle.std.specs.List.{find, list_any}
use Rattle.posix_terms.specs.declared.errno.Errno.{Errno}
use Rattle.posix_terms.specs.declared.errno.Errno.TheVariants.{EINVAL, ENAMETOOLONG, ENOENT}
use Rattle.posix_terms.specs.declared.limits.TheConstants.Limits as limit
use Rattle.sequential_object.specs.Paths.{components_of, has_trailing_slash, is_dots, path_form}
use Rattle.script_checks.specs.declared.paths.PathFault.{PathFault}
use Rattle.script_checks.specs.declared.paths.PathFault.TheVariants as fault

-- why a path is refused, with the name for which it is
pub data Refusal : Type 0 where
  Empty : Refusal
  TooLong : Refusal
  Dots : List ℕ → Refusal
  EndsInSlash : Refusal
  LongName : List ℕ → Refusal

-- the same as code sees it
abbrev pub refusal_seen : PathFault → Refusal
refusal_seen fault.Empty = Empty
refusal_seen fault.TooLong = TooLong
refusal_seen (fault.Dots name) = Dots name.now
refusal_seen fault.EndsInSlash = EndsInSlash
refusal_seen (fault.LongName name) = LongName name.now

-- a name has more bytes than a name may have
abbrev pub is_long : List ℕ → Bool
is_long name = nat_lt limit.NAME_BYTES (length name)

-- by the first name that is `.` or `..`, by the end, and by the first name that is too long
abbrev pub refusal_by : Option (List ℕ) → Bool → Option (List ℕ) → Option Refusal
refusal_by (Some dots) slash long = Some (Dots dots)
refusal_by None true long = Some EndsInSlash
refusal_by None false (Some long) = Some (LongName long)
refusal_by None false None = None

-- why a path is refused, if it is: the first of these reasons
abbrev pub path_refusal : List ℕ → Option Refusal
path_refusal path =
    if length path == 0 then Some Empty
    else if nat_lt limit.PATH_BYTES (length path) then Some TooLong
    else refusal_by (find is_dots (components_of path)) (has_trailing_slash path)
    (find is_long (components_of path))

-- the error with which it is refused
abbrev pub error_of : Refusal → Errno
error_of Empty = ENOENT
error_of TooLong = ENAMETOOLONG
error_of (Dots name) = EINVAL
error_of EndsInSlash = EINVAL
error_of (LongName name) = ENAMETOOLONG

-- the components of a path, unless it is refused
abbrev pub form_by : Option Refusal → List (List ℕ) → Result (List (List ℕ)) Errno
form_by None components = Ok components
form_by (Some refusal) components = Err (error_of refusal)

-- a path without a zero byte is refused for its form exactly so; in scripts none has one
abbrev pub AreRefusedForTheirForm : Type 0
AreRefusedForTheirForm = (path : List ℕ) → list_any (λ b. b == 0) path ≡ false
    → path_form path ≡ form_by (path_refusal path) (components_of path)

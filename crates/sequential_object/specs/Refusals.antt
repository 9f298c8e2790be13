-- Believed: a contract of the headline stands on it.
-- A call is a chain of refusals, in the order in which they are looked for, and then what is
-- decided of it.
use Rattle.std.specs.Prelude.{ℕ, ℤ, pos, negsuc, Bool, true, false, Result, Ok, Err, Option, Some}
use Rattle.std.specs.Prelude.{None, if◌then◌else◌, nat_lt}
use Rattle.posix_terms.specs.declared.errno.Errno.{Errno}
use Rattle.posix_terms.specs.declared.errno.Errno.TheVariants.{EINVAL}
use Rattle.posix_terms.specs.declared.limits.TheConstants.Limits as limit

infixl 10 ◌>>=◌
-- the first refusal ends the chain
abbrev pub ◌>>=◌ : {A B : Type 0} → Result A Errno → (A → Result B Errno) → Result B Errno
(Ok x) >>= f = f x
(Err e) >>= f = Err e

-- a call is refused with this error where the test holds
abbrev pub refuse_if : Bool → Errno → Result (Unit {0}) Errno
refuse_if true e = Err e
refuse_if false e = Ok tt

-- what was found; without it the call is refused with this error
abbrev pub some_or : {A : Type 0} → Option A → Errno → Result A Errno
some_or (Some x) e = Ok x
some_or None e = Err e

-- how many bytes a read asks for: neither negative nor above the greatest count
abbrev pub count_of : ℤ → Result ℕ Errno
count_of (pos n) = if nat_lt limit.COUNT n then Err EINVAL else Ok n
count_of (negsuc n) = Err EINVAL

-- a position in a file, which is not negative
abbrev pub position_of : ℤ → Result ℕ Errno
position_of (pos n) = Ok n
position_of (negsuc n) = Err EINVAL

-- Believed: a contract of a command stands on it.
-- What is tried in place of an outcome.
use Rattle.std.specs.Prelude.{ℕ, ◌-◌, ◌/◌, ◌==◌, Bool, false, if◌then◌else◌, nat_lt, not}
use Rattle.std.specs.Prelude.{List, [], ◌∷◌, ◌++◌, filter, map}
use Rattle.std.specs.Prelude.{Option, Some, option_copied, unwrap_or}
use Rattle.std.specs.List.{dedup}
use Rattle.posix_terms.specs.Errors.{code_of}
use Rattle.posix_terms.specs.declared.errno.Errno.{Errno}
use Rattle.posix_terms.specs.declared.errno.Errno.TheVariants as errno
use Rattle.posix_terms.specs.declared.outcome.Given.{Given}
use Rattle.posix_terms.specs.declared.outcome.OutKind.{OutKind}
use Rattle.posix_terms.specs.declared.outcome.OutKind.TheVariants as kind
use Rattle.posix_terms.specs.declared.outcome.Outcome.{Outcome}
use Rattle.posix_terms.specs.declared.outcome.Outcome.TheVariants as outcome
use Rattle.posix_terms.specs.declared.reply.ObjectKind.{ObjectKind}
use Rattle.posix_terms.specs.declared.reply.ObjectKind.TheVariants as object
use Rattle.fault_injection.specs.declared.cases.Choice.{Choice}
use Rattle.fault_injection.specs.declared.injected.Injected.{Injected}
use Rattle.fault_injection.specs.declared.injected.Injected.TheVariants as injected

-- ## Failures

-- the errors that a read can meet at a host: of a stream, or of a host file
abbrev pub read_errors : Option ObjectKind → List Errno
read_errors (Some object.Stream) =
    errno.EAGAIN ∷ errno.EINTR ∷ errno.ECONNRESET ∷ errno.ETIMEDOUT ∷ errno.EIO ∷ []
read_errors other = errno.EINTR ∷ errno.EIO ∷ []

-- those of a write: to a stream, or to a host file, which may be a pipe
abbrev pub write_errors : Option ObjectKind → List Errno
write_errors (Some object.Stream) =
    errno.EAGAIN ∷ errno.EINTR ∷ errno.EPIPE ∷ errno.ECONNRESET ∷ errno.EIO ∷ []
write_errors other = errno.EINTR ∷ errno.EPIPE ∷ errno.EIO ∷ []

-- the errors that a request of this kind can meet at a host, where a read or a write goes by this
abbrev pub errors_of : OutKind → Option ObjectKind → List Errno
errors_of kind.Open object =
    errno.ENOENT ∷ errno.EACCES ∷ errno.EINTR ∷ errno.EINVAL ∷ errno.EIO ∷ []
errors_of kind.Read object = read_errors object
errors_of kind.Write object = write_errors object
errors_of kind.Seek object = errno.EINVAL ∷ errno.EIO ∷ []
errors_of kind.Listen object = errno.EADDRINUSE ∷ errno.EACCES ∷ errno.EINVAL ∷ errno.EIO ∷ []
errors_of kind.Connect object =
    errno.ECONNREFUSED ∷ errno.ECONNRESET ∷ errno.ETIMEDOUT ∷ errno.EADDRINUSE ∷ errno.EACCES
    ∷ errno.EINTR ∷ errno.EINVAL ∷ errno.EIO ∷ []
errors_of kind.Accept object = errno.EAGAIN ∷ errno.EINTR ∷ errno.EIO ∷ []
errors_of kind.Shutdown object = errno.EIO ∷ []
errors_of kind.Close object = errno.EINTR ∷ errno.EIO ∷ []

-- the errors to try: those that are named, or else those that it can meet
abbrev pub errors_for : Choice → OutKind → Option ObjectKind → List Errno
errors_for choice kind object =
    unwrap_or (option_copied choice.errors) (errors_of kind object)

-- whether an outcome is the failure with this error
unfoldable pub is_failure : Outcome → Errno → Bool
is_failure (outcome.Ok value bytes) error = false
is_failure (outcome.Fail other) error = code_of other == code_of error

-- each of these as a failure in place of an outcome, but that which the outcome is itself
abbrev pub failures : List Errno → Outcome → List Injected
failures errors recorded =
    map injected.Fail (filter (λ error. not (is_failure recorded error)) errors)

-- ## Short counts

-- none, one, half and all but one of a count: each that is less than it, once
abbrev pub short_counts : ℕ → List ℕ
short_counts count =
    dedup (λ a b. a == b)
    (filter (λ n. nat_lt n count) (0 ∷ 1 ∷ (count / 2) ∷ (count - 1) ∷ []))

-- each as the count of a success in place of a read or a write that is a success
abbrev pub short_successes : OutKind → Outcome → List Injected
short_successes kind.Read (outcome.Ok value bytes) = map injected.Short (short_counts value)
short_successes kind.Write (outcome.Ok value bytes) = map injected.Short (short_counts value)
short_successes kind recorded = []

-- ## Both

-- what is tried in place of an outcome, where a read or a write goes by this: failures, and then
-- short counts, if they are chosen
abbrev pub tried : Choice → Option ObjectKind → Given → List Injected
tried choice object given =
    failures (errors_for choice given.kind object) given.outcome
    ++ (if choice.short then short_successes given.kind given.outcome else [])

-- ## What differs from an outcome

-- the outcome is a read or a write of more bytes than so many
abbrev pub is_short : OutKind → Outcome → ℕ → Bool
is_short kind.Read (outcome.Ok value bytes) count = nat_lt count value
is_short kind.Write (outcome.Ok value bytes) count = nat_lt count value
is_short kind recorded count = false

-- whether this is another failure, or a count that is less than that of a read or a write
abbrev pub is_other : Given → Injected → Bool
is_other given (injected.Fail error) = not (is_failure given.outcome error)
is_other given (injected.Short count) = is_short given.kind given.outcome count

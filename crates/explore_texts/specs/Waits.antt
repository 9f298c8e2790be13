-- Believed: a contract of a command stands on it.
-- Whether calls that are blocked for good are expected to be interrupted.
use Rattle.std.specs.Prelude.{ℕ, ◌==◌, ◌&&◌, Bool, true, false, not, List, length}
use Rattle.std.specs.Prelude.{Option, Some, None, slice_get, Result, Ok, Err}
use Rattle.std.specs.List.{list_any}
use Rattle.posix_terms.specs.declared.errno.Errno.TheVariants as errno
use Rattle.thread_scripts.specs.Words.{lines_of}
use Rattle.expectations.specs.Expected.{expected_before}
use Rattle.expectations.specs.declared.expected.Expectation.{Expectation}
use Rattle.expectations.specs.declared.fault.Reason.{Reason}
use Rattle.expectations.specs.declared.pattern.Pattern.TheVariants as pattern
use Rattle.expectations.specs.declared.wanted.Wanted.{Wanted}
use Rattle.expectations.specs.declared.wanted.Wanted.TheVariants as want
use Rattle.answered_calls.specs.declared.blocked.BlockedLine.{BlockedLine}

-- it is `fail EINTR`
abbrev pub is_eintr : Wanted → Bool
is_eintr (want.Match (pattern.Fail (Some errno.EINTR))) = true
is_eintr wanted = false

-- that is expected of the call on this line
abbrev pub is_interrupt : ℕ → Expectation → Bool
is_interrupt line expectation = expectation.call == line && is_eintr expectation.wanted

-- and the expectation is a good one
abbrev pub is_good_interrupt : ℕ → Result Expectation Reason → Bool
is_good_interrupt line (Ok expectation) = is_interrupt line expectation
is_good_interrupt line (Err reason) = false

-- a text expects it of the call on this line
abbrev pub expects_interrupt : ℕ → List (List ℕ) → Bool
expects_interrupt line texts =
    list_any (is_good_interrupt line) (expected_before texts (length texts))

-- a text that is there does
abbrev pub expected_in : ℕ → Option (List ℕ) → Bool
expected_in line None = false
expected_in line (Some text) = expects_interrupt line (lines_of text)

-- the text of its thread does
abbrev pub interrupt_expected : List (List ℕ) → BlockedLine → Bool
interrupt_expected texts blocked = expected_in blocked.line (slice_get texts blocked.thread)

-- calls are blocked for good at these lines, and none of them is expected to be interrupted
abbrev pub are_unexpected : List (List ℕ) → List BlockedLine → Bool
are_unexpected texts lines =
    not (length lines == 0) && not (list_any (interrupt_expected texts) lines)

-- Believed: a contract of the headline stands on it.
-- Which outcomes answer a request.
use Rattle.std.specs.Prelude.{ℕ, ◌-◌, ◌^◌, Bool, true, false, ◌&&◌, ◌||◌, ◌==◌, nat_le, length}
use Rattle.std.specs.Prelude.{Option, Some, None}
use Rattle.posix_terms.specs.declared.limits.TheConstants.Limits as limit
use Rattle.posix_terms.specs.declared.outcome.Given.{Given}
use Rattle.posix_terms.specs.declared.outcome.OutKind.{OutKind}
use Rattle.posix_terms.specs.declared.outcome.OutKind.TheVariants as kind
use Rattle.posix_terms.specs.declared.outcome.Outcome.{Outcome}
use Rattle.posix_terms.specs.declared.outcome.Outcome.TheVariants as outcome
use Rattle.posix_terms.specs.declared.request.Request.{Request}
use Rattle.posix_terms.specs.declared.transcript.Turn.{Turn}

-- the value that a success of this kind may have: what was asked, the value and the number of bytes
abbrev pub value_fits : OutKind → ℕ → ℕ → ℕ → Bool
value_fits kind.Open asked value count = value == 0
value_fits kind.Read asked value count = value == count && nat_le value asked
value_fits kind.Write asked value count = nat_le value asked
value_fits kind.Seek asked value count = nat_le value (2 ^ 63 - 1)
value_fits kind.Listen asked value count = nat_le 1 value && nat_le value limit.PORT
    && (asked == 0 || value == asked)
value_fits kind.Connect asked value count = value == 0
value_fits kind.Accept asked value count = value == 0
value_fits kind.Shutdown asked value count = value == 0
value_fits kind.Close asked value count = value == 0

-- only a read brings bytes
abbrev pub bytes_fit : OutKind → ℕ → Bool
bytes_fit kind.Read count = true
bytes_fit _ count = count == 0

-- an outcome answers a request of this kind that asks this; every failure does
unfoldable pub fits : OutKind → ℕ → Outcome → Bool
fits k asked (outcome.Ok value bytes) = value_fits k asked value (length bytes)
    && bytes_fit k (length bytes)
fits k asked (outcome.Fail error) = true

-- two kinds of requests are the same
abbrev pub is_kind : OutKind → OutKind → Bool
is_kind kind.Open kind.Open = true
is_kind kind.Read kind.Read = true
is_kind kind.Write kind.Write = true
is_kind kind.Seek kind.Seek = true
is_kind kind.Listen kind.Listen = true
is_kind kind.Connect kind.Connect = true
is_kind kind.Accept kind.Accept = true
is_kind kind.Shutdown kind.Shutdown = true
is_kind kind.Close kind.Close = true
is_kind k other = false

-- an outcome of this kind that fits what was asked
abbrev pub suits : OutKind → ℕ → Given → Bool
suits k asked given = is_kind given.kind k && fits k asked given.outcome

-- what was given belongs to a turn of its clock, and to any where it has none
abbrev pub is_at : Turn → Option ℕ → Bool
is_at turn None = true
is_at turn (Some clock) = clock == turn.clock

-- what was given answers a request that it suits, at the turn that it belongs to
abbrev pub answers : Request → Given → Bool
answers request given = suits request.kind request.asked given && is_at request.turn given.clock

-- the same outcome with the clock of this turn
abbrev pub dated : Turn → Given → Given
dated turn given = record given { clock = Some turn.clock }

-- the same outcome without a clock
abbrev pub undated : Given → Given
undated given = record given { clock = None }

-- Believed: a contract of the headline stands on it.
-- What a call asks of the outside, whatever its turn.
use Rattle.std.specs.Prelude.{ℕ, Option, Some, None}
use Rattle.posix_terms.specs.Calls.{Call}
use Rattle.posix_terms.specs.declared.outcome.OutKind.{OutKind}
use Rattle.posix_terms.specs.declared.request.Request.{Request}
use Rattle.posix_terms.specs.declared.transcript.Turn.{Turn}

-- the kind, how much or at which port, and the call, which says the rest
pub record Query : Type 0 where
  pub kind : OutKind
  pub asked : ℕ
  pub call : Call

-- the request of a call that was granted at this turn
abbrev pub requested : Turn → Query → Request
requested turn query =
    record { kind = query.kind; asked = query.asked; call = query.call; turn = turn }

-- if it asks
abbrev pub requested_at : Turn → Option Query → Option Request
requested_at turn (Some query) = Some (requested turn query)
requested_at turn None = None

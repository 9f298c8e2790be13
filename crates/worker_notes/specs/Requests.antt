-- Believed: a contract of the headline stands on it.
-- The request with which a call goes outside, if it goes there: it is known of the call and its
-- turn alone.
use Rattle.std.specs.Prelude.{List, Option, Some, None}
pub use Rattle.lock_machine.specs.Requests.{query_for}
use Rattle.posix_terms.specs.Calls.{Call}
use Rattle.posix_terms.specs.Queries.{requested_at}
use Rattle.posix_terms.specs.declared.request.Request.{Request}
use Rattle.posix_terms.specs.declared.transcript.Turn.{Turn}
use Rattle.worker_notes.specs.Plays.{open_call}
use Rattle.worker_notes.specs.declared.own.Noted.{Noted}

-- at the turn at which the call was granted
abbrev pub request_for : Turn → Call → Option Request
request_for turn c = requested_at turn (query_for c)

-- the request of the call that a thread is in
abbrev pub request_in : Turn → Option Call → Option Request
request_in turn (Some c) = request_for turn c
request_in turn None = None

-- of the call in which its notes end
abbrev pub open_request : Turn → List Noted → Option Request
open_request turn notes = request_in turn (open_call notes)

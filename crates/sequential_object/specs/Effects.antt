-- Believed: a contract of the headline stands on it.
-- What a call does that is not refused: it completes, it is blocked, or it asks the outside.
use Rattle.std.specs.Prelude.{ℕ, List, Bool, None}
use Rattle.sequential_object.specs.Object.{State}
use Rattle.posix_terms.specs.declared.carried.Moved.{Moved}
use Rattle.posix_terms.specs.declared.outcome.OutKind.{OutKind}
use Rattle.posix_terms.specs.declared.reply.Reply.{Reply}

-- no byte was moved so far
abbrev pub nothing_moved : Moved
nothing_moved = record { bytes = 0; from = None }

-- what a call asks of the outside, and what comes of it
pub record Asking : Type 0 where
  pub kind : OutKind
  pub asked : ℕ
  -- what a success with this value and these bytes leaves, and its reply
  pub succeeds : ℕ → List ℕ → State × Reply
  -- what a failure leaves; and what is left while the outcome is missing
  pub otherwise : State
  -- whether the failure EAGAIN is not a reply, but makes the call wait
  pub waits : Bool

-- what a call does that is not refused
pub data Effect : Type 0 where
  -- it is done, and this is its reply
  Completes : (after : State) → (reply : Reply) → Effect
  -- it cannot go on yet, and waits for a later turn; it leaves this, and has moved so much
  Blocks : (after : State) → (moved : Moved) → Effect
  -- it goes outside, and its reply is what comes of that
  Asks : (asking : Asking) → Effect

-- a request that leaves this state, whatever its outcome is
abbrev pub asks_of : State → OutKind → ℕ → Bool → (ℕ → List ℕ → Reply) → Effect
asks_of s kind asked waits told =
    Asks (record {
      kind = kind;
      asked = asked;
      succeeds = λ value bytes. (s, told value bytes);
      otherwise = s;
      waits = waits;
    })

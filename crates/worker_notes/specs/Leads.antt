-- Believed: a contract of the headline stands on it.
-- The calls outside that lead from one value of an outside to another.
use Rattle.std.specs.Prelude.{◌≡◌, ◌⊎◌, ℕ, ◌+◌, List, [], ◌∷◌, length, Option, Some, None}
use Rattle.posix_terms.specs.Calls.{Call}
use Rattle.posix_terms.specs.declared.outcome.Outcome.{Outcome}
use Rattle.posix_terms.specs.declared.request.Request.{Request}
use Rattle.posix_terms.specs.declared.transcript.Turn.{Turn}
use Rattle.worker_notes.specs.Requests.{request_for}
use Rattle.worker_notes.specs.declared.own.Brought.{Brought}

-- which outcome of a number an outside may give to a request: how it stood before, and how it
-- stands after
abbrev pub Giving : Type 0 → Type 1
Giving O = O → ℕ → Request → Outcome → O → Type 0

-- each of these outcomes was given to its request, the first with this number and each later one
-- with the next
abbrev pub Leads : {O : Type 0} → Giving O → ℕ → O → List Brought → O → Type 0
Leads gives number o [] p = p ≡ o
Leads {O} gives number o (b ∷ brought) p =
    (q : O) × gives o number b.request b.outcome q × Leads gives (number + 1) q brought p

-- one more call outside: the request of this call at some turn, with the outcome of this number
abbrev pub IsOneMore : {O : Type 0} → Giving O → Call → ℕ → O → O → Type 0
IsOneMore gives c number q p =
    (turn : Turn) × (request : Request) × (outcome : Outcome)
    × (request_for turn c ≡ Some request) × gives q number request outcome p

-- it gave no more; or, where the thread is in a call, at most one outcome more: of the request of
-- that call
abbrev pub IsAhead : {O : Type 0} → Giving O → Option Call → ℕ → O → O → Type 0
IsAhead gives None number q p = p ≡ q
IsAhead gives (Some c) number q p = (p ≡ q) ⊎ IsOneMore gives c number q p

-- an outside that stood at o stands after these calls; or, where its thread is in a call, it may
-- stand after that one too
abbrev pub LeadsTo : {O : Type 0} → Giving O → Option Call → O → List Brought → O → Type 0
LeadsTo {O} gives c o brought p =
    (q : O) × Leads gives 0 o brought q × IsAhead gives c (length brought) q p

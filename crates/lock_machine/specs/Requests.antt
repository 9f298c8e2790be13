-- Believed: a contract of the headline stands on it.
-- How much requests ask.
use Rattle.std.specs.Prelude.{◌≡◌, ◌≤◌, Option, Some, None, if◌then◌else◌}
use Rattle.sequential_object.specs.Bytes.{most_asked}
use Rattle.sequential_object.specs.Meant.{may_ask, request_asked, request_kind}
use Rattle.sequential_object.specs.Object.{State}
use Rattle.sequential_object.specs.Step.{Carried, asks}
use Rattle.posix_terms.specs.Calls.{Call}
use Rattle.posix_terms.specs.declared.outcome.OutKind.{OutKind}
use Rattle.posix_terms.specs.Queries.{Query}

-- what is asked has a place in a record
abbrev pub Little : Option Query → Type 0
Little (Some r) = r.asked ≤ most_asked r.kind
Little None = Unit {0}

-- no call asks for more than a record of its outcome can hold
abbrev pub AskLittle : Type 0
AskLittle = (s : State) (c : Call) (carried : Carried) → Little (asks s c carried)

-- the kind of the request with which this call goes outside, if it does
abbrev pub kind_asked : Call → Option OutKind
kind_asked c = if may_ask c then Some (request_kind c) else None

-- what is asked, if anything is, is of this kind
abbrev pub IsOfKind : Option OutKind → Option Query → Type 0
IsOfKind k (Some r) = Some r.kind ≡ k
IsOfKind k None = Unit {0}

-- what a call asks, if it asks anything of this kind
abbrev pub query_of_kind : Call → Option OutKind → Option Query
query_of_kind c (Some k) = Some (record { kind = k; asked = request_asked c; call = c })
query_of_kind c None = None

-- the request with which this call goes outside, if it may
abbrev pub query_for : Call → Option Query
query_for c = query_of_kind c (kind_asked c)

-- whatever a call asks by its definition is known of the call alone
abbrev pub AskByTheirCall : Type 0
AskByTheirCall = (s : State) (c : Call) (carried : Carried) (q : Query)
    → asks s c carried ≡ Some q → query_for c ≡ Some q

-- and so is its kind
abbrev pub AskTheirKind : Type 0
AskTheirKind = (s : State) (c : Call) (carried : Carried)
    → IsOfKind (kind_asked c) (asks s c carried)

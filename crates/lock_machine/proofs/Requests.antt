-- No request asks for more than a record of its outcome can hold.
use Rattle.std.proofs.Common.{◌≡◌, ◌≤◌, ℕ, Bool, true, Option, Some, None, if◌then◌else◌, Result, Ok, Err, refl, ap}
use Rattle.std.proofs.Common.{sym, ◌∙◌, arith}
use Rattle.std.specs.Option.{option_map}
use Rattle.std.specs.Prelude.{IfOk}
use Rattle.posix_terms.specs.Calls.{Call}
use Rattle.posix_terms.specs.Queries.{Query}
use Rattle.posix_terms.specs.declared.call.Call.TheVariants as call
use Rattle.posix_terms.specs.declared.carried.Carried.{Carried}
use Rattle.posix_terms.specs.declared.errno.Errno.{Errno}
use Rattle.posix_terms.specs.declared.outcome.OutKind.{OutKind}
use Rattle.posix_terms.specs.declared.outcome.OutKind.TheVariants as kind
use Rattle.posix_terms.specs.declared.reply.Reply.TheVariants as reply
use Rattle.sequential_object.specs.Acts.{Acted, Ending, Replies}
use Rattle.sequential_object.specs.Acts as ending
use Rattle.sequential_object.specs.Bytes.{most_asked}
use Rattle.sequential_object.specs.Changes.{changed}
use Rattle.sequential_object.specs.Decided.{decided}
use Rattle.sequential_object.specs.Meant.{acted_at, ended, may_ask, meant, put, request_asked, request_kind, seen}
use Rattle.sequential_object.specs.Object.{State}
use Rattle.sequential_object.specs.So.{DecidedSo, IsClose, IsSo}
use Rattle.sequential_object.specs.Step.{asks, query_of}
use Rattle.sequential_object.specs.declared.decision.Decision.{Decision}
use Rattle.sequential_object.specs.declared.decision.Decision.TheVariants as decision
use Rattle.sequential_object.specs.declared.decision.Deed.TheVariants as deed
use Rattle.lock_machine.specs.Requests.{AskByTheirCall, AskLittle, AskTheirKind, IsOfKind, Little, kind_asked}
use Rattle.lock_machine.specs.Requests.{query_for, query_of_kind}

-- a request is the one that this call may make
abbrev IsOf : Call → Option Query → Type 0
IsOf c (Some r) = query_for c ≡ Some r
IsOf c None = Unit {0}

abbrev Suits : Call → Option Query → Type 0
Suits c r = IsOf c r × Little r

pub within_a_record : (k : OutKind) (asked : ℕ) → asked ≤ most_asked k → asked ≤ 65535
within_a_record kind.Open asked h = h
within_a_record kind.Read asked h = omega arith
within_a_record kind.Write asked h = omega arith
within_a_record kind.Seek asked h = h
within_a_record kind.Listen asked h = h
within_a_record kind.Connect asked h = h
within_a_record kind.Accept asked h = h
within_a_record kind.Shutdown asked h = h
within_a_record kind.Close asked h = h

-- the request of a call that may go outside
query_is : (c : Call) → may_ask c ≡ true
    → query_for c ≡ Some (record { kind = request_kind c; asked = request_asked c; call = c })
query_is c is = ap (λ (b : Bool). query_of_kind c (if b then Some (request_kind c) else None)) is

ended_suits : (c : Call) (after : State) (e : Ending) → Suits c (query_of c (ended after e))
ended_suits c after (Replies (reply.Fail e)) = (tt, tt)
ended_suits c after (Replies r) = (tt, tt)
ended_suits c after (ending.Blocks moved) = (tt, tt)

close_suits : (s : State) (c : Call) (object n key : ℕ) → IsClose c
    → Suits c (query_of c (meant s c (Ok (decision.Locks object (deed.Closes n key)))))
close_suits s (call.Close descriptor) object n key is = (refl, omega arith)
close_suits s c object n key is = absurd is

suits : (s : State) (c : Call) (r : Result Decision Errno) → IfOk r (IsSo (seen s) c)
    → Suits c (query_of c (meant s c r))
suits s c (Err e) so = (tt, tt)
suits s c (Ok (decision.Replies r x)) so = (tt, tt)
suits s c (Ok (decision.Locks object (deed.Acts a x))) so =
    let after : State = changed s c x in
    let done : Acted = acted_at after object a c in
    ended_suits c (put after object a done) done.ending
suits s c (Ok (decision.Locks object (deed.Asks blocks))) so = (query_is c so.3.0, so.3.1)
suits s c (Ok (decision.Locks object (deed.Closes n key))) so = close_suits s c object n key so.4
suits s c (Ok (decision.Locks object (deed.Opens blocks listener new))) so = (query_is c so.2.0, so.2.1)

module _ (so : DecidedSo) where
  all_suit : (s : State) (c : Call) (carried : Carried)
      → Suits c (query_of c (meant s c (decided (seen s) c carried.moved)))
  all_suit s c carried = suits s c (decided (seen s) c carried.moved)
      (so.so (seen s) c carried.moved (let known = so.shows s in known.numbered))

  pub asked_little : AskLittle
  asked_little s c carried = (all_suit s c carried).1

  pub asked_by_call : AskByTheirCall
  asked_by_call s c carried q is = at c (asks s c carried) q (all_suit s c carried).0 is
    where
      at : (c : Call) (o : Option Query) (q : Query) → IsOf c o → o ≡ Some q → query_for c ≡ Some q
      at c o q h e = rw e at h

  pub asked_kind : AskTheirKind
  asked_kind s c carried = by_query (asks s c carried) (all_suit s c carried).0
    where
      kind_in : Option Query → Option OutKind
      kind_in r = option_map (λ (q : Query). q.kind) r

      own_kind : (k : Option OutKind) → kind_in (query_of_kind c k) ≡ k
      own_kind None = refl
      own_kind (Some k) = refl

      by_query : (r : Option Query) → IsOf c r → IsOfKind (kind_asked c) r
      by_query None of = tt
      by_query (Some q) of = sym (ap kind_in of) ∙ own_kind (kind_asked c)

-- How the notes of calls outside grow.
use Rattle.std.proofs.Common.{◌≡◌, inl, ℕ, ◌+◌, List, [], ◌∷◌, ◌++◌, length, Option, Some, None, refl, sym, subst}
use Rattle.std.proofs.Common.{arith}
use Rattle.posix_terms.specs.Calls.{Call}
use Rattle.worker_notes.specs.Leads.{Giving, Leads, LeadsTo}
use Rattle.worker_notes.specs.declared.own.Brought.{Brought}

-- by one more call
pub leads_given : {O : Type 0} (gives : Giving O) (number : ℕ) (o : O) (brought : List Brought) (q : O) (b : Brought)
    (p : O) (m : ℕ) → Leads gives number o brought q → m ≡ number + length brought → gives q m b.request b.outcome p
    → Leads gives number o (brought ++ b ∷ []) p
leads_given gives number o [] q b p m h e g =
    let here : m ≡ number = omega (arith, e) in
    (p, rw (h, here) at g, refl)
leads_given gives number o (c ∷ brought) q b p m h e g =
    (h.0, h.1, leads_given gives (number + 1) h.0 brought q b p m h.2 (omega (arith, e)) g)

-- where the outside is not ahead
pub leads_exactly : {O : Type 0} (gives : Giving O) (o : O) (brought : List Brought) (p : O)
    → LeadsTo gives None o brought p → Leads gives 0 o brought p
leads_exactly gives o brought p h = subst (λ x. Leads gives 0 o brought x) (sym h.2) h.1

-- where it may be ahead, it may also not be
pub leads_loose : {O : Type 0} (gives : Giving O) (c : Option Call) (o : O) (brought : List Brought) (p : O)
    → Leads gives 0 o brought p → LeadsTo gives c o brought p
leads_loose gives None o brought p h = (p, h, refl)
leads_loose gives (Some c) o brought p h = (p, h, inl refl)

pub length_last : (brought : List Brought) (b : Brought) → length (brought ++ b ∷ []) ≡ length brought + 1
length_last [] b = refl
length_last (c ∷ brought) b = omega (arith, length_last brought b)

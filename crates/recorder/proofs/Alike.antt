-- Outsides over the host that gave nothing.
use Rattle.std.proofs.Common.{◌≡◌, ℕ, List, replicate, refl, sym, subst}
use Rattle.std.specs.Prelude.{All, IfOk, Result, Ok, Err}
use Rattle.std.proofs.lemmas.List.Elements.{All-replicate}
use Rattle.host_doors.specs.declared.counts.Counts.{Counts}
use Rattle.recorder.specs.Each.{IsUnused}

pub all_unused : {E : Type 0} (threads : ℕ) (r : Result (List Counts) E)
    → IfOk r (λ hosts. hosts ≡ replicate threads (record { given = 0; failures = 0 }))
    → IfOk r (λ hosts. All (IsUnused (λ h. h.given) (λ h. h.failures)) hosts)
all_unused threads (Ok hosts) are =
    let none : Counts = record { given = 0; failures = 0 } in
    let P : Counts → Type 0 = IsUnused (λ (h : Counts). h.given) (λ (h : Counts). h.failures) in
    let is : P none = (refl, refl) in
    subst (λ (xs : List Counts). All P xs) (sym are) (All-replicate P threads none is)
all_unused threads (Err e) are = tt

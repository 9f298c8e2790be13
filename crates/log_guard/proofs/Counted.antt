-- What is given within is given by the guarded outside, and counted there.
use Rattle.std.proofs.Common.{◌≡◌, ◌+◌, ◌++◌, ◌∷◌, ℕ, List, [], ap, arith, inr, refl}
use Rattle.std.specs.Prelude.{All}
use Rattle.std.proofs.lemmas.List.Elements.{All-push}
use Rattle.posix_terms.specs.declared.outcome.Outcome.{Outcome}
use Rattle.posix_terms.specs.declared.outcome.Outcome.TheVariants as outcome
use Rattle.posix_terms.specs.declared.request.Request.{Request}
use Rattle.host_doors.specs.declared.counts.Counts.{Counts}
use Rattle.host_doors.specs.Counting.{failures_after}
use Rattle.host_doors.specs.Giving.{GivesOne}
use Rattle.log_guard.specs.Guarding.{Answers, Guarded, IsUnusedHost, Law, MayGive, counted_with, law_of}

more : (o : Outcome) (before after refused : ℕ) → after ≡ failures_after o before
    → after + refused ≡ failures_after o (before + refused)
more (outcome.Ok value bytes) before after refused is = omega (arith, is)
more (outcome.Fail error) before after refused is = omega (arith, is)

pub passed : {O F : Type 0} (given failures : O → ℕ) (gives : Law O) (may_answer : Answers F)
    (old : Guarded O F) (number : ℕ) (request : Request) (o : Outcome) (within : O)
    → GivesOne given failures gives old.within number request o within
    → GivesOne (counted_with given) (counted_with failures)
    (MayGive (law_of given failures gives) may_answer) old number request o
    (record old { within = within })
passed given failures gives may_answer old number request o within it = record {
  fits = it.fits;
  allowed = inr (it, refl);
  counted = omega (arith, it.counted);
  failed = more o (failures old.within) (failures within) old.refused it.failed;
}

pub one_more : {F : Type 0} (hosts : List (Guarded Counts F)) (host : Guarded Counts F)
    → All IsUnusedHost hosts → host.within ≡ record { given = 0; failures = 0 } → host.refused ≡ 0
    → All IsUnusedHost (hosts ++ host ∷ [])
one_more {F} hosts host all within refused =
    let is : IsUnusedHost host = (
      omega (arith, ap (λ (c : Counts). c.given) within, refused),
      omega (arith, ap (λ (c : Counts). c.failures) within, refused),
    ) in
    All-push IsUnusedHost hosts host all is

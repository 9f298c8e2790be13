-- Chains of refusals that gave something.
use Rattle.std.proofs.Common.{◌≡◌, Result, Ok, Err, ap, refl, sym}
use Rattle.std.proofs.lemmas.Bool.{true≢false}
use Rattle.std.specs.Prelude.{is_ok}
use Rattle.posix_terms.specs.declared.errno.Errno.{Errno}
use Rattle.sequential_object.specs.Refusals.{◌>>=◌}

abbrev out_of_ok : {A : Type 0} → A → Result A Errno → A
out_of_ok a (Ok x) = x
out_of_ok a (Err e) = a

pub same_ok : {A : Type 0} (a b : A) → (let r : Result A Errno = Ok a in r ≡ Ok b) → a ≡ b
same_ok a b h = ap (out_of_ok a) h

pub gave : {A B : Type 0} (r : Result A Errno) (f : A → Result B Errno) (b : B) → r >>= f ≡ Ok b → (a : A)
    × ((r ≡ Ok a) × (f a ≡ Ok b))
gave (Ok a) f b h = (a, (refl, h))
gave (Err e) f b h = absurd (true≢false (sym (ap is_ok h)))

-- A text of ASCII is UTF-8.
use Rattle.std.proofs.Common.{◌≡◌, ℕ, zero, suc, true, false, Bool, ◌&&◌, List, [], ◌∷◌, nat_lt, refl, arith}
use Rattle.std.specs.Prelude.{IsAscii, IsUtf8}
use Rattle.std.proofs.lemmas.Str.{IsUtf8-from_ascii}
use Rattle.thread_scripts.specs.Words.{is_ascii}

both : (a b : Bool) → (a && b) ≡ true → (a ≡ true) × (b ≡ true)
both true true same = (refl, refl)
both true false same = cc
both false b same = cc

small : (bytes : List ℕ) → is_ascii bytes ≡ true → IsAscii bytes
small [] all i = omega arith
small (b ∷ bytes) all zero = grind (arith, both (nat_lt b 128) (is_ascii bytes) all)
small (b ∷ bytes) all (suc i) = small bytes (both (nat_lt b 128) (is_ascii bytes) all).1 i

pub ascii_text : (bytes : List ℕ) → is_ascii bytes ≡ true → IsUtf8 bytes
ascii_text bytes all = IsUtf8-from_ascii bytes (small bytes all)

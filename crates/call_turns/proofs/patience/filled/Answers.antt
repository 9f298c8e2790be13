use Rattle.std.proofs.Common.{◌≡◌, ◌+◌, ◌-◌, ◌≤◌, ℕ, List, length, take, nat_le, Bool, true, false, refl, sym, ap, ◌∙◌}
use Rattle.std.proofs.Common.{arith, rules}
use Rattle.std.proofs.lemmas.Bool.Decides.{nat_tests}
use Rattle.std.proofs.lemmas.List.{take_all}
use Rattle.call_turns.proofs.patience.filled.Goals as goal

-- of so many bytes as there are and as there is room for
shortest : (bytes : List ℕ) (count room : ℕ) → count + (room - length bytes) ≡ room → take count bytes ≡ take room bytes
shortest bytes count room least = by_test (nat_le (length bytes) room) refl
  where
    by_test : (b : Bool) → nat_le (length bytes) room ≡ b → take count bytes ≡ take room bytes
    by_test true small =
        let all : length bytes ≤ room = grind (arith, nat_tests) in
        take_all count bytes (omega arith) ∙ sym (take_all room bytes all)
    by_test false large =
        let few : room ≤ length bytes = grind (arith, nat_tests) in
        let same : count ≡ room = omega arith in
        ap (λ (n : ℕ). take n bytes) same

pub returns : goal.returns
returns c =
    let least : c.len-count.result + (length c.args.room.now.items - length c.args.bytes.now)
    ≡ length c.args.room.now.items = search rules in
    c.from_vec.ensures ∙ c.copy_from_slice.ensures.items
    ∙ shortest c.args.bytes.now c.len-count.result (length c.args.room.now.items) least

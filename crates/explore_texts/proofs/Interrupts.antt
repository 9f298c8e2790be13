-- Where all expectations are good, they are looked at without their faults.
use Rattle.std.proofs.Common.{◌≡◌, ap, ℕ, ◌||◌, List, [], ◌∷◌, Ok, map, refl}
use Rattle.std.specs.List.{list_any}
use Rattle.expectations.specs.declared.expected.Expectation.{Expectation}
use Rattle.explore_texts.specs.Waits.{is_good_interrupt, is_interrupt}

pub good_interrupts : (line : ℕ) (expectations : List Expectation)
    → list_any (is_good_interrupt line) (map (λ e. Ok e) expectations)
    ≡ list_any (is_interrupt line) expectations
good_interrupts line [] = refl
good_interrupts line (expectation ∷ expectations) =
    ap (λ rest. is_interrupt line expectation || rest) (good_interrupts line expectations)

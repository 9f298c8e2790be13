-- Internal: no contract of the headline or of a command stands on it.
-- How a map of descriptions is stored in a value that holds it.
use Rattle.std.specs.Prelude.{ℕ, refl}
use Rattle.std.specs.Coded.{Coded, code_by, coded×, coded_ℕ}
use Rattle.std.specs.FinMap as map
use Rattle.std.specs.FinMap.{FinMap}
use Rattle.std.specs.Ordering.{nat_cmp}
use Rattle.file_descriptions.specs.Descriptions.{DescriptionMap}
use Rattle.file_descriptions.specs.contracts.description.Description as description
use Rattle.file_descriptions.specs.declared.description.Description.{Description}

-- as the pair of its fields
abbrev pub description_map_code : Coded DescriptionMap
description_map_code =
    code_by
    (FinMap nat_cmp Description × ℕ)
    (coded× (map.code coded_ℕ description.the_row.coded) coded_ℕ)
    (λ m. (m.by_key, m.made))
    (λ p. record { by_key = p.0; made = p.1 })
    (λ _. refl)

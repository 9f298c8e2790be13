-- Internal: no contract of the headline or of a command stands on it.
-- How the table is stored in a value that holds it.
use Rattle.std.specs.Prelude.{ℕ, List, Option, refl}
use Rattle.std.specs.Coded.{Coded, code_by, coded×, coded_list, coded_option, coded_ℕ}
use Rattle.sequential_object.specs.Names.{PathMap}
use Rattle.directories.specs.NameCode.{path_map_code}
use Rattle.file_descriptions.specs.DescriptionCode.{description_map_code}
use Rattle.file_descriptions.specs.Descriptions.{DescriptionMap}
use Rattle.descriptor_table.specs.Table.{TableState}

-- the slots of descriptors or of objects, each with a number or without
abbrev pub numbers_code : Coded (List (Option ℕ))
numbers_code = coded_list (coded_option coded_ℕ)

-- the table, as its fields in pairs
abbrev pub table_code : Coded TableState
table_code =
    code_by
    ((List (Option ℕ) × DescriptionMap) × (PathMap × (List (Option ℕ) × ℕ)))
    (coded× (coded× numbers_code description_map_code)
    (coded× path_map_code (coded× numbers_code coded_ℕ)))
    (λ t. ((t.descriptors, t.descriptions), (t.paths, (t.objects, t.made_objects))))
    (λ p. record {
      descriptors = p.0.0;
      descriptions = p.0.1;
      paths = p.1.0;
      objects = p.1.1.0;
      made_objects = p.1.1.1;
    })
    (λ _. refl)

-- Internal: no contract of the headline or of a command stands on it.
-- How the table with the bodies is stored in a value that holds it.
use Rattle.std.specs.Prelude.{ℕ, Bool, List, refl}
use Rattle.std.specs.Coded.{Coded, code_by, coded×, coded_bool, coded_list, coded_ℕ}
use Rattle.descriptor_table.specs.Table.{TableState}
use Rattle.descriptor_table.specs.TableCode.{table_code}
use Rattle.sequential_object.specs.Streams.{Half}
use Rattle.call_turns.specs.Bodies.{Kept}
use Rattle.call_turns.specs.Store.{Stored}

-- a socket, as the bytes that wait for it and what of it is shut
abbrev pub half_code : Coded Half
half_code =
    code_by
    (List ℕ × (Bool × Bool))
    (coded× (coded_list coded_ℕ) (coded× coded_bool coded_bool))
    (λ x. (x.waiting, (x.reading_shut, x.writing_shut)))
    (λ p. record { waiting = p.0; reading_shut = p.1.0; writing_shut = p.1.1 })
    (λ _. refl)

-- what is kept under one object number, as its file, its pipe and its two sockets
abbrev pub kept_code : Coded Kept
kept_code =
    code_by
    (List ℕ × (List ℕ × (Half × Half)))
    (coded× (coded_list coded_ℕ) (coded× (coded_list coded_ℕ) (coded× half_code half_code)))
    (λ k. (k.file, (k.pipe, (k.pair.side0, k.pair.side1))))
    (λ p. record { file = p.0; pipe = p.1.0; pair = record { side0 = p.1.1.0; side1 = p.1.1.1 } })
    (λ _. refl)

-- the table and the bodies, as a pair
abbrev pub stored_code : Coded Stored
stored_code =
    code_by
    (TableState × List Kept)
    (coded× table_code (coded_list kept_code))
    (λ h. (h.table, h.bodies))
    (λ p. record { table = p.0; bodies = p.1 })
    (λ _. refl)

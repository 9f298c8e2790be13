-- The list of a file's bytes, by position: what a read finds there, and what a write, a cut and an extension leave.
use Rattle.std.proofs.Common.{◌≡◌, ℕ, ◌+◌, ◌-◌, ◌<◌, ◌≤◌, List, [], ◌++◌, Option, length, get_or, take, drop, replicate}
use Rattle.std.proofs.Common.{refl, ap, sym, ◌∙◌, arith, inl, inr}
use Rattle.std.proofs.lemmas.List.{length-append, length-take, length-drop, length-replicate, get_or-take, get_or-drop}
use Rattle.std.proofs.lemmas.List.{get_or_append_left, get_or-append_right, get_or_past, get_or-replicate, take_all}
use Rattle.std.proofs.lemmas.List.{take_min, drop_all, take_at, ext_get_or, places}
use Rattle.std.proofs.Math.Seq.{take-nil}
use Rattle.std.proofs.lemmas.List.FromFn.{length-map-range_with_len, get_or-map-range_with_len}
use Rattle.std.proofs.lemmas.Bool.{cases_lt}
use Rattle.std.proofs.lemmas.Bool.Decides.{nat_tests}
use Rattle.std.specs.Prelude.{min, max, Ok, false, nat_eq, nat_le}
use Rattle.sequential_object.specs.Files.{bytes_at, overlaid, resized, written}
use Rattle.memory_files.specs.Pages.{byte_at, bytes_of, ZeroFrom}

pub length_bytes : (places : List (Option (List ℕ))) (size : ℕ) → length (bytes_of places size) ≡ size
length_bytes places size = length-map-range_with_len (byte_at places) 0 size

byte_of : (places : List (Option (List ℕ))) (size k : ℕ) → k < size
    → get_or (bytes_of places size) k 0 ≡ byte_at places k
byte_of places size k inside = get_or-map-range_with_len (byte_at places) 0 size k k 0 inside (omega arith)

-- past the end too, where bytes read as 0
byte_of_any : (places : List (Option (List ℕ))) (size k : ℕ) → ZeroFrom places size
    → get_or (bytes_of places size) k 0 ≡ byte_at places k
byte_of_any places size k blank =
    elim (cases_lt k size) [
      | inl inside ↦ byte_of places size k inside
      | inr past ↦
          let end : length (bytes_of places size) ≤ k = omega (arith, length_bytes places size) in
          get_or_past (bytes_of places size) k 0 end ∙ sym (blank k past)
    ]

padded : (file : List ℕ) (n k : ℕ) → get_or (file ++ replicate n 0) k 0 ≡ get_or file k 0
padded file n k =
    elim (cases_lt k (length file)) [
      | inl inside ↦ get_or_append_left file (replicate n 0) 0 k inside
      | inr past ↦
          get_or-append_right file (replicate n 0) (length file) k 0 refl past
          ∙ elim (cases_lt (k - length file) n) [
            | inl within ↦ get_or-replicate n (k - length file) 0 0 within
            | inr behind
                ↦ let end : length (replicate {A = ℕ} n 0) ≤ k - length file = rw (length-replicate {A = ℕ} n 0) behind
                in get_or_past (replicate n 0) (k - length file) 0 end
          ]
          ∙ sym (get_or_past file k 0 past)
    ]

pub length_read : (places : List (Option (List ℕ))) (size position count : ℕ)
    → length (bytes_at (bytes_of places size) position count) ≡ min count (size - position)
length_read places size position count =
    length-take count (drop position (bytes_of places size))
    ∙ ap (min count) (length-drop position (bytes_of places size) ∙ ap (λ n. n - position) (length_bytes places size))

pub read_past : (held : List (Option (List ℕ))) (size position count : ℕ) → size ≤ position
    → bytes_at (bytes_of held size) position count ≡ []
read_past held size position count past =
    let end : length (bytes_of held size) ≤ position = omega (arith, length_bytes held size) in
    rw (drop_all position (bytes_of held size) end) (take-nil count)

pub read_bytes : (places : List (Option (List ℕ))) (size position wanted count : ℕ) (read rest : List ℕ)
    → count ≡ min wanted (size - position) → length read ≡ count
    → ((k : ℕ) → k < length read → get_or read k 0 ≡ byte_at places (position + k))
    → take count (read ++ rest) ≡ bytes_at (bytes_of places size) position wanted
read_bytes places size position wanted count read rest is len each =
    rw (take_at read rest count len)
    (ext_get_or 0 read (bytes_at (bytes_of places size) position wanted)
    (len ∙ is ∙ sym (length_read places size position wanted))
    (λ k h.
    each k h
    ∙ sym (byte_of places size (position + k) (omega arith))
    ∙ sym (get_or-drop position (bytes_of places size) k 0)
    ∙ sym (get_or-take wanted (drop position (bytes_of places size)) k 0 (omega arith))))

length_resized : (file : List ℕ) (size : ℕ) → length (resized file size) ≡ size
length_resized file size = rw (length-append, length-take, length-replicate {A = ℕ} (size - length file) 0)
    (omega arith)

resized_at : (file : List ℕ) (size k : ℕ) → k < size → get_or (resized file size) k 0 ≡ get_or file k 0
resized_at file size k within =
    elim (cases_lt (length file) size) [
      | inl longer ↦ let all : take size file ≡ file = take_all size file (omega arith) in
          ap (λ xs. get_or (xs ++ replicate (size - length file) 0) k 0) all ∙ padded file (size - length file) k
      | inr shorter ↦
          let inside : k < length (take size file) = omega (arith, length-take size file) in
          get_or_append_left (take size file) (replicate (size - length file) 0) 0 k inside
          ∙ get_or-take size file k 0 within
    ]

pub resized_bytes : (old new : List (Option (List ℕ))) (before size : ℕ) → ZeroFrom old before
    → ((k : ℕ) → k < size → byte_at new k ≡ byte_at old k) → bytes_of new size ≡ resized (bytes_of old before) size
resized_bytes old new before size blank same =
    ext_get_or 0 (bytes_of new size) (resized (bytes_of old before) size) (length_bytes new size
    ∙ sym (length_resized (bytes_of old before) size))
    (λ k h.
    let within : k < size = omega (arith, length_bytes new size) in
    byte_of new size k within ∙ same k within ∙ sym (byte_of_any old before k blank)
    ∙ sym (resized_at (bytes_of old before) size k within))

length_overlaid : (file : List ℕ) (position : ℕ) (bytes : List ℕ)
    → length (overlaid file position bytes) ≡ max (length file) (position + length bytes)
length_overlaid file position bytes = grind (arith, places)

overlaid_front : (file : List ℕ) (position : ℕ) (bytes : List ℕ) (k : ℕ) → k < position
    → get_or (overlaid file position bytes) k 0 ≡ get_or (file ++ replicate (position - length file) 0) k 0
overlaid_front file position bytes k before = grind (arith, places)

overlaid_middle : (file : List ℕ) (position : ℕ) (bytes : List ℕ) (k : ℕ) → k < length bytes
    → get_or (overlaid file position bytes) (position + k) 0 ≡ get_or bytes k 0
overlaid_middle file position bytes k inside = grind (arith, places)

overlaid_end : (file : List ℕ) (position : ℕ) (bytes : List ℕ) (k : ℕ) → position + length bytes ≤ k
    → get_or (overlaid file position bytes) k 0 ≡ get_or file k 0
overlaid_end file position bytes k behind = grind (arith, places)

overlaid_bytes : (old new : List (Option (List ℕ))) (size position : ℕ) (bytes : List ℕ) → ZeroFrom old size
    → ((k : ℕ) → k < position → byte_at new k ≡ byte_at old k)
    → ((k : ℕ) → k < length bytes → byte_at new (position + k) ≡ get_or bytes k 0)
    → ((k : ℕ) → position + length bytes ≤ k → byte_at new k ≡ byte_at old k)
    → bytes_of new (max size (position + length bytes)) ≡ overlaid (bytes_of old size) position bytes
overlaid_bytes old new size position bytes blank before inside behind =
    let long = length_bytes new (max size (position + length bytes)) in
    ext_get_or 0 (bytes_of new (max size (position + length bytes))) (overlaid (bytes_of old size) position bytes)
    (long ∙ sym (length_overlaid (bytes_of old size) position bytes
    ∙ ap (λ n. max n (position + length bytes)) (length_bytes old size)))
    (λ k h. byte_of new (max size (position + length bytes)) k (omega arith) ∙ sym (
    elim (cases_lt k position) [
      | inl first ↦ overlaid_front (bytes_of old size) position bytes k first ∙ padded (bytes_of old size) _ k
          ∙ byte_of_any old size k blank ∙ sym (before k first)
      | inr rest ↦ elim (cases_lt k (position + length bytes)) [
        | inl middle ↦
            let there : position + (k - position) ≡ k = omega arith in
            rw there at (overlaid_middle (bytes_of old size) position bytes (k - position) (omega arith)
            ∙ sym (inside (k - position) (omega arith)))
        | inr last ↦ overlaid_end (bytes_of old size) position bytes k last ∙ byte_of_any old size k blank
            ∙ sym (behind k last)
      ]
    ]))

written_bytes : (file new : List ℕ) (position : ℕ) (bytes : List ℕ) (count : ℕ) → 0 < length bytes → position < 65536
    → count ≡ min (length bytes) (65536 - position) → new ≡ overlaid file position (take count bytes)
    → written file position bytes ≡ Ok (new, count)
written_bytes file new position bytes count some below is overlays =
    let not_none : nat_eq (length bytes) 0 ≡ false = grind (arith, nat_tests) in
    let not_full : nat_le 65536 position ≡ false = grind (arith, nat_tests) in
    let same : min (65536 - position) (length bytes) ≡ count = omega arith in
    let fitting : take (65536 - position) bytes ≡ take count bytes = sym (take_min (65536 - position) bytes)
    ∙ ap (λ n. take n bytes) same in
    let len : length (take count bytes) ≡ count = length-take count bytes ∙ omega arith in
    rw (not_none, not_full, fitting, overlays) (ap (λ n. Ok (overlaid file position (take count bytes), n)) len)

not_empty : (bytes : List ℕ) → false ≡ nat_eq (length bytes) 0 → 0 < length bytes
not_empty bytes is = grind (arith, nat_tests)

-- what a write of the bytes that fit leaves
pub written_over : (old new : List (Option (List ℕ))) (size ends position count : ℕ) (bytes : List ℕ)
    → ZeroFrom old size → false ≡ nat_eq (length bytes) 0 → position < 65536
    → count ≡ min (length bytes) (65536 - position)
    → ((k : ℕ) → k < position → byte_at new k ≡ byte_at old k)
    → ((k : ℕ) → k < length (take count bytes) → byte_at new (position + k) ≡ get_or (take count bytes) k 0)
    → ((k : ℕ) → position + length (take count bytes) ≤ k → byte_at new k ≡ byte_at old k)
    → ends ≡ max size (position + count)
    → written (bytes_of old size) position bytes ≡ Ok (bytes_of new ends, count)
written_over old new size ends position count bytes blank some below is before inside behind last =
    let len : length (take count bytes) ≡ count = length-take count bytes ∙ omega (arith, is) in
    let overlays = overlaid_bytes old new size position (take count bytes) blank before inside behind in
    let long : ends ≡ max size (position + length (take count bytes)) = last
    ∙ ap (λ n. max size (position + n)) (sym len) in
    written_bytes (bytes_of old size) (bytes_of new ends) position bytes count (not_empty bytes some) below is
    (ap (bytes_of new) long ∙ overlays)

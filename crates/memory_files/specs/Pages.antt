-- Internal: no contract of the headline or of a command stands on it.
-- How the bytes of a file stand in pages of 512 bytes. Each of
-- its 128 places names a page or is empty.
use Rattle.std.specs.Prelude.{ℕ, ◌≡◌, ◌≢◌, ◌⊎◌, ◌+◌, ◌*◌, ◌≤◌, ◌/◌, ◌%◌, ◌==◌, nat_lt, Bool, false}
use Rattle.std.specs.Prelude.{List, [], length, map, Option, None, Some, if◌then◌else◌, slice_index}
use Rattle.std.specs.Prelude.{slice_index_or}
use Rattle.std.specs.Option.{is_none}
use Rattle.std.specs.List.{All, count_by, range_with_len}

-- whether a place names this page
abbrev pub names : ℕ → Option ℕ → Bool
names page None = false
names page (Some named) = named == page

-- the bytes of the page that a place names
abbrev pub held : List (List ℕ) → Option ℕ → Option (List ℕ)
held pool None = None
held pool (Some page) = Some (slice_index_or pool page [])

-- the byte so far into what a place holds: an empty place reads as 0 bytes
abbrev pub byte_in : Option (List ℕ) → ℕ → ℕ
byte_in None offset = 0
byte_in (Some page) offset = slice_index page offset

-- the byte at a position, by the place where it lies
abbrev pub byte_at : List (Option (List ℕ)) → ℕ → ℕ
byte_at places position = byte_in (slice_index_or places (position / 512) None) (position % 512)

-- the bytes of a file of this size
abbrev pub bytes_of : List (Option (List ℕ)) → ℕ → List ℕ
bytes_of places size = map (byte_at places) (range_with_len 0 size)

-- each place that lies after this position is empty
abbrev pub EmptyBehind : List (Option (List ℕ)) → ℕ → Type 0
EmptyBehind places position = (place : ℕ) → position ≤ 512 * place
    → slice_index_or places place None ≡ None

-- each byte from this position on reads as 0
abbrev pub ZeroFrom : List (Option (List ℕ)) → ℕ → Type 0
ZeroFrom places start = (position : ℕ) → start ≤ position → byte_at places position ≡ 0

-- this place holds what it held before
abbrev pub SameAt : ℕ → List (Option (List ℕ)) → List (Option (List ℕ)) → Type 0
SameAt place old new = slice_index_or new place None ≡ slice_index_or old place None

-- no place but this one holds something else than before
abbrev pub SameBut : ℕ → List (Option (List ℕ)) → List (Option (List ℕ)) → Type 0
SameBut place old new = (other : ℕ) → other ≢ place → SameAt other old new

-- each place that has none of so many bytes from this position on holds what it held before
abbrev pub SameOutside : ℕ → ℕ → List (Option (List ℕ)) → List (Option (List ℕ)) → Type 0
SameOutside position count old new =
    (place : ℕ) → (512 * place + 512 ≤ position) ⊎ (position + count ≤ 512 * place)
    → SameAt place old new

-- the pool has at most 128 pages of 512 bytes. Each stands once among what places name and the
-- free ones, and no other page does; so there are as many pages as are free and as places name
pub record ArePages (pool : List (List ℕ)) (places : List (Option ℕ)) (free : List ℕ) : Type 0 where
  pub pool_len : length pool ≤ 128
  pub page_len : All (λ page. length page ≡ 512) pool
  pub places_len : length places ≡ 128
  pub once :
      (page : ℕ) → count_by (λ other. other == page) free + count_by (names page) places
      ≡ (if nat_lt page (length pool) then 1 else 0)
  pub as_many : length pool + count_by is_none places ≡ length free + length places

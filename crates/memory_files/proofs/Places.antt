-- What a page that changes, is taken or is given back leaves of the pool, and of what the places hold.
use Rattle.std.proofs.Common.{◌≡◌, ◌≢◌, ℕ, ◌+◌, ◌/◌, ◌%◌, ◌<◌, ◌≤◌, List, [], ◌∷◌, ◌++◌, Bool, true, false, cond}
use Rattle.std.proofs.Common.{Option, None, Some, length, map, get_or, set, take, drop, replicate, refl, ap, sym, ◌∙◌}
use Rattle.std.proofs.Common.{subst, nat_eq, nat_lt, arith, inl, inr, eq-eqb, rules}
use Rattle.std.proofs.Math.ListN.{get_or-map}
use Rattle.std.proofs.Math.Seq.{get_or-append_seam}
use Rattle.std.proofs.lemmas.List.{length-set, length_push, get_or-set_same, get_or-set_other, get_or_past, get_or_read}
use Rattle.std.proofs.lemmas.List.{get_or-replicate, get_or_append_left, length-replicate, places}
use Rattle.std.proofs.lemmas.List.Sums.{sum_by-set, sum_by_push, get_or-le-sum_by, count_by-le-length}
use Rattle.std.proofs.lemmas.List.Elements.{All-append, All-set}
use Rattle.std.proofs.lemmas.Bool.{cases_lt, cases_eq}
use borrow.Rule.Slice.PartMut.{put_mid, mid_of}
use Rattle.std.proofs.lemmas.Bool.Decides.{nat_tests}
use Rattle.std.specs.List.{All, count_by}
use Rattle.std.specs.Option.{is_none, is_some, option_to_list}
use Rattle.memory_files.specs.Pages.{names, held, byte_in, byte_at, SameBut, ArePages}

held_at : (pool : List (List ℕ)) (places : List (Option ℕ)) (place : ℕ)
    → get_or (map (held pool) places) place None ≡ held pool (get_or places place None)
held_at pool places place = get_or-map (held pool) places place None

-- a place that names a page is one of the places
within_places : (places : List (Option ℕ)) (place page : ℕ) → get_or places place None ≡ Some page
    → place < length places
within_places places place page named =
    elim (cases_lt place (length places))
    [ inl h ↦ h | inr h ↦ let e : get_or places place None ≡ None = get_or_past places place None h in cc ]

count_set : {X : Type 0} (p : X → Bool) (xs : List X) (i : ℕ) (y d : X) → i < length xs
    → count_by p (set xs i y) + cond (p (get_or xs i d)) 1 0 ≡ count_by p xs + cond (p y) 1 0
count_set p xs i y d h = sum_by-set (λ x. cond (p x) 1 0) xs i y d h

count_push : {X : Type 0} (p : X → Bool) (xs : List X) (y : X)
    → count_by p (xs ++ y ∷ []) ≡ count_by p xs + cond (p y) 1 0
count_push p xs y = sum_by_push (λ x. cond (p x) 1 0) xs y

names_itself : (page : ℕ) → names page (Some page) ≡ true
names_itself page = eq-eqb page page refl

named_counts : (places : List (Option ℕ)) (place page : ℕ) → get_or places place None ≡ Some page
    → 1 ≤ count_by (names page) places
named_counts places place page named =
    let least = get_or-le-sum_by (λ (x : Option ℕ). cond (names page x) 1 0) places place None
    (within_places places place page named) in
    let least' = rw named at least in
    rw (names_itself page) at least'

once_in_pool : (a b page size : ℕ) → a + b ≡ cond (nat_lt page size) 1 0 → 1 ≤ a + b → page < size
once_in_pool a b page size once least = grind (arith, nat_tests)

at_most_once : (a b page size : ℕ) → a + b ≡ cond (nat_lt page size) 1 0 → a + b ≤ 1
at_most_once a b page size once = grind (arith, nat_tests)

-- a page that a place names is in the pool
pub in_pool : {pool : List (List ℕ)} {places : List (Option ℕ)} {free : List ℕ} → ArePages pool places free
    → (place page : ℕ) → get_or places place None ≡ Some page → page < length pool
in_pool {pool} {places} {free} pages place page named =
    let least = named_counts places place page named in
    once_in_pool _ _ page (length pool) (pages.once page) (omega arith)

-- no other place names it
named_once : {pool : List (List ℕ)} {places : List (Option ℕ)} {free : List ℕ} → ArePages pool places free
    → (place page other : ℕ) → get_or places place None ≡ Some page → other ≢ place
    → get_or places other None ≢ Some page
named_once {pool} {places} {free} pages place page other named apart same =
    let less = rw (named, names_itself page) at
    (count_set (names page) places place None None (within_places places place page named)) in
    let still : get_or (set places place None) other None ≡ Some page =
    get_or-set_other places place other None None apart ∙ same in
    let least = named_counts (set places place None) other page still in
    let most = at_most_once _ _ page (length pool) (pages.once page) in
    omega arith

free_counts : (free rest : List ℕ) (page : ℕ) → free ≡ rest ++ page ∷ []
    → count_by (λ other. nat_eq other page) free ≡ count_by (λ other. nat_eq other page) rest + 1
free_counts free rest page is = rw (is, count_push (λ (other : ℕ). nat_eq other page) rest page, eq-eqb page page refl)
    refl

-- a free page is in the pool
pub free_in_pool : {pool : List (List ℕ)} {places : List (Option ℕ)} {free : List ℕ} → ArePages pool places free
    → (rest : List ℕ) (page : ℕ) → free ≡ rest ++ page ∷ [] → page < length pool
free_in_pool {pool} {places} {free} pages rest page is =
    let more = free_counts free rest page is in
    once_in_pool _ _ page (length pool) (pages.once page) (omega arith)

-- no place names it
free_unnamed : {pool : List (List ℕ)} {places : List (Option ℕ)} {free : List ℕ} → ArePages pool places free
    → (rest : List ℕ) (page other : ℕ) → free ≡ rest ++ page ∷ [] → get_or places other None ≢ Some page
free_unnamed {pool} {places} {free} pages rest page other is same =
    let more = free_counts free rest page is in
    let least = named_counts places other page same in
    let most = at_most_once _ _ page (length pool) (pages.once page) in
    omega arith

held_other : (pool : List (List ℕ)) (page : ℕ) (bytes : List ℕ) (place : Option ℕ) → place ≢ Some page
    → held (set pool page bytes) place ≡ held pool place
held_other pool page bytes None apart = refl
held_other pool page bytes (Some other) apart =
    ap Some (get_or-set_other pool page other bytes [] (λ e. apart (ap Some e)))

-- the bytes of a page change
pub written : {pool : List (List ℕ)} {places : List (Option ℕ)} {free : List ℕ} → ArePages pool places free
    → (page : ℕ) (bytes : List ℕ) → length bytes ≡ 512 → ArePages (set pool page bytes) places free
written {pool} {places} {free} pages page bytes full = record {
  pool_len = rw length-set pages.pool_len;
  page_len = All-set (λ (x : List ℕ). length x ≡ 512) pool page bytes full pages.page_len;
  places_len = pages.places_len;
  once = λ other. rw length-set (pages.once other);
  as_many = rw length-set pages.as_many;
}

pub written_at : {pool : List (List ℕ)} {places : List (Option ℕ)} {free : List ℕ} → ArePages pool places free
    → (place page : ℕ) (bytes : List ℕ) → get_or places place None ≡ Some page
    → get_or (map (held (set pool page bytes)) places) place None ≡ Some bytes
written_at {pool} {places} {free} pages place page bytes named =
    let there = in_pool pages place page named in
    held_at (set pool page bytes) places place ∙ ap (held (set pool page bytes)) named
    ∙ ap Some (get_or-set_same pool page bytes [] there)

pub written_others : {pool : List (List ℕ)} {places : List (Option ℕ)} {free : List ℕ} → ArePages pool places free
    → (place page : ℕ) (bytes : List ℕ) → get_or places place None ≡ Some page
    → SameBut place (map (held pool) places) (map (held (set pool page bytes)) places)
written_others {pool} {places} {free} pages place page bytes named other apart =
    held_at (set pool page bytes) places other
    ∙ held_other pool page bytes (get_or places other None) (named_once pages place page other named apart)
    ∙ sym (held_at pool places other)

-- an empty place names the free page that is taken
pub taken : {pool : List (List ℕ)} {places : List (Option ℕ)} {free : List ℕ} → ArePages pool places free
    → (rest : List ℕ) (place page : ℕ) → free ≡ rest ++ page ∷ [] → place < 128 → get_or places place None ≡ None
    → ArePages pool (set places place (Some page)) rest
taken {pool} {places} {free} pages rest place page is there empty = record {
  pool_len = pages.pool_len;
  page_len = pages.page_len;
  places_len = length-set places place (Some page) ∙ pages.places_len;
  once = λ other.
      let within : place < length places = rw pages.places_len there in
      let named = rw empty at (count_set (names other) places place (Some page) None within) in
      let fewer : count_by (λ (x : ℕ). nat_eq x other) free
      ≡ count_by (λ (x : ℕ). nat_eq x other) rest + cond (nat_eq page other) 1 0 =
      rw is (count_push (λ (x : ℕ). nat_eq x other) rest page) in
      let before = pages.once other in
      omega arith;
  as_many =
      let within : place < length places = rw pages.places_len there in
      let named = rw empty at (count_set is_none places place (Some page) None within) in
      let fewer : length free ≡ length rest + 1 = rw is (length_push rest page) in
      let before = pages.as_many in
      let len = length-set places place (Some page) in
      omega arith;
}

pub taken_at : (pool : List (List ℕ)) (places : List (Option ℕ)) (place page : ℕ) (bytes : List ℕ)
    → place < length places → page < length pool
    → get_or (map (held (set pool page bytes)) (set places place (Some page))) place None ≡ Some bytes
taken_at pool places place page bytes there in_pool =
    held_at (set pool page bytes) (set places place (Some page)) place
    ∙ ap (held (set pool page bytes)) (get_or-set_same places place (Some page) None there)
    ∙ ap Some (get_or-set_same pool page bytes [] in_pool)

pub taken_others : {pool : List (List ℕ)} {places : List (Option ℕ)} {free : List ℕ} → ArePages pool places free
    → (rest : List ℕ) (place page : ℕ) (bytes : List ℕ) → free ≡ rest ++ page ∷ []
    → SameBut place (map (held pool) places) (map (held (set pool page bytes)) (set places place (Some page)))
taken_others {pool} {places} {free} pages rest place page bytes is other apart =
    held_at (set pool page bytes) (set places place (Some page)) other
    ∙ ap (held (set pool page bytes)) (get_or-set_other places place other (Some page) None apart)
    ∙ held_other pool page bytes (get_or places other None) (free_unnamed pages rest page other is)
    ∙ sym (held_at pool places other)

-- the last page of a pool that one page joined
joined : {X : Type 0} (xs : List X) (x d : X) → get_or (xs ++ x ∷ []) (length xs) d ≡ x
joined xs x d = get_or-append_seam xs x [] d

-- where a place is empty and no page is free, there is room for a page
pub some_room : {pool : List (List ℕ)} {places : List (Option ℕ)} {free : List ℕ}
    → ArePages pool places free
    → (place : ℕ) → place < 128 → get_or places place None ≡ None → length free ≡ 0
    → length pool < 128
some_room {pool} {places} {free} pages place there empty no_free =
    let within : place < length places = rw pages.places_len there in
    let one : Option ℕ → ℕ = λ x. cond (is_none x) 1 0 in
    let least = rw empty at (get_or-le-sum_by one places place None within) in
    let same = pages.as_many in
    let all = pages.places_len in
    omega arith

one_more : (page other n : ℕ) → n ≡ cond (nat_lt other page) 1 0
    → n + cond (nat_eq page other) 1 0 ≡ cond (nat_lt other (page + 1)) 1 0
one_more page other n is = grind (arith, nat_tests)

abbrev IsWhole : List ℕ → Type 0
IsWhole page = length page ≡ 512

one_page : (bytes : List ℕ) → length bytes ≡ 512 → All IsWhole (bytes ∷ [])
one_page bytes full = search rules

-- an empty place names a page that joins the pool, since none is free
pub grown : {pool : List (List ℕ)} {places : List (Option ℕ)} {free : List ℕ}
    → ArePages pool places free
    → (place : ℕ) (bytes : List ℕ) → length bytes ≡ 512 → place < 128
    → get_or places place None ≡ None → length free ≡ 0
    → ArePages (pool ++ bytes ∷ []) (set places place (Some (length pool))) free
grown {pool} {places} {free} pages place bytes full there empty no_free = record {
  pool_len = rw length_push (omega (arith, some_room pages place there empty no_free));
  page_len = All-append IsWhole pool (bytes ∷ []) pages.page_len (one_page bytes full);
  places_len = length-set places place (Some (length pool)) ∙ pages.places_len;
  once = λ other.
      let within : place < length places = rw pages.places_len there in
      let counted = count_set (names other) places place (Some (length pool)) None within in
      let named = rw empty at counted in
      let more = one_more (length pool) other _ (pages.once other) in
      rw length_push (omega arith);
  as_many =
      let within : place < length places = rw pages.places_len there in
      let named = rw empty at (count_set is_none places place (Some (length pool)) None within) in
      let before = pages.as_many in
      let len = length-set places place (Some (length pool)) in
      rw length_push (omega arith);
}

pub grown_at : (pool : List (List ℕ)) (places : List (Option ℕ)) (place : ℕ) (bytes : List ℕ)
    → place < length places
    → get_or (map (held (pool ++ bytes ∷ [])) (set places place (Some (length pool)))) place None
    ≡ Some bytes
grown_at pool places place bytes there =
    held_at (pool ++ bytes ∷ []) (set places place (Some (length pool))) place
    ∙ ap (held (pool ++ bytes ∷ [])) (get_or-set_same places place (Some (length pool)) None there)
    ∙ ap Some (joined pool bytes [])

held_grown : (pool : List (List ℕ)) (bytes : List ℕ) (place : Option ℕ)
    → ((page : ℕ) → place ≡ Some page → page < length pool)
    → held (pool ++ bytes ∷ []) place ≡ held pool place
held_grown pool bytes None within = refl
held_grown pool bytes (Some page) within =
    ap Some (get_or_append_left pool (bytes ∷ []) [] page (within page refl))

pub grown_others : {pool : List (List ℕ)} {places : List (Option ℕ)} {free : List ℕ}
    → ArePages pool places free
    → (place : ℕ) (bytes : List ℕ)
    → SameBut place (map (held pool) places)
    (map (held (pool ++ bytes ∷ [])) (set places place (Some (length pool))))
grown_others {pool} {places} {free} pages place bytes other apart =
    held_at (pool ++ bytes ∷ []) (set places place (Some (length pool))) other
    ∙ ap (held (pool ++ bytes ∷ []))
    (get_or-set_other places place other (Some (length pool)) None apart)
    ∙ held_grown pool bytes (get_or places other None) (λ page. in_pool pages other page)
    ∙ sym (held_at pool places other)

-- a place is emptied, and its page is free
pub given : {pool : List (List ℕ)} {places : List (Option ℕ)} {free : List ℕ} → ArePages pool places free
    → (place page : ℕ) → get_or places place None ≡ Some page
    → ArePages pool (set places place None) (free ++ page ∷ [])
given {pool} {places} {free} pages place page was = record {
  pool_len = pages.pool_len;
  page_len = pages.page_len;
  places_len = length-set places place None ∙ pages.places_len;
  once = λ other.
      let named = rw was at (count_set (names other) places place None None (within_places places place page was)) in
      let more = count_push (λ (x : ℕ). nat_eq x other) free page in
      let before = pages.once other in
      omega arith;
  as_many =
      let named = rw was at (count_set is_none places place None None (within_places places place page was)) in
      let more = length_push free page in
      let before = pages.as_many in
      let len = length-set places place None in
      omega arith;
}

pub given_at : (pool : List (List ℕ)) (places : List (Option ℕ)) (place : ℕ)
    → get_or (map (held pool) (set places place None)) place None ≡ None
given_at pool places place =
    held_at pool (set places place None) place
    ∙ elim (cases_lt place (length places)) as (λ _. held pool (get_or (set places place None) place None) ≡ None) [
      | inl h ↦ ap (held pool) (get_or-set_same places place None None h)
      | inr h ↦ let past : length (set places place None) ≤ place = rw length-set h in
          ap (held pool) (get_or_past (set places place None) place None past)
    ]

pub given_others : (pool : List (List ℕ)) (places : List (Option ℕ)) (place : ℕ)
    → SameBut place (map (held pool) places) (map (held pool) (set places place None))
given_others pool places place other apart =
    held_at pool (set places place None) other
    ∙ ap (held pool) (get_or-set_other places place other None None apart)
    ∙ sym (held_at pool places other)

-- more free pages than empty places there are not
pub room : {pool : List (List ℕ)} {places : List (Option ℕ)} {free : List ℕ} → ArePages pool places free
    → (place page : ℕ) → get_or places place None ≡ Some page → length free < 128
room {pool} {places} {free} pages place page named =
    let within = within_places places place page named in
    let fewer = rw named at (count_set is_none places place None None within) in
    let most = count_by-le-length is_none (set places place None) in
    let len = length-set places place None in
    let all = pages.places_len in
    let same = pages.as_many in
    let few = pages.pool_len in
    omega arith

-- bytes of places that did not change, and of one that names a page or is empty
pub byte_same : (old new : List (Option (List ℕ))) (place : ℕ) → SameBut place old new → (position : ℕ)
    → position / 512 ≢ place → byte_at new position ≡ byte_at old position
byte_same old new place same position apart = ap (λ held. byte_in held (position % 512)) (same (position / 512) apart)

pub byte_there : (places : List (Option (List ℕ))) (place : ℕ) (page : List ℕ) → get_or places place None ≡ Some page
    → (position : ℕ) → position / 512 ≡ place → byte_at places position ≡ get_or page (position % 512) 0
byte_there places place page is position at = ap (λ place'. byte_in (get_or places place' None) (position % 512)) at
    ∙ ap (λ held. byte_in held (position % 512)) is

pub byte_empty : (places : List (Option (List ℕ))) (place : ℕ) → get_or places place None ≡ None → (position : ℕ)
    → position / 512 ≡ place → byte_at places position ≡ 0
byte_empty places place is position at = ap (λ place'. byte_in (get_or places place' None) (position % 512)) at
    ∙ ap (λ held. byte_in held (position % 512)) is

-- what was read at an index is what the place names
pub read_place : (places : List (Option ℕ)) (place : ℕ) (read at : Option ℕ) → place < length places
    → read ≡ get_or places place read → read ≡ at → get_or places place None ≡ at
read_place places place read at there is same = sym (get_or_read places place read there is None) ∙ same

-- a list of which a part is overwritten, by index
in_front : (xs ys : List ℕ) (at size k : ℕ) → k < at → at ≤ length xs
    → get_or (put_mid at size xs ys) k 0 ≡ get_or xs k 0
in_front xs ys at size k before within = grind (arith, places)

in_middle : (xs ys : List ℕ) (at size k : ℕ) → k < length ys → at ≤ length xs
    → get_or (put_mid at size xs ys) (at + k) 0 ≡ get_or ys k 0
in_middle xs ys at size k inside within = grind (arith, places)

behind_middle : (xs ys : List ℕ) (at size k : ℕ) → size ≡ length ys → at + size ≤ k → at ≤ length xs
    → get_or (put_mid at size xs ys) k 0 ≡ get_or xs k 0
behind_middle xs ys at size k is behind within = grind (arith, places)

length_put_mid : (xs ys : List ℕ) (at size : ℕ) → size ≡ length ys → at + size ≤ length xs
    → length (put_mid at size xs ys) ≡ length xs
length_put_mid xs ys at size is within = grind (arith, places)

-- a part that is filled is as long as it was
pub filled : (xs ys : List ℕ) (at size : ℕ) → at + size ≤ length xs → length ys ≡ length (mid_of at size xs)
    → size ≡ length ys
filled xs ys at size within is = grind (arith, places)

pub zeros : (xs : List ℕ) (n k : ℕ) → xs ≡ replicate n 0 → get_or xs k 0 ≡ 0
zeros xs n k is =
    ap (λ ys. get_or ys k 0) is
    ∙ elim (cases_lt k n) [
      | inl h ↦ get_or-replicate n k 0 0 h
      | inr h ↦ let past : length (replicate {A = ℕ} n 0) ≤ k = rw (length-replicate {A = ℕ} n 0) h in
          get_or_past (replicate n 0) k 0 past
    ]

-- each page that is read has 512 bytes
pub page_full : {pool : List (List ℕ)} {places : List (Option ℕ)} {free : List ℕ} → ArePages pool places free
    → (page : ℕ) (bytes : List ℕ) → page < length pool → bytes ≡ get_or pool page bytes → length bytes ≡ 512
page_full {pool} {places} {free} pages page bytes there read =
    let bytes_are : bytes ≡ get_or pool page [] = get_or_read pool page bytes there read [] in
    rw bytes_are (pages.page_len page [] there)

-- bytes that are as before in the page of this place, or lie elsewhere
unchanged : (old new : List (Option (List ℕ))) (place : ℕ) (before after : List ℕ) → get_or old place None ≡ Some before
    → get_or new place None ≡ Some after → SameBut place old new → (position : ℕ)
    → (position / 512 ≡ place → get_or after (position % 512) 0 ≡ get_or before (position % 512) 0)
    → byte_at new position ≡ byte_at old position
unchanged old new place before after was is others position same =
    elim (cases_eq (position / 512) place) [
      | inl here ↦ byte_there new place after is position here ∙ same here
          ∙ sym (byte_there old place before was position here)
      | inr elsewhere ↦ byte_same old new place others position elsewhere
    ]

-- what a piece that is laid into the page of a place leaves
pub record Patched (pool patched : List (List ℕ)) (places : List (Option ℕ)) (free : List ℕ) (start : ℕ)
    (piece : List ℕ) : Type 0 where
  pub pages : ArePages patched places free
  pub before : (k : ℕ) → k < start → byte_at (map (held patched) places) k ≡ byte_at (map (held pool) places) k
  pub bytes : (k : ℕ) → k < length piece → byte_at (map (held patched) places) (start + k) ≡ get_or piece k 0
  pub behind : (k : ℕ) → start + length piece ≤ k
      → byte_at (map (held patched) places) k ≡ byte_at (map (held pool) places) k
  pub others : SameBut (start / 512) (map (held pool) places) (map (held patched) places)

pub patched : {pool : List (List ℕ)} {places : List (Option ℕ)} {free : List ℕ} → ArePages pool places free
    → (start place offset page size : ℕ) (bytes piece : List ℕ) → place ≡ start / 512 → offset ≡ start % 512
    → get_or places place None ≡ Some page → bytes ≡ get_or pool page bytes → size ≡ length piece → offset + size ≤ 512
    → Patched pool (set pool page (put_mid offset size bytes piece)) places free start piece
patched {pool} {places} {free} pages start place offset page size bytes piece at into named read is within =
    let there = in_pool pages place page named in
    let bytes_are : bytes ≡ get_or pool page [] = get_or_read pool page bytes there read [] in
    let full : length bytes ≡ 512 = rw bytes_are (pages.page_len page [] there) in
    let after = put_mid offset size bytes piece in
    let long : length after ≡ 512 = length_put_mid bytes piece offset size is (omega arith) ∙ full in
    let old = map (held pool) places in
    let new = map (held (set pool page after)) places in
    let was : get_or old place None ≡ Some bytes = held_at pool places place ∙ ap (held pool) named
    ∙ ap Some (sym bytes_are) in
    let now : get_or new place None ≡ Some after = written_at pages place page after named in
    let others = written_others pages place page after named in
    record {
      pages = written pages page after long;
      before = λ k h. unchanged old new place bytes after was now others k
          (λ here. in_front bytes piece offset size (k % 512) (omega arith) (omega arith));
      bytes = λ k h.
          byte_there new place after now (start + k) (omega arith)
          ∙ ap (λ i. get_or after i 0) (let e : (start + k) % 512 ≡ offset + k = omega arith in e)
          ∙ in_middle bytes piece offset size k h (omega arith);
      behind = λ k h. unchanged old new place bytes after was now others k
          (λ here. behind_middle bytes piece offset size (k % 512) is (omega arith) (omega arith));
      others = subst (λ p. SameBut p old new) at others;
    }

-- an empty place that has a page of zeros shows the same bytes
pub cleared : (old new : List (Option (List ℕ))) (place : ℕ) (page : List ℕ) → get_or old place None ≡ None
    → get_or new place None ≡ Some page → ((k : ℕ) → get_or page k 0 ≡ 0) → SameBut place old new → (position : ℕ)
    → byte_at new position ≡ byte_at old position
cleared old new place page was is blank others position =
    elim (cases_eq (position / 512) place) [
      | inl here ↦ byte_there new place page is position here ∙ blank (position % 512)
          ∙ sym (byte_empty old place was position here)
      | inr elsewhere ↦ byte_same old new place others position elsewhere
    ]

pub not_some : (place : Option ℕ) → false ≡ is_some place → place ≡ None
not_some None is = refl
not_some (Some page) is = cc

pub last_of : (free rest : List ℕ) (popped : Option ℕ) (page : ℕ) → free ≡ rest ++ option_to_list popped
    → popped ≡ Some page → free ≡ rest ++ page ∷ []
last_of free rest popped page is some = rw some at is

pub empty_at : (pool : List (List ℕ)) (places : List (Option ℕ)) (place : ℕ) → get_or places place None ≡ None
    → get_or (map (held pool) places) place None ≡ None
empty_at pool places place empty = held_at pool places place ∙ ap (held pool) empty

held_some : (pool : List (List ℕ)) (place : Option ℕ) → is_some (held pool place) ≡ true → is_some place ≡ true
held_some pool None is = is
held_some pool (Some page) is = refl

-- where a place shows bytes, it names a page
pub some_read : (pool : List (List ℕ)) (places : List (Option ℕ)) (place : ℕ) (read : Option ℕ) → place < length places
    → read ≡ get_or places place read → is_some (get_or (map (held pool) places) place None) ≡ true
    → is_some read ≡ true
some_read pool places place read there is some =
    let held_there : is_some (held pool (get_or places place None)) ≡ true = rw held_at at some in
    let there' = held_some pool (get_or places place None) held_there in
    rw (get_or_read places place read there is None) there'

-- a byte of a page that a place names, and of an empty place, so far after a position
pub read_named : (pool : List (List ℕ)) (places : List (Option ℕ)) (start place offset page : ℕ) (bytes : List ℕ)
    (k : ℕ) → place ≡ start / 512 → offset ≡ start % 512 → get_or places place None ≡ Some page → page < length pool
    → bytes ≡ get_or pool page bytes → offset + k < 512
    → byte_at (map (held pool) places) (start + k) ≡ get_or bytes (offset + k) 0
read_named pool places start place offset page bytes k at into named there read within =
    let bytes_are : bytes ≡ get_or pool page [] = get_or_read pool page bytes there read [] in
    let shown : get_or (map (held pool) places) place None ≡ Some bytes = held_at pool places place
    ∙ ap (held pool) named ∙ ap Some (sym bytes_are) in
    byte_there (map (held pool) places) place bytes shown (start + k) (omega arith)
    ∙ ap (λ i. get_or bytes i 0) (let e : (start + k) % 512 ≡ offset + k = omega arith in e)

pub read_empty : (pool : List (List ℕ)) (places : List (Option ℕ)) (start place offset k : ℕ) → place ≡ start / 512
    → offset ≡ start % 512 → get_or places place None ≡ None → offset + k < 512
    → byte_at (map (held pool) places) (start + k) ≡ 0
read_empty pool places start place offset k at into empty within =
    byte_empty (map (held pool) places) place (empty_at pool places place empty) (start + k) (omega arith)

pub in_mid : (xs : List ℕ) (at size k : ℕ) → k < size → get_or (mid_of at size xs) k 0 ≡ get_or xs (at + k) 0
in_mid xs at size k inside = grind (arith, places)

-- the head of a list, after a piece that is as long as it was copied there
pub in_head : (piece into : List ℕ) (count k : ℕ) → length piece ≡ length (take count into) → count ≤ length into
    → k < count → get_or (piece ++ drop count into) k 0 ≡ get_or piece k 0
in_head piece into count k same within inside = grind (arith, places)

pub none_at : (places : List (Option ℕ)) (n place : ℕ) → places ≡ replicate n None → get_or places place None ≡ None
none_at places n place is =
    ap (λ xs. get_or xs place None) is
    ∙ elim (cases_lt place n) [
      | inl h ↦ get_or-replicate n place None None h
      | inr h
          ↦ let past : length (replicate {A = Option ℕ} n None) ≤ place = rw (length-replicate {A = Option ℕ} n None) h
          in get_or_past (replicate n None) place None past
    ]

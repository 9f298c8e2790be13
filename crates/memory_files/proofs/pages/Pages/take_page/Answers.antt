use Rattle.std.proofs.Common.{◌≡◌, ℕ, ◌<◌, [], ◌∷◌, ◌++◌, length, map, None, Some, get_or, set, replicate, arith, ◌∙◌}
use Rattle.std.proofs.Common.{refl, sym}
use Rattle.std.proofs.lemmas.List.{append-nil, length-replicate}
use Rattle.memory_files.specs.Pages.{held, SameBut}
use Rattle.memory_files.proofs.Places.{read_place, free_in_pool, page_full, written, taken, taken_at, taken_others}
use Rattle.memory_files.proofs.Places.{grown, grown_at, grown_others, some_room, cleared, zeros, not_some, last_of}
use Rattle.memory_files.proofs.Places.{empty_at}
use Rattle.memory_files.proofs.pages.Pages.take_page.Goals as goal

pub index_mut-requires : goal.index_mut-requires
index_mut-requires c =
    let last = last_of _ _ _ _ c.pop.ensures.items c.in-Some.is in
    omega (arith, free_in_pool c.self.invariant.0 _ _ last)

pub push_reserved-requires : goal.push_reserved-requires
push_reserved-requires c =
    let there : c.args.place < length c.self.inside.places.items = omega (arith, c.self.invariant.0.places_len) in
    let empty = read_place _ _ _ _ there c.index.ensures (not_some _ c.if-is_some.ensures) in
    let no_free : length c.self.inside.free.items ≡ 0 = omega (arith, c.in-None.ensures.cases) in
    omega (arith, some_room c.self.invariant.0 c.args.place c.requires.within empty no_free, c.self.invariant.1)

-- ## A free page is cleared

empty : (c : goal.After-self-in-Some-1) → get_or c.self.inside.places.items c.args.place None ≡ None
empty c =
    let there : c.args.place < length c.self.inside.places.items = omega (arith, c.self.invariant.0.places_len) in
    read_place _ _ _ _ there c.index.ensures (not_some _ c.if-is_some.ensures)

last : (c : goal.After-self-in-Some-1) → c.self.inside.free.items ≡ c.pop.new.self.items ++ c.in-Some.page ∷ []
last c = last_of _ _ _ _ c.pop.ensures.items c.in-Some.is

pub invariant_of-self : goal.invariant_of-self
invariant_of-self c =
    let full : length c.index_mut.result.now ≡ 512 = page_full c.self.invariant.0 c.in-Some.page c.index_mut.result.now
    (free_in_pool c.self.invariant.0 _ _ (last c)) c.index_mut.ensures.value in
    let long : length c.fill.new.self ≡ 512 = c.fill.ensures.len ∙ full in (
      written (taken c.self.invariant.0 c.pop.new.self.items c.args.place c.in-Some.page (last c) c.requires.within
          (empty c)) c.in-Some.page c.fill.new.self long,
      c.self.invariant.1,
      omega
          (arith, c.pop.ensures.capacity, c.self.invariant.2),
    )

now_there : (c : goal.After-self-in-Some-1)
    → get_or (map (held (set c.self.inside.pool.items c.in-Some.page c.fill.new.self))
    (set c.self.inside.places.items c.args.place (Some c.in-Some.page))) c.args.place None ≡ Some c.fill.new.self
now_there c = taken_at c.self.inside.pool.items c.self.inside.places.items c.args.place c.in-Some.page c.fill.new.self
    (omega (arith, c.self.invariant.0.places_len)) (free_in_pool c.self.invariant.0 _ _ (last c))

pub returns-in-Some-clause-named : goal.returns-in-Some-clause-named
returns-in-Some-clause-named c = rw (now_there c)

pub returns-in-Some-clause-bytes : goal.returns-in-Some-clause-bytes
returns-in-Some-clause-bytes c =
    rw (← c.self.view_is)
    (cleared _ _ c.args.place c.fill.new.self
    (empty_at c.self.inside.pool.items c.self.inside.places.items c.args.place (empty c)) (now_there c)
    (λ k. zeros c.fill.new.self _ k (c.fill.ensures.after (λ y e. e)))
    (taken_others c.self.invariant.0 c.pop.new.self.items c.args.place c.in-Some.page c.fill.new.self (last c)))

pub returns-in-Some-clause-others : goal.returns-in-Some-clause-others
returns-in-Some-clause-others c =
    rw (← c.self.view_is) (taken_others c.self.invariant.0 c.pop.new.self.items c.args.place c.in-Some.page
    c.fill.new.self (last c))

-- ## A page joins the pool

was_empty : (c : goal.After-self-in-None-1) → get_or c.self.inside.places.items c.args.place None ≡ None
was_empty c =
    let there : c.args.place < length c.self.inside.places.items = omega (arith, c.self.invariant.0.places_len) in
    read_place _ _ _ _ there c.index.ensures (not_some _ c.if-is_some.ensures)

-- the pool, the pages that are free, and the name of the new page
pool_is : (c : goal.After-self-in-None-1) → c.push_reserved.new.self.items ≡ c.self.inside.pool.items ++ replicate 512 0
    ∷ []
pool_is c = c.push_reserved.ensures.items

name_is : (c : goal.After-self-in-None-1) → c.len-page.result ≡ length c.self.inside.pool.items
name_is c = omega (arith, c.len-page.ensures)

pub invariant_of-self-in-None : goal.invariant_of-self-in-None
invariant_of-self-in-None c =
    let no_free : length c.self.inside.free.items ≡ 0 = omega (arith, c.in-None.ensures.cases) in
    let still : c.pop.new.self.items ≡ c.self.inside.free.items =
    sym (c.in-None.ensures.items ∙ append-nil c.pop.new.self.items) in
    let pages = grown c.self.invariant.0 c.args.place (replicate 512 0) (length-replicate {A = ℕ} 512 0)
    c.requires.within (was_empty c) no_free in (
      rw (pool_is c, still, name_is c) pages,
      omega (arith, c.push_reserved.ensures.capacity, c.self.invariant.1),
      omega
          (arith, c.pop.ensures.capacity, c.self.invariant.2),
    )

joined_there : (c : goal.After-self-in-None-1)
    → get_or (map (held c.push_reserved.new.self.items)
    (set c.self.inside.places.items c.args.place (Some c.len-page.result))) c.args.place None ≡ Some (replicate 512 0)
joined_there c = rw (pool_is c, name_is c)
    (grown_at c.self.inside.pool.items c.self.inside.places.items c.args.place (replicate 512 0)
    (omega (arith, c.self.invariant.0.places_len)))

joined_others : (c : goal.After-self-in-None-1)
    → SameBut c.args.place (map (held c.self.inside.pool.items) c.self.inside.places.items)
    (map (held c.push_reserved.new.self.items) (set c.self.inside.places.items c.args.place (Some c.len-page.result)))
joined_others c = rw (pool_is c, name_is c) (grown_others c.self.invariant.0 c.args.place (replicate 512 0))

pub returns-in-None-clause-named : goal.returns-in-None-clause-named
returns-in-None-clause-named c = rw (joined_there c)

pub returns-in-None-clause-bytes : goal.returns-in-None-clause-bytes
returns-in-None-clause-bytes c =
    rw (← c.self.view_is)
    (cleared _ _ c.args.place (replicate 512 0)
    (empty_at c.self.inside.pool.items c.self.inside.places.items c.args.place (was_empty c)) (joined_there c)
    (λ k. zeros (replicate 512 0) 512 k refl)
    (joined_others c))

pub returns-in-None-clause-others : goal.returns-in-None-clause-others
returns-in-None-clause-others c = rw (← c.self.view_is) (joined_others c)

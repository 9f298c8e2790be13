use Rattle.std.proofs.Common.{◌≡◌, ◌+◌, ◌-◌, ◌<◌, length, None, Some, get_or, set, arith, ◌∙◌}
use Rattle.memory_files.proofs.Places.{in_pool, read_place, filled, page_full, Patched, patched, zeros}
use Rattle.memory_files.proofs.pages.Pages.wipe_tail.Goals as goal
use borrow.Rule.Slice.PartMut.{put_mid}

pub index_mut-requires : goal.index_mut-requires
index_mut-requires c =
    let there : c.of-spot.result.place < length c.self.inside.places.items =
    omega (arith, c.self.invariant.0.places_len) in
    let named = read_place _ _ _ _ there c.index.ensures c.in-Some.is in
    omega (arith, in_pool c.self.invariant.0 _ _ named)

named : (c : goal.After-self-1) → get_or c.self.inside.places.items c.of-spot.result.place None ≡ Some c.in-Some.page
named c =
    let there : c.of-spot.result.place < length c.self.inside.places.items =
    omega (arith, c.self.invariant.0.places_len) in
    read_place _ _ _ _ there c.index.ensures c.in-Some.is

filled_to_end : (c : goal.After-self-1) → 512 - c.of-spot.result.offset ≡ length c.fill.new.self
filled_to_end c =
    let full : length c.index_mut.result.now ≡ 512 = page_full c.self.invariant.0 c.in-Some.page c.index_mut.result.now
    (in_pool c.self.invariant.0 _ _ (named c)) c.index_mut.ensures.value in
    filled c.index_mut.result.now c.fill.new.self c.of-spot.result.offset (512 - c.of-spot.result.offset) (omega arith)
    c.fill.ensures.len

-- what the fill leaves
wiped : (c : goal.After-self-1)
    → Patched c.self.inside.pool.items
    (set c.self.inside.pool.items c.in-Some.page
    (put_mid c.of-spot.result.offset (512 - c.of-spot.result.offset) c.index_mut.result.now c.fill.new.self))
    c.self.inside.places.items c.self.inside.free.items c.args.start c.fill.new.self
wiped c = patched c.self.invariant.0 c.args.start c.of-spot.result.place c.of-spot.result.offset c.in-Some.page
    (512 - c.of-spot.result.offset) c.index_mut.result.now c.fill.new.self c.of-spot.ensures.place
    c.of-spot.ensures.offset (named c) c.index_mut.ensures.value (filled_to_end c) (omega arith)

pub invariant_of-self : goal.invariant_of-self
invariant_of-self c = ((wiped c).pages, c.self.invariant.1, c.self.invariant.2)

pub returns-in-Some-clause-before : goal.returns-in-Some-clause-before
returns-in-Some-clause-before c = rw (← c.self.view_is) (wiped c).before

pub returns-in-Some-clause-others : goal.returns-in-Some-clause-others
returns-in-Some-clause-others c = rw (← c.self.view_is) (wiped c).others

pub returns-in-Some-clause-zero : goal.returns-in-Some-clause-zero
returns-in-Some-clause-zero c k behind same =
    let there : c.args.start + (k - c.args.start) ≡ k = omega arith in
    let within : k - c.args.start < length c.fill.new.self = omega (arith, filled_to_end c) in
    rw there at ((wiped c).bytes (k - c.args.start) within)
    ∙ zeros c.fill.new.self _ (k - c.args.start) (c.fill.ensures.after (λ y e. e))

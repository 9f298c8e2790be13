use Rattle.std.proofs.Common.{◌≡◌, ◌+◌, ◌-◌, ◌<◌, length, take, None, Some, get_or, set, arith, ap, ◌∙◌}
use Rattle.std.proofs.lemmas.List.{length-take, get_or-take}
use Rattle.memory_files.proofs.Places.{in_pool, read_place, some_read, Patched, patched}
use Rattle.memory_files.proofs.pages.Pages.write_piece.Goals as goal
use borrow.Rule.Slice.PartMut.{put_mid}

pub unwrap-page-requires : goal.unwrap-page-requires
unwrap-page-requires c =
    let there : c.of-spot.result.place < length c.self.inside.places.items =
    omega (arith, c.self.invariant.0.places_len) in
    some_read c.self.inside.pool.items c.self.inside.places.items c.of-spot.result.place c.index.result.now there
    c.index.ensures (rw c.self.view_is c.take_page.ensures.named)

pub index_mut-requires : goal.index_mut-requires
index_mut-requires c =
    let there : c.of-spot.result.place < length c.self.inside.places.items =
    omega (arith, c.self.invariant.0.places_len) in
    let named = read_place _ _ _ _ there c.index.ensures c.unwrap-page.ensures in
    omega (arith, in_pool c.self.invariant.0 _ _ named)

named : (c : goal.After-self-1) → get_or c.self.inside.places.items c.of-spot.result.place None
    ≡ Some c.unwrap-page.result
named c =
    let there : c.of-spot.result.place < length c.self.inside.places.items =
    omega (arith, c.self.invariant.0.places_len) in
    read_place _ _ _ _ there c.index.ensures c.unwrap-page.ensures

copied : (c : goal.After-self-1) → c.copy_from_slice.new.self ≡ take c.min-count.result c.args.bytes.now
copied c = c.copy_from_slice.ensures.after

piece_len : (c : goal.After-self-1) → length c.copy_from_slice.new.self ≡ c.min-count.result
piece_len c = ap length (copied c) ∙ length-take c.min-count.result c.args.bytes.now
    ∙ omega (arith, c.min-count.ensures)

-- what the copy leaves
laid : (c : goal.After-self-1)
    → Patched c.self.inside.pool.items
    (set c.self.inside.pool.items c.unwrap-page.result
    (put_mid c.of-spot.result.offset (c.of-spot.result.offset + c.min-count.result - c.of-spot.result.offset)
    c.index_mut.result.now c.copy_from_slice.new.self)) c.self.inside.places.items c.self.inside.free.items c.args.start
    c.copy_from_slice.new.self
laid c = patched c.self.invariant.0 c.args.start c.of-spot.result.place c.of-spot.result.offset c.unwrap-page.result
    (c.of-spot.result.offset + c.min-count.result - c.of-spot.result.offset) c.index_mut.result.now
    c.copy_from_slice.new.self c.of-spot.ensures.place c.of-spot.ensures.offset (named c) c.index_mut.ensures.value
    (omega (arith, piece_len c)) (omega (arith, c.min-count.ensures))

pub invariant_of-self : goal.invariant_of-self
invariant_of-self c = ((laid c).pages, c.self.invariant.1, c.self.invariant.2)

pub returns-clause-before : goal.returns-clause-before
returns-clause-before c k h = rw c.self.view_is at ((laid c).before k h) ∙ c.take_page.ensures.bytes k

pub returns-clause-bytes : goal.returns-clause-bytes
returns-clause-bytes c k h = (laid c).bytes k (omega (arith, piece_len c)) ∙ ap (λ xs. get_or xs k 0) (copied c)
    ∙ get_or-take c.min-count.result c.args.bytes.now k 0 h

pub returns-clause-behind : goal.returns-clause-behind
returns-clause-behind c k h = rw c.self.view_is at ((laid c).behind k (omega (arith, piece_len c)))
    ∙ c.take_page.ensures.bytes k

pub returns-clause-others : goal.returns-clause-others
returns-clause-others c other apart = rw c.self.view_is at ((laid c).others other apart)
    ∙ c.take_page.ensures.others other (λ e. apart (e ∙ c.of-spot.ensures.place))

use Rattle.std.proofs.Common.{◌+◌, ◌-◌, ◌<◌, length, get_or, arith, ap, ◌∙◌, sym}
use Rattle.memory_files.proofs.Places.{in_pool, read_place, read_named, read_empty, in_mid, in_head, zeros}
use Rattle.memory_files.proofs.pages.Pages.read_piece.Goals as goal

pub index-bytes-requires : goal.index-bytes-requires
index-bytes-requires c =
    let there : c.of-spot.result.place < length c.self.inside.places.items =
    omega (arith, c.self.invariant.0.places_len) in
    let named = read_place _ _ _ _ there c.index.ensures c.in-Some.is in
    omega (arith, in_pool c.self.invariant.0 _ _ named)

pub returns-in-Some-clause-bytes : goal.returns-in-Some-clause-bytes
returns-in-Some-clause-bytes c k h =
    let there : c.of-spot.result.place < length c.self.inside.places.items =
    omega (arith, c.self.invariant.0.places_len) in
    let named = read_place _ _ _ _ there c.index.ensures c.in-Some.is in
    let within : c.of-spot.result.offset + k < 512 = omega (arith, c.min-count.ensures) in
    in_head c.copy_from_slice.new.self c.args.into.now c.min-count.result k c.copy_from_slice.ensures.len
    (omega (arith, c.min-count.ensures)) h
    ∙ ap (λ xs. get_or xs k 0) c.copy_from_slice.ensures.after
    ∙ in_mid c.index-bytes.result.now c.of-spot.result.offset
    (c.of-spot.result.offset + c.min-count.result - c.of-spot.result.offset) k (omega arith)
    ∙ sym (rw c.self.view_is at (read_named c.self.inside.pool.items c.self.inside.places.items c.args.start
    c.of-spot.result.place c.of-spot.result.offset c.in-Some.page c.index-bytes.result.now k c.of-spot.ensures.place
    c.of-spot.ensures.offset named (in_pool c.self.invariant.0 _ _ named) c.index-bytes.ensures within))

pub returns-in-None-clause-bytes : goal.returns-in-None-clause-bytes
returns-in-None-clause-bytes c k h =
    let there : c.of-spot.result.place < length c.self.inside.places.items =
    omega (arith, c.self.invariant.0.places_len) in
    let empty = read_place _ _ _ _ there c.index.ensures c.in-None.is in
    let within : c.of-spot.result.offset + k < 512 = omega (arith, c.min-count.ensures) in
    in_head c.fill.new.self c.args.into.now c.min-count.result k c.fill.ensures.len (omega (arith, c.min-count.ensures))
    h
    ∙ zeros c.fill.new.self _ k (c.fill.ensures.after (λ y e. e))
    ∙ sym (rw c.self.view_is at (read_empty c.self.inside.pool.items c.self.inside.places.items c.args.start
    c.of-spot.result.place c.of-spot.result.offset k c.of-spot.ensures.place c.of-spot.ensures.offset empty within))

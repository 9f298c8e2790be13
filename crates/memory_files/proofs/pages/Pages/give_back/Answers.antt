use Rattle.std.proofs.Common.{◌<◌, length, arith, rules, ◌∙◌, sym}
use Rattle.memory_files.proofs.Places.{given_at, given_others, room, read_place}
use Rattle.memory_files.proofs.pages.Pages.give_back.Goals as goal

pub unwrap-requires : goal.unwrap-requires
unwrap-requires c =
    let there : c.args.place < length c.self.inside.places.items = omega (arith, c.self.invariant.0.places_len) in
    let named = read_place _ _ _ _ there c.index_mut.ensures.value (sym c.take.ensures.value ∙ c.in-Some.is) in
    let room' = room c.self.invariant.0 _ _ named in
    let big = c.self.invariant.1 in
    search rules

pub returns-in-Some-clause-empty : goal.returns-in-Some-clause-empty
returns-in-Some-clause-empty c =
    rw c.take.ensures.after (given_at c.self.inside.pool.items c.self.inside.places.items c.args.place)

pub returns-in-Some-clause-others : goal.returns-in-Some-clause-others
returns-in-Some-clause-others c =
    rw (c.take.ensures.after, ← c.self.view_is)
    (given_others c.self.inside.pool.items c.self.inside.places.items c.args.place)

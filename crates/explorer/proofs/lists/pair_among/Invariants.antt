use Rattle.std.proofs.Common.{◌≡◌, ◌<◌, ◌^◌, [], drop, length, slice_index_or}
use Rattle.explorer.specs.Lists.{pairs_among}
use Rattle.explorer.proofs.lists.pair_among.Given as goal

-- the list is left among those of the places to come
abbrev pub invariant-loop-i : goal.invariant-loop-i
invariant-loop-i l = record {
  list : slice_index_or (pairs_among l.reach (drop l.i l.places)) l.left []
      ≡ slice_index_or (pairs_among l.reach l.places) l.at [];
  fits : length (pairs_among l.reach (drop l.i l.places)) < 2 ^ 64;
}

use Rattle.std.proofs.Common.{rules}
use Rattle.std.proofs.lemmas.List.Sorted.{IsPermutation-map, answers_always}
use Rattle.std.specs.Ordering.{is_lt}
use Rattle.run_views.specs.Order.{turn_cmp, turn_key}
use Rattle.run_views.specs.Seen.{seen}
use Rattle.run_views.proofs.Sorting.{sorted_map}
use Rattle.run_views.proofs.order.sort_by_turn.Goals as goal

pub returns-clause-all : goal.returns-clause-all
returns-clause-all c = IsPermutation-map seen _ _ c.sort_unstable_by_key.ensures.permutation

pub returns-clause-sorted : goal.returns-clause-sorted
returns-clause-sorted c =
    sorted_map seen (λ a b. is_lt (turn_cmp a b)) _
    (c.sort_unstable_by_key.ensures.sorted (λ p. turn_key (seen p))
    (answers_always _ _ _ (λ f a r g h. search rules)))

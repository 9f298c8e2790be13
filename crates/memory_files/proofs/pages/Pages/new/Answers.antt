use Rattle.std.proofs.Common.{rules}
use Rattle.memory_files.proofs.Places.{none_at, empty_at}
use Rattle.memory_files.proofs.pages.Pages.new.Goals as goal

pub returns : goal.returns
returns c = record {
  empty = λ place _. empty_at _ c.in_ok-places.places.items place
      (none_at c.in_ok-places.places.items 128 place (c.in_ok-places.ensures.items_if_clones_equal (search rules)));
}

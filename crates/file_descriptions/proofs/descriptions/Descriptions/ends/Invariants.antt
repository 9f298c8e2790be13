use Rattle.std.proofs.Common.{◌≡◌, ◌≤◌, ◌+◌, length, count_by, map}
use Rattle.std.specs.FinMap as fin
use Rattle.file_descriptions.specs.Descriptions.{has_first_end, has_second_end}
use Rattle.file_descriptions.proofs.descriptions.Descriptions.ends.Given as goal

-- what is counted and what is left make the whole
abbrev pub invariant-loop-description : goal.invariant-loop-description
invariant-loop-description l =
    record {
      can_next : (goal.iterator-loop-description).can_next l.description-iterator;
      is_finite : (goal.iterator-loop-description).is_finite l.description-iterator;
      first : l.first + count_by (has_first_end l.node) (map (λ e. e.1) l.description-iterator)
          ≡ count_by (has_first_end l.node) (fin.values l.self.by_key);
      second : l.second + count_by (has_second_end l.node) (map (λ e. e.1) l.description-iterator)
          ≡ count_by (has_second_end l.node) (fin.values l.self.by_key);
      few : length (fin.values l.self.by_key) ≤ 32;
    }

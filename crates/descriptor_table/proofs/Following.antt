-- The laws of every table.
use Rattle.std.proofs.Common.{◌≡◌, ℕ, true, refl}
use Rattle.posix_terms.specs.Calls.{Call}
use Rattle.posix_terms.specs.declared.carried.Moved.{Moved}
use Rattle.std.specs.FinMap as fin
use Rattle.file_descriptions.specs.Descriptions.{AreSound, ContainsKey, description_at}
use Rattle.file_descriptions.specs.Laws.{ChangesKeepSound}
use Rattle.file_descriptions.specs.declared.description.Description.{Description}
use Rattle.descriptor_table.proofs.ChangeLemmas.{shows-content, shows-set_offset}
use Rattle.sequential_object.specs.Renaming.{DecidesAlike}
use Rattle.sequential_object.specs.Object.{State, content_of}
use Rattle.posix_terms.specs.declared.object.End.TheVariants as part
use Rattle.sequential_object.specs.So.{DecidedSo, IsNamed, IsSeen}
use Rattle.sequential_object.specs.declared.decision.Seen.{Seen}
use Rattle.descriptor_table.proofs.AlikeLemmas.{alike_shown, numbered}
use Rattle.descriptor_table.proofs.CanLemmas.{found_at, number_free, numbers_so, object_known}
use Rattle.descriptor_table.proofs.DecideLemmas.{decides_as}
use Rattle.descriptor_table.proofs.EndLemmas.{has_end_shown, one_door}
use Rattle.descriptor_table.proofs.FreeLemmas.{next_object}
use Rattle.descriptor_table.proofs.PathLemmas.{file_at_name}
use Rattle.descriptor_table.proofs.ShownLemmas.{shows-empty}
use Rattle.descriptor_table.proofs.SoundLemmas.{known_at, sound-empty, sound-kept}
use Rattle.descriptor_table.proofs.UseLemmas as uses
use Rattle.descriptor_table.proofs.UseLemmas.{named_used, seen_end, seen_key, seen_there, seen_used}
use Rattle.descriptor_table.specs.Laws.{Follows, IsThere, OffsetMoves, TableFollows}
use Rattle.descriptor_table.specs.Shows.{Shows, birth_at, is_of}
use Rattle.descriptor_table.specs.Table.{TableState, IsSound}
use Rattle.descriptor_table.specs.View.{view}
use Rattle.sequential_object.specs.Object.{FileNode}
use Rattle.sequential_object.specs.Paths.{components_of}
use Rattle.std.proofs.Common.{Some}

is_there : (t : TableState) (at : Seen) → IsSound t → IsSeen (view t) at → IsThere t at
is_there t at sound its =
    let there : uses.IsThere t at = seen_there t at its in
    record {
      key = seen_key t at sound its;
      used = seen_used t at sound its;
      birth = there.birth_is;
      ends = λ s shows. seen_end t s at sound shows its;
    }

named_file : (t : TableState) (object : ℕ) → IsNamed (view t) object → (s : State) → Shows t s
    → is_of part.Only (content_of s (birth_at t object)) ≡ true
named_file t object named s shows =
    file_at_name t s (components_of named.path) object shows
    (found_at t.paths named.path (Some (FileNode object)) named.found).0

follows : DecidesAlike → DecidedSo → (t : TableState) (c : Call) (moved : Moved) → IsSound t → AreSound t.descriptions
    → Follows t c moved
follows names so t c moved sound all = record {
  so = so.so (view t) c moved (numbered t);
  step = λ s shows. decides_as names t s sound all shows c moved;
}

offset_moves : ChangesKeepSound → (t : TableState) (key offset : ℕ) → IsSound t → AreSound t.descriptions
    → ContainsKey t.descriptions key
    → OffsetMoves t key offset
offset_moves keep t key offset sound all known =
    let d : Description = description_at t.descriptions key in
    let got : fin.get t.descriptions.by_key key ≡ Some d = known_at t.descriptions key known in
    record {
      sound = sound-kept t key (record d { offset = offset }) sound known refl refl;
      described = keep.changed t.descriptions key d (record d { offset = offset }) all got (all.held key d got) refl;
      shows = λ s shows. shows-set_offset t s key offset all known shows;
    }

pub table_follows : ChangesKeepSound → DecidesAlike → DecidedSo → TableFollows
table_follows keep names so = record {
  first = (sound-empty, shows-empty);
  calls = follows names so;
  alike = alike_shown;
  seen = is_there;
  named = λ t object sound named. (named_used t object sound named, named_file t object named);
  next = next_object;
  free = number_free;
  numbers = numbers_so;
  known = object_known;
  ends = has_end_shown;
  offsets = offset_moves keep;
  contents = shows-content;
  doors = one_door;
}

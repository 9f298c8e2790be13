-- What was found in the view of a table is there: objects, and descriptions.
use Rattle.std.proofs.Common.{◌≡◌, ℕ, Some, true, sym, ap, ◌∙◌, arith}
use Rattle.std.specs.FinMap as fin
use Rattle.std.specs.Prelude.{ℤ, pos, negsuc}
use Rattle.sequential_object.specs.Object.{State, content_of}
use Rattle.file_descriptions.specs.Descriptions.{ContainsKey, description_at}
use Rattle.file_descriptions.specs.declared.description.Description.{Description}
use Rattle.sequential_object.specs.So.{IsNamed, IsReferred, IsSeen}
use Rattle.sequential_object.specs.declared.decision.Seen.{Seen}
use Rattle.descriptor_table.proofs.ShownLemmas.{key_known}
use Rattle.descriptor_table.proofs.SoundLemmas.{known_of, used-found}
use Rattle.descriptor_table.specs.Shows.{Shows, birth_at, is_of}
use Rattle.descriptor_table.specs.Table.{TableState, IsSound, is_used, key_at}
use Rattle.descriptor_table.specs.View.{view}

pub named_used : (t : TableState) (object : ℕ) → IsSound t → IsNamed (view t) object → is_used t object ≡ true
named_used t object sound named = used-found t named.path object named.found sound

-- the description that a descriptor was seen to refer to
pub record IsThere (t : TableState) (at : Seen) : Type 0 where
  pub descriptor : ℤ
  pub key_is : key_at t descriptor ≡ Some at.key
  pub object_is : (description_at t.descriptions at.key).node ≡ at.object
  pub end_is : (description_at t.descriptions at.key).«end» ≡ at.«end»
  pub birth_is : (description_at t.descriptions at.key).birth ≡ at.birth

pub seen_there : (t : TableState) (at : Seen) → IsSeen (view t) at → IsThere t at
seen_there t at its = record {
  descriptor = its.descriptor;
  key_is = grind (arith, its.found);
  object_is = grind (arith, its.found);
  end_is = grind (arith, its.found);
  birth_is = grind (arith, its.found);
}

pub seen_got : (t : TableState) (at : Seen) → IsSound t → IsSeen (view t) at
    → fin.get t.descriptions.by_key at.key ≡ Some (description_at t.descriptions at.key)
seen_got t at sound its =
    let there : IsThere t at = seen_there t at its in
    key_known t there.descriptor at.key sound there.key_is

-- the description that a descriptor refers to
pub key_there : (t : TableState) (descriptor : ℤ) (key : ℕ) → IsSound t → key_at t descriptor ≡ Some key
    → ContainsKey t.descriptions key
key_there t (pos n) key sound is = known_of t n key sound is
key_there t (negsuc n) key sound is = cc

pub seen_key : (t : TableState) (at : Seen) → IsSound t → IsSeen (view t) at → ContainsKey t.descriptions at.key
seen_key t at sound its =
    let there : IsThere t at = seen_there t at its in key_there t there.descriptor at.key sound there.key_is

pub seen_used : (t : TableState) (at : Seen) → IsSound t → IsSeen (view t) at → is_used t at.object ≡ true
seen_used t at sound its =
    let there : IsThere t at = seen_there t at its in
    ap (is_used t) (sym there.object_is)
    ∙ sound.described_objects at.key (description_at t.descriptions at.key) (seen_got t at sound its)

pub referred_used : (t : TableState) (object : ℕ) → IsSound t → IsReferred (view t) object → is_used t object ≡ true
referred_used t object sound referred =
    ap (is_used t) (sym referred.object_is) ∙ seen_used t referred.at sound referred.found

-- its object has the end that it is of
pub seen_end : (t : TableState) (s : State) (at : Seen) → IsSound t → Shows t s → IsSeen (view t) at
    → is_of at.«end» (content_of s (birth_at t at.object)) ≡ true
seen_end t s at sound shows its =
    let there : IsThere t at = seen_there t at its in
    let d : Description = description_at t.descriptions at.key in
    rw (← there.end_is, ← there.object_is) (shows.ends at.key d (seen_got t at sound its))

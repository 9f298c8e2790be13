-- A table and the state that it shows look alike to each call, but for the names.
use Rattle.std.proofs.Common.{◌≡◌, ◌⊎◌, ℕ, ◌-◌, List, Option, Some, None, is_some, Result, Ok, Err, true, not}
use Rattle.std.proofs.Common.{if◌then◌else◌, refl, sym, ap, ◌∙◌, inl, inr, arith}
use Rattle.std.specs.Option.{option_map}
use Rattle.std.specs.Prelude.{ℤ, pos, negsuc, nat_le}
use Rattle.sequential_object.specs.Descriptors as posix
use Rattle.sequential_object.specs.Object.{State, Node}
use Rattle.sequential_object.specs.Paths.{components_of, node_at, resolved}
use Rattle.sequential_object.specs.Refusals.{◌>>=◌}
use Rattle.directories.specs.Lookup.{looked_up}
use Rattle.file_descriptions.specs.Descriptions.{AreSound}
use Rattle.posix_terms.specs.declared.errno.Errno.{Errno}
use Rattle.sequential_object.specs.Meant.{next_of, seen, seen_of}
use Rattle.sequential_object.specs.Renaming.{Alike, node_by, ok_by, seen_by}
use Rattle.sequential_object.specs.So.{IsNamed, IsNumbered, IsReferred}
use Rattle.descriptor_table.proofs.ChangeLemmas.{birth_got}
use Rattle.descriptor_table.proofs.LinkLemmas.{links_shown}
use Rattle.descriptor_table.proofs.NextLemmas.{born_next, full_shown}
use Rattle.descriptor_table.proofs.PathLemmas.{births_alike, closed_shown, has_entries_shown, names_shown, node_shown}
use Rattle.descriptor_table.proofs.PathLemmas.{resolved_shown}
use Rattle.descriptor_table.proofs.ShownLemmas.{found_both, last_open, lowest_shown}
use Rattle.descriptor_table.proofs.UseLemmas.{named_used, referred_used}
use Rattle.descriptor_table.specs.Shows.{RefersAlike, Shows, birth_at, shown_node}
use Rattle.descriptor_table.specs.Shows.RefersAlike.{Open, Shut}
use Rattle.descriptor_table.specs.Table.{TableState, IsSound, free_object, is_closed, is_used, lowest_free}
use Rattle.descriptor_table.specs.View.{names_of, seen_at, view}

-- a descriptor that is open has its own number
pub numbered : (t : TableState) → IsNumbered (view t)
numbered t (pos n) at is = grind (arith, is)
numbered t (negsuc n) at is = grind (arith, is)

module _ (t : TableState) (s : State) (sound : IsSound t) (all : AreSound t.descriptions) (shows : Shows t s) where
  described_like : (descriptor : ℤ) → RefersAlike t s descriptor
      → (posix.described s descriptor >>= (λ found. Ok (seen_of s descriptor found)))
      ≡ ok_by (seen_by (names_of t)) (seen_at t descriptor)
  described_like descriptor (Shut table state) = rw (table, state) refl
  described_like descriptor (Open key d at got there table state) =
      grind (
        arith,
        table,
        state,
        birth_got t.descriptions key d got,
        last_open t s sound all shows descriptor key d at
            got,
      )

  named_like : (path : List ℕ) → (resolved s.paths path >>= (λ components. Ok (node_at s.paths components)))
      ≡ ok_by (option_map (node_by (names_of t))) (looked_up t.paths path)
  unfolding looked_up
  named_like path = rw (resolved_shown t s path shows) (by_path (resolved t.paths path))
    where
      same : (o : Option Node) → option_map (shown_node t) o ≡ option_map (node_by (names_of t)) o
      same o = grind arith

      by_path : (r : Result (List (List ℕ)) Errno)
          → (r >>= (λ components. Ok (node_at s.paths components)))
          ≡ ok_by (option_map (node_by (names_of t))) (r >>= (λ components. Ok (node_at t.paths components)))
      by_path (Ok components) = ap (λ (o : Option Node). Ok o) (node_shown t s components shows
          ∙ same (node_at t.paths components))
      by_path (Err e) = refl

  next_like : next_of s ≡ option_map (birth_at t) (free_object t)
  next_like = rw (full_shown t s sound all shows) (by_free (free_object t) refl)
    where
      by_free : (o : Option ℕ) → free_object t ≡ o
          → (if not (is_some o) then None else Some s.next_object) ≡ option_map (birth_at t) o
      by_free None is = refl
      by_free (Some node) is = ap (λ (n : ℕ). Some n) (sym (born_next t s sound all shows node is))

  in_use : (object : ℕ) → IsNamed (view t) object ⊎ IsReferred (view t) object → is_used t object ≡ true
  in_use object (inl named) = named_used t object sound named
  in_use object (inr referred) = referred_used t object sound referred

  open_like : (object : ℕ) → IsNamed (view t) object
      → posix.has_description s (birth_at t object) ≡ not (is_closed t object)
  open_like object named = grind (arith, closed_shown t s object sound all shows (named_used t object sound named))

  lowest_like : (n : ℕ) → posix.lowest_from s (32 - n) n ≡ lowest_free t n
  lowest_like n = lowest_shown t s (32 - n) n shows

  pub alike_shown : Alike (names_of t) (view t) (seen s)
  unfolding seen
  alike_shown = record {
    described = λ descriptor. described_like descriptor (found_both t s descriptor sound shows);
    lowest = lowest_like;
    named = named_like;
    names_full = ap (nat_le 64) (names_shown t s shows);
    has_entries = λ path. has_entries_shown t s (components_of path) shows;
    links = λ object its. links_shown t s object sound shows (in_use object its);
    is_open = open_like;
    next = next_like;
    apart = λ object other one two.
        births_alike t object other sound (named_used t object sound one) (named_used t other sound two);
  }

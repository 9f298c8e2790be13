-- Internal: no contract of the headline or of a command stands on it.
-- What a call sees of the table, under the names that the table uses.
use Rattle.std.specs.Prelude.{ℕ, ◌==◌, ℤ, not, nat_le, Result, Ok}
use Rattle.std.specs.FinMap as map
use Rattle.directories.specs.Lookup.{looked_up}
use Rattle.sequential_object.specs.Names.{has_entries, links_of}
use Rattle.sequential_object.specs.Paths.{components_of}
use Rattle.sequential_object.specs.Refusals.{◌>>=◌}
use Rattle.posix_terms.specs.declared.errno.Errno.{Errno}
use Rattle.posix_terms.specs.declared.limits.TheConstants.Limits as limit
use Rattle.file_descriptions.specs.declared.description.Description.{Description}
use Rattle.sequential_object.specs.Meant.{natural_of}
use Rattle.sequential_object.specs.Renaming.{Names}
use Rattle.sequential_object.specs.View.{View}
use Rattle.sequential_object.specs.declared.decision.Seen.{Seen}
use Rattle.descriptor_table.specs.Shows.{birth_at, birth_of}
use Rattle.descriptor_table.specs.Table.{TableState, described, free_object, is_closed, lowest_free}

-- what a call sees of an open descriptor, by the description that it refers to
abbrev pub seen_of : ℤ → ℕ × Description → Seen
seen_of descriptor (key, d) = record {
  number = natural_of descriptor;
  key = key;
  birth = d.birth;
  object = d.node;
  «end» = d.«end»;
  access = d.access;
  append = d.flags.append;
  nonblock = d.flags.nonblock;
  last = d.holders == 1;
}

-- what a call sees of a descriptor, or EBADF where it is not open
abbrev pub seen_at : TableState → ℤ → Result Seen Errno
seen_at t descriptor = do
  found ← described t descriptor
  Ok (seen_of descriptor found)

-- what a call may look at in the table
abbrev pub view : TableState → View
view t = record {
  described = seen_at t;
  lowest = lowest_free t;
  named = looked_up t.paths;
  names_full = nat_le limit.NAMES (map.len t.paths);
  has_entries = λ path. has_entries t.paths (components_of path);
  links = links_of t.paths;
  is_open = λ object. not (is_closed t object);
  next = free_object t;
}

-- the names that the state has for what the table names
abbrev pub names_of : TableState → Names
names_of t = record { key = birth_of t; object = birth_at t }

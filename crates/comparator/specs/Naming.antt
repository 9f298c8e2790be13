-- Believed: a contract of a command stands on it.
-- The names of descriptors: how many were named before them.
use Rattle.std.specs.Prelude.{ℕ, ◌+◌, ◌-◌, ◌^◌, ℤ, pos, negsuc, nat_lt, min, Option, Some, None}
use Rattle.std.specs.Prelude.{replicate, slice_get, slice_set, if◌then◌else◌}
use Rattle.posix_terms.specs.declared.limits.TheConstants.Limits.{DESCRIPTORS}
use Rattle.comparator.specs.declared.naming.Names.{Names}

-- none was named
abbrev pub no_names : Names
no_names = record { count = 0; of = replicate DESCRIPTORS None }

-- what no descriptor can be has this for its name
abbrev pub no_name : ℤ
no_name = negsuc 0

-- a descriptor of this number is the next. Names end at a number that no run comes to
abbrev pub next_named : Names → ℕ → Names
next_named names number = record {
  count = min (names.count + 1) (2 ^ 32 - 1);
  of = slice_set names.of number (Some names.count);
}

-- a number is that of a new descriptor: the names then, and its own
abbrev pub given : Names → ℤ → Names × ℤ
given names (pos number) =
    if nat_lt number DESCRIPTORS
    then (next_named names number, pos names.count)
    else (names, no_name)
given names (negsuc n) = (names, no_name)

-- a number that has a name keeps it; another is that of a new descriptor
abbrev pub used_or : Names → ℕ → Option (Option ℕ) → Names × ℤ
used_or names number (Some (Some name)) = (names, pos name)
used_or names number other = given names (pos number)

-- a number is used
abbrev pub used : Names → ℤ → Names × ℤ
used names (pos number) = used_or names number (slice_get names.of number)
used names (negsuc n) = (names, no_name)

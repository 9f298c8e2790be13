-- Internal: no contract of the headline or of a command stands on it.
-- The table of what descriptors refer to, as the code keeps it.
use Rattle.std.specs.Prelude.{◌≡◌, ℤ, List, Option, None, unwrap_or}
use Rattle.std.specs.BTreeMap as tree
use Rattle.std.specs.Ordering.{int_cmp}
use Rattle.posix_terms.specs.declared.reply.ObjectKind.{ObjectKind}
use Rattle.posix_terms.specs.declared.transcript.HistoryRow.{HistoryRow}
use Rattle.fault_injection.specs.Places.{refers}
use Rattle.fault_injection.specs.declared.objects.Objects.{Objects}

-- what the table says of a number
abbrev pub known : Objects → ℤ → Option ObjectKind
known objects n = unwrap_or (tree.get int_cmp objects.by_number n) None

-- it is the table after these turns, the latest first
abbrev pub AreObjects : List HistoryRow → Objects → Type 0
AreObjects past objects = (n : ℤ) → known objects n ≡ refers past n

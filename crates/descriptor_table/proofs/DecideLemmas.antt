-- What the table decides is what the sequential object decides.
use Rattle.std.proofs.Common.{◌≡◌, ℕ, List, Result, Ok, Err, arith}
use Rattle.sequential_object.specs.Names.{PathMap}
use Rattle.directories.specs.Naming.{removed_dir}
use Rattle.sequential_object.specs.Object.{State}
use Rattle.sequential_object.specs.Paths.{components_of, resolved}
use Rattle.posix_terms.specs.Calls.{Call}
use Rattle.posix_terms.specs.declared.carried.Moved.{Moved}
use Rattle.posix_terms.specs.declared.errno.Errno.{Errno}
use Rattle.posix_terms.specs.declared.reply.Reply.TheVariants as reply
use Rattle.directories.specs.Lookup.{looked_up}
use Rattle.file_descriptions.specs.Descriptions.{AreSound}
use Rattle.sequential_object.specs.Decided.{decided}
use Rattle.sequential_object.specs.Meant.{seen}
use Rattle.sequential_object.specs.Names.{rmdir_decided}
use Rattle.sequential_object.specs.Renaming.{DecidesAlike, decision_by, ok_by}
use Rattle.sequential_object.specs.declared.decision.Change.TheVariants as change
use Rattle.sequential_object.specs.declared.decision.Decision.{Decision}
use Rattle.sequential_object.specs.declared.decision.Decision.TheVariants as decision
use Rattle.descriptor_table.proofs.AlikeLemmas.{alike_shown}
use Rattle.descriptor_table.proofs.FreeLemmas.{resolved_leads}
use Rattle.descriptor_table.specs.Shows.{Shows}
use Rattle.descriptor_table.specs.Table.{TableState, IsSound}
use Rattle.descriptor_table.specs.View.{names_of, view}

-- in a state that the table shows
pub decides_as : DecidesAlike → (t : TableState) (s : State) → IsSound t → AreSound t.descriptions → Shows t s
    → (c : Call) (moved : Moved)
    → decided (seen s) c moved ≡ ok_by (decision_by (names_of t)) (decided (view t) c moved)
decides_as names t s sound all shows c moved =
    names (names_of t) (view t) (seen s) c moved (alike_shown t s sound all shows)

-- ## A directory that goes

abbrev pub gone : Result PathMap Errno → Result Decision Errno
gone (Ok paths) = Ok (decision.Replies reply.Done change.RemoveDirectory)
gone (Err e) = Err e

resolved_is : (paths : PathMap) (path : List ℕ) (components : List (List ℕ)) → resolved paths path ≡ Ok components
    → components ≡ components_of path
resolved_is paths path components is = (resolved_leads paths path components is).0

pub removes : (t : TableState) (path : List ℕ) → gone (removed_dir t.paths path) ≡ rmdir_decided (view t) path
unfolding rmdir_decided removed_dir looked_up
removes t path = grind (arith, resolved_is t.paths path)

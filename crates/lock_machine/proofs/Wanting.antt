-- What was decided of the call whose thread holds the table, through the events of all threads.
use Rattle.std.proofs.Common.{◌≡◌, ℕ, ◌<◌, List, [], ◌∷◌, ◌++◌, zero, suc, length, set, get_or, Option, Some, None}
use Rattle.std.proofs.Common.{Bool, true, false, ap, refl, sym, subst, ◌∙◌, inl, inr, arith}
use Rattle.std.proofs.lemmas.Bool.{cases_eq}
use Rattle.std.proofs.lemmas.List.{get_or-set_other, get_or-set_same, length-set, length-append}
use Rattle.std.proofs.lemmas.Option.{none-some, same_Some, slice_get-get_or}
use Rattle.std.proofs.Math.Seq.{get_or-append_seam}
use Rattle.std.specs.Option.{option_map}
use Rattle.std.specs.Prelude.{slice_get}
use Rattle.posix_terms.specs.Calls.{Call}
use Rattle.posix_terms.specs.declared.carried.Moved.{Moved}
use Rattle.posix_terms.specs.declared.transcript.HistoryRow.{HistoryRow}
use Rattle.posix_terms.specs.declared.transcript.Turn.{Turn}
use Rattle.det_mutex.specs.declared.lock.DetLock.{DetLock}
use Rattle.sequential_object.specs.Locked.{keeps_table}
use Rattle.sequential_object.specs.Step.{Carried}
use Rattle.call_turns.specs.Store.{IsDecided, KeepsStore, Stored}
use Rattle.call_turns.specs.declared.patience.Locking.{Locking}
use Rattle.call_turns.specs.declared.patience.TurnStart.{TurnStart}
use Rattle.call_turns.specs.declared.patience.TurnStart.TheVariants as start
use Rattle.lock_machine.specs.Events.{granted_row}
use Rattle.lock_machine.specs.Held.{phase_started}
use Rattle.lock_machine.specs.Wanted.{AllHaveDecided, IsWanted, BringsNoCall, KeepsCalls, KeepsWanted, LeavesWanted}
use Rattle.lock_machine.specs.Wanted.{HasDecided, HasDecidedAt, call_at, kept_call, wanted_call}
use Rattle.lock_machine.specs.declared.thread.Phase.{Phase}
use Rattle.lock_machine.specs.declared.thread.Phase.TheVariants as phase
use Rattle.lock_machine.specs.declared.thread.Thread.{Thread}

-- ## The calls of the rows

-- the row of a place gets other facts, and keeps its call
pub calls_set : (rows : List HistoryRow) (k : ℕ) (q r : HistoryRow) → slice_get rows k ≡ Some q → r.call ≡ q.call
    → KeepsCalls rows (set rows k r)
calls_set [] k q r is same n = refl
calls_set (x ∷ rows) zero q r is same zero =
    ap (λ (c : Call). Some c) (same ∙ ap (λ (y : HistoryRow). y.call) (sym (same_Some x q is)))
calls_set (x ∷ rows) zero q r is same (suc n) = refl
calls_set (x ∷ rows) (suc k) q r is same zero = refl
calls_set (x ∷ rows) (suc k) q r is same (suc n) = calls_set rows k q r is same n

pub calls_same : (rows : List HistoryRow) → KeepsCalls rows rows
calls_same rows n = refl

-- a phase has the call that it has with other facts in the rows
pub wanted_kept : (p : Phase) (rows later : List HistoryRow) → KeepsCalls rows later
    → wanted_call p later ≡ wanted_call p rows
wanted_kept phase.Working rows later calls = refl
wanted_kept (phase.WantsTable call carried) rows later calls = refl
wanted_kept (phase.WantsObject call carried clock object) rows later calls = refl
wanted_kept (phase.Granted place object e) rows later calls = refl
wanted_kept (phase.ToOutside o) rows later calls = ap (λ (c : Option Call). kept_call o.keeps_table c o.carried.moved)
    (calls o.row)
wanted_kept (phase.Outside o) rows later calls = ap (λ (c : Option Call). kept_call o.keeps_table c o.carried.moved)
    (calls o.row)
wanted_kept (phase.Recorded o) rows later calls = ap (λ (c : Option Call). kept_call o.keeps_table c o.carried.moved)
    (calls o.row)
wanted_kept (phase.Blocked carried) rows later calls = refl
wanted_kept phase.Ended rows later calls = refl

-- ## What was decided

pub waits_decided : (h : Stored) (x : Locking) (call : Call) (so_far : Moved) → IsWanted h (call, so_far) (Some x)
    → IsDecided h call so_far x
waits_decided h x call so_far is = sym (same_Some _ _ is)

pub decided_waits : (h : Stored) (x : Locking) (call : Call) (so_far : Moved) → IsDecided h call so_far x
    → IsWanted h (call, so_far) (Some x)
decided_waits h x call so_far is = ap (λ d. Some d) (sym is)

pub wanted_some : {A : Type 0} (h : Stored) (call : Call) (so_far : Moved) → IsWanted h (call, so_far) None → A
wanted_some h call so_far is = absurd (none-some _ is)

-- a call that was granted, and keeps the table where it goes outside
pub started_waits : (rows : List HistoryRow) (turn : Turn) (call : Call) (carried : Carried) (object : Option ℕ)
    (x : TurnStart) (h new : Stored) (l : Locking) → IsDecided h call carried.moved l
    → KeepsStore (keeps_table call) x h new
    → HasDecided (phase_started (length rows) object call carried x) (rows ++ granted_row turn call ∷ []) new (Some l)
started_waits rows turn call carried object (start.Ended e) h new l decided kept other is = absurd (none-some other is)
started_waits rows turn call carried object (start.GoesOut errand) h new l decided kept other is =
    by_keep (keeps_table call) kept is
  where
    own : call_at (rows ++ granted_row turn call ∷ []) (length rows) ≡ Some call
    own =
        ap (option_map (λ (r : HistoryRow). r.call))
        (slice_get-get_or (rows ++ granted_row turn call ∷ []) (length rows) (granted_row turn call)
        (omega (arith, length-append rows (granted_row turn call ∷ [])))
        ∙ ap (λ (r : HistoryRow). Some r) (get_or-append_seam rows (granted_row turn call) [] (granted_row turn call)))

    by_keep : (b : Bool) → KeepsStore b (start.GoesOut errand) h new
        → kept_call b (call_at (rows ++ granted_row turn call ∷ []) (length rows)) carried.moved ≡ Some other
        → IsWanted new other (Some l)
    by_keep false kept is = absurd (none-some other is)
    by_keep true kept is =
        let same : (call, carried.moved) ≡ other =
        same_Some (call, carried.moved) other (sym (ap (option_map (λ (c : Call). (c, carried.moved))) own)
        ∙ is) in
        subst (λ (c : Call × Moved). IsWanted new c (Some l)) same
        (subst (λ (s : Stored). IsWanted s (call, carried.moved) (Some l)) (sym kept)
        (decided_waits h l call carried.moved decided))

-- ## All threads

module _ (ts : List Thread) (i : ℕ) (x v : Thread) (lock freed : DetLock) (rows later : List HistoryRow)
    (h new : Stored) (wanted now : Option Locking) where
  -- what was decided for thread k, which it finds as it was
  left_waits : (k : ℕ) (p : Phase) → LeavesWanted k lock rows h wanted later new now
      → HasDecidedAt k p lock rows h wanted → HasDecided p later new now
  left_waits k p (held, calls, store, same) waits call is =
      subst (λ (s : Stored). IsWanted s call now) (sym store)
      (subst (λ (w : Option Locking). IsWanted h call w) (sym same)
      (waits held call (sym (wanted_kept p rows later calls) ∙ is)))

  -- what thread i does leaves what was decided for another one that holds the table
  pub waits_kept : i < length ts → HasDecidedAt i v.phase freed later new now
      → KeepsWanted i lock rows h wanted freed later new now → AllHaveDecided ts lock rows h wanted
      → AllHaveDecided (set ts i v) freed later new now
  waits_kept inside own others all k d within =
      elim (cases_eq k i) [
        | inl same ↦ (λ held. subst (λ (t : Thread). HasDecided t.phase later new now)
            (sym (ap (λ (n : ℕ). get_or (set ts i v) n d) same ∙ get_or-set_same ts i v d inside))
            (own (held ∙ ap (λ (n : ℕ). Some n) same)))
        | inr apart ↦ (λ held.
            subst (λ (t : Thread). HasDecided t.phase later new now) (sym (get_or-set_other ts i k v d apart))
            (left_waits k (get_or ts k d).phase (others k apart held)
            (all k d (subst (λ (n : ℕ). k < n) (length-set ts i v) within))))
      ]

-- what was decided for thread i, by its place
pub waits_at : (ts : List Thread) (i : ℕ) (x : Thread) (lock : DetLock) (rows : List HistoryRow) (h : Stored)
    (wanted : Option Locking) → i < length ts → x ≡ get_or ts i x → AllHaveDecided ts lock rows h wanted
    → HasDecidedAt i x.phase lock rows h wanted
waits_at ts i x lock rows h wanted inside at all = subst (λ (t : Thread). HasDecidedAt i t.phase lock rows h wanted)
    (sym at) (all i x inside)

-- an event that gives nobody the table, and leaves the store to who has it
pub waits_answered : (ts : List Thread) (i : ℕ) (x v : Thread) (lock freed : DetLock) (rows later : List HistoryRow)
    (h new : Stored) (wanted now : Option Locking) → i < length ts → x ≡ get_or ts i x
    → BringsNoCall x.phase rows v.phase later
    → ((k : ℕ) → freed.holder ≡ Some k → LeavesWanted k lock rows h wanted later new now)
    → AllHaveDecided ts lock rows h wanted → AllHaveDecided (set ts i v) freed later new now
waits_answered ts i x v lock freed rows later h new wanted now inside at off kept all =
    waits_kept ts i x v lock freed rows later h new wanted now inside own (λ k apart held. kept k held) all
  where
    own : HasDecidedAt i v.phase freed later new now
    own held call is =
        let (was, calls, store, same) = kept i held in
        let before : IsWanted h call wanted = waits_at ts i x lock rows h wanted inside at all was call (off call is) in
        subst (λ (s : Stored). IsWanted s call now) (sym store)
        (subst (λ (w : Option Locking). IsWanted h call w) (sym same) before)

-- and one that leaves the store to all
pub waits_still : (ts : List Thread) (i : ℕ) (x v : Thread) (lock freed : DetLock) (rows later : List HistoryRow)
    (h : Stored) (wanted : Option Locking) → i < length ts → x ≡ get_or ts i x → BringsNoCall x.phase rows v.phase later
    → KeepsCalls rows later → ((k : ℕ) → freed.holder ≡ Some k → lock.holder ≡ Some k)
    → AllHaveDecided ts lock rows h wanted → AllHaveDecided (set ts i v) freed later h wanted
waits_still ts i x v lock freed rows later h wanted inside at off calls holders all =
    waits_answered ts i x v lock freed rows later h h wanted wanted inside at off
    (λ k held. (holders k held, calls, refl, refl)) all

-- at the start nobody holds the table
pub waits_first : (ts : List Thread) (lock : DetLock) (rows : List HistoryRow) (h : Stored) (wanted : Option Locking)
    → lock.holder ≡ None → AllHaveDecided ts lock rows h wanted
waits_first ts lock rows h wanted free k d inside held = absurd (none-some k (sym free ∙ held))

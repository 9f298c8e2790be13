-- A handle may cross to another thread: its session may, and so may the right to free its box.
use Rattle.std.proofs.Common.{Bool, Option, Some, None, Global}
use mir.Raw.{raw}
use base.Fraction.{full_share}
use base.Shift.{Keyless}
use denote.Memory.{lone}
use denote.Exit.{Exit, unchanged, leaves, hidden, under}
use denote.RattleType.{RattleType}
use denote.RawPtr.{Ptr, block_ptr, null_ptr, lies_at}
use denote.Struct.Struct.{exits_of}
use denote.Struct.Owning.{shape, fields, to}
use denote.Param.Send.{IsSend, AllSend, Quiet, part_keyless, owning_send, struct_send, sendable}
use Rattle.std.proofs.Crossing.{frees}
use Rattle.std.proofs.alloc.Global.TheSendSync as heap
use Rattle.detio_c.specs.Owned.{slot_owns}
use Rattle.detio_c.specs.contracts.session.Session as held
use Rattle.detio_c.proofs.session.Session.TheSendSync as session
use Rattle.detio_c.specs.contracts.handle.Handle.{the_row, the_type}

quiet : {D X : Type 0} (to : D → X) (e : Exit X) → Quiet e → Quiet (hidden (under to e))
quiet to unchanged q = λ x w. tt
quiet to (leaves L l S s r₀) q = λ d. q (to d)

lies : (R : RattleType) → IsSend R → (p : Ptr) (x : R.Denot) → Keyless (lies_at R full_share p x)
lies R s (block_ptr b o) x = part_keyless R s full_share x b o
lies R s null_ptr x = tt

slot_keyless : (l : Bool) (a : Global) (p : Ptr) (o : Option held.the_row.Denot)
    → Keyless (slot_owns held.the_row l a p o)
slot_keyless l a p (Some x) = (
  tt,
  (lies held.the_row session.the_send p x, frees.frees a (raw (lone held.the_row.mir)) p),
)
slot_keyless l a p None = tt

pub send : IsSend the_row
send =
    let all : AllSend (fields the_type) = (search sendable, (search sendable, (heap.the_field_send, tt))) in
    owning_send the_type all (λ d. slot_keyless d.live d.alloc d.at d.value)
    (λ k. quiet (to the_type) (exits_of k (fields the_type)) ((struct_send (shape the_type) all).leaving k))

-- A turn of a call, by the shape of what was decided of it.
use Rattle.std.proofs.Common.{◌≡◌, ◌+◌, Some, None, Result, Ok, Err, IfOk, Bool, true, false, refl, sym, ap, ◌∙◌, subst}
use Rattle.std.specs.Prelude.{nat_lt}
use Rattle.sequential_object.specs.Object.{State}
use Rattle.sequential_object.specs.Numbers.{world_with}
use Rattle.sequential_object.specs.Step as posix
use Rattle.sequential_object.specs.Step.{Carried, Stepped, asks, concluded, failed, is_again, nothing_carried, step}
use Rattle.sequential_object.specs.Step.{waited}
use Rattle.sequential_object.specs.Worlds.{World}
use Rattle.sequential_object.specs.declared.turn_end.ActEnd.{ActEnd}
use Rattle.posix_terms.specs.Calls.{Call}
use Rattle.posix_terms.specs.declared.carried.Moved.{Moved}
use Rattle.posix_terms.specs.declared.errno.Errno.{Errno}
use Rattle.posix_terms.specs.declared.reply.Answer.{Answer}
use Rattle.posix_terms.specs.declared.reply.Reply.TheVariants as reply
use Rattle.posix_terms.specs.declared.transcript.Settings.{Settings}
use Rattle.sequential_object.specs.Acts.{Blocks, Ending, Replies}
use Rattle.sequential_object.specs.Decided.{decided}
use Rattle.sequential_object.specs.Meant as meant
use Rattle.sequential_object.specs.Meant.{does, reply_outside, request_asked, request_kind}
use Rattle.sequential_object.specs.Renaming.{decision_by, deed_by, ok_by}
use Rattle.sequential_object.specs.So.{CanDo, IsSo}
use Rattle.sequential_object.specs.declared.decision.Decision.{Decision}
use Rattle.sequential_object.specs.declared.decision.Decision.TheVariants as decision
use Rattle.sequential_object.specs.declared.decision.Deed.{Deed}
use Rattle.descriptor_table.specs.Laws.{Follows, TableFollows}
use Rattle.descriptor_table.specs.Shows.{birth_at}
use Rattle.descriptor_table.specs.Table.{IsSound}
use Rattle.file_descriptions.specs.Descriptions.{AreSound}
use Rattle.descriptor_table.specs.View.{names_of, view}
use Rattle.call_turns.specs.Patience.{end_of, ended}
use Rattle.call_turns.specs.Store.{IsDecided, Stands, Stored, locking_of}
use Rattle.call_turns.specs.declared.patience.Locking.{Locking}
use Rattle.call_turns.proofs.Stepping.{stands_by}
use Rattle.call_turns.proofs.Putting.{stays}

-- what was decided, where its locking is known
pub decided_is : (d : Result Decision Errno) (x : Locking) → locking_of d ≡ Some x
    → d ≡ Ok (decision.Locks x.object x.deed)
decided_is (Ok (decision.Locks object does)) x is = cc
decided_is (Ok (decision.Replies r c)) x is = cc
decided_is (Err e) x is = cc

-- and the deed of it
pub decided_by : (h : Stored) (c : Call) (moved : Moved) (x : Locking) (d : Deed) → x.deed ≡ d → IsDecided h c moved x
    → IsDecided h c moved (record { object = x.object; deed = d })
decided_by h c moved x d is decided = subst (λ (y : Deed). IsDecided h c moved (record { object = x.object; deed = y }))
    is decided

-- a store that did not change stands for the world as it was left
pub stands_same : (law : TableFollows) (h : Stored) (w : World) → Stands h w → Stands h (world_with w w.object)
stands_same law h w st = stands_by h w st h.table w.object (stays law h w st) h.bodies st.contents

-- ## How an act ends

-- the state after a blocked turn is what it leaves, and its answer is no matter of that
pub waited_after : (settings : Settings) (after : State) (moved : Moved) (carried : Carried)
    → (waited settings after moved carried).after ≡ after
waited_after settings after moved carried = by_patience (nat_lt (carried.turns + 1) settings.patience)
  where
    by_patience : (b : Bool) → (posix.held_up b after moved carried).after ≡ after
    by_patience true = refl
    by_patience false = refl

abbrev pub answered : Stepped → Answer × Carried
answered stepped = (stepped.answer, stepped.carried)

waited_answer : (settings : Settings) (after s : State) (moved : Moved) (carried : Carried)
    → answered (waited settings after moved carried) ≡ answered (waited settings s moved carried)
waited_answer settings after s moved carried = by_patience (nat_lt (carried.turns + 1) settings.patience)
  where
    by_patience : (b : Bool) → answered (posix.held_up b after moved carried)
        ≡ answered (posix.held_up b s moved carried)
    by_patience true = refl
    by_patience false = refl

-- a turn that ended so, and left this
abbrev pub EndsSo : Settings → World → Carried → Stepped → ActEnd → Stored → Type 0
EndsSo settings w carried stepped e new =
    (answered stepped ≡ ended settings w.object carried e) × Stands new (world_with w stepped.after)

pub ends_by : (settings : Settings) (w : World) (carried : Carried) (ending : Ending) (after : State) (new : Stored)
    → ((e : Errno) → ending ≡ Replies (reply.Fail e) → after ≡ w.object)
    → Stands new (world_with w after)
    → EndsSo settings w carried (concluded settings w.object None carried (meant.ended after ending)) (end_of ending)
    new
ends_by settings w carried (Replies (reply.Fail e)) after new fails st =
    (refl, subst (λ (s : State). Stands new (world_with w s)) (fails e refl) st)
ends_by settings w carried (Replies (reply.Count n)) after new fails st = (refl, st)
ends_by settings w carried (Replies (reply.Data bytes)) after new fails st = (refl, st)
ends_by settings w carried (Replies (reply.Number n)) after new fails st = (refl, st)
ends_by settings w carried (Replies (reply.Pair a b)) after new fails st = (refl, st)
ends_by settings w carried (Replies (reply.Stat k n l)) after new fails st = (refl, st)
ends_by settings w carried (Replies reply.Done) after new fails st = (refl, st)
ends_by settings w carried (Blocks moved) after new fails st = (
  waited_answer settings after w.object moved carried,
  subst (λ (s : State). Stands new (world_with w s))
      (sym (waited_after settings after moved carried)) st,
)

-- ## What the step makes of it

module _ (law : TableFollows) (h : Stored) (w : World) (st : Stands h w) (c : Call) (carried : Carried) where
  follows : Follows h.table c carried.moved
  follows = law.calls h.table c carried.moved st.sound st.described

  pub effect_by : (d : Result Decision Errno) → decided (view h.table) c carried.moved ≡ d
      → posix.effect_of w.object c carried ≡ meant.meant w.object c (ok_by (decision_by (names_of h.table)) d)
  effect_by d is =
      ap (meant.meant w.object c) (follows.step w.object st.shows ∙ ap (ok_by (decision_by (names_of h.table))) is)

  -- what a call does that locks this
  pub effect_is : (x : Locking) → IsDecided h c carried.moved x
      → posix.effect_of w.object c carried
      ≡ does w.object c (birth_at h.table x.object) (deed_by (names_of h.table) x.deed)
  effect_is x is = effect_by (Ok (decision.Locks x.object x.deed))
      (decided_is (decided (view h.table) c carried.moved) x is)

-- what it needs is there
pub can_of : (law : TableFollows) (h : Stored) (c : Call) (moved : Moved) (x : Locking) → IsSound h.table
    → AreSound h.table.descriptions
    → IsDecided h c moved x → CanDo (view h.table) c x.object x.deed
can_of law h c moved x sound all is =
    let follows : Follows h.table c moved = law.calls h.table c moved sound all in
    subst (λ (d : Result Decision Errno). IfOk d (IsSo (view h.table) c))
    (decided_is (decided (view h.table) c moved) x is) follows.so

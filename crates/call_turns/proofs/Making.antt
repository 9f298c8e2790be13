-- A turn that ended where it was made, and one that the table alone answers or refuses.
use Rattle.std.proofs.Common.{◌≡◌, ℕ, None, Result, Ok, Err, refl, sym, ap, ◌∙◌, subst}
use Rattle.std.specs.Option.{option_map}
use Rattle.sequential_object.specs.Effects.{Effect}
use Rattle.sequential_object.specs.Object.{State}
use Rattle.sequential_object.specs.Numbers.{world_with}
use Rattle.sequential_object.specs.Answers.{answer_in, answered_with}
use Rattle.sequential_object.specs.Step as posix
use Rattle.sequential_object.specs.Step.{Carried, Stepped, asks, concluded, step, waited}
use Rattle.sequential_object.specs.Worlds.{World}
use Rattle.sequential_object.specs.declared.turn_end.ActEnd.TheVariants as act_end
use Rattle.sequential_object.specs.declared.turn_end.TurnEnd.{TurnEnd}
use Rattle.sequential_object.specs.declared.turn_end.TurnEnd.TheVariants as end
use Rattle.posix_terms.specs.Calls.{Call}
use Rattle.posix_terms.specs.declared.carried.Moved.{Moved}
use Rattle.posix_terms.specs.declared.errno.Errno.{Errno}
use Rattle.posix_terms.specs.declared.reply.Answer.{Answer}
use Rattle.posix_terms.specs.declared.reply.Reply.{Reply}
use Rattle.posix_terms.specs.declared.reply.Reply.TheVariants as reply
use Rattle.sequential_object.specs.Acts.{Blocks, Ending, Replies}
use Rattle.sequential_object.specs.Decided.{decided}
use Rattle.sequential_object.specs.Meant as meant
use Rattle.sequential_object.specs.declared.decision.Act.{Act}
use Rattle.sequential_object.specs.declared.decision.Change.{Change}
use Rattle.sequential_object.specs.declared.decision.Decision.{Decision}
use Rattle.sequential_object.specs.declared.decision.Decision.TheVariants as decision
use Rattle.sequential_object.specs.declared.decision.Deed.TheVariants as deed
use Rattle.descriptor_table.specs.Laws.{TableFollows}
use Rattle.descriptor_table.specs.View.{view}
use Rattle.call_turns.specs.Acting.{StandsChanged}
use Rattle.call_turns.specs.Patience.{Waits}
use Rattle.call_turns.specs.Store.{EndsTurn, IsDecided, Performs, Stands, Stored, locking_of, number_locked}
use Rattle.call_turns.specs.declared.patience.Locking.{Locking}
use Rattle.call_turns.specs.declared.patience.TurnStart.TheVariants as start
use Rattle.call_turns.proofs.Turning.{effect_by, effect_is, stands_same}

-- an act asks nothing outside
asks_nothing : (c : Call) (after : State) (ending : Ending) → posix.query_of c (meant.ended after ending) ≡ None
asks_nothing c after (Replies (reply.Fail e)) = refl
asks_nothing c after (Replies (reply.Count n)) = refl
asks_nothing c after (Replies (reply.Data bytes)) = refl
asks_nothing c after (Replies (reply.Number n)) = refl
asks_nothing c after (Replies (reply.Pair a b)) = refl
asks_nothing c after (Replies (reply.Stat k n l)) = refl
asks_nothing c after (Replies reply.Done) = refl
asks_nothing c after (Blocks moved) = refl

abbrev as_end : Answer × Carried → TurnEnd
as_end (a, b) = answered_with a b

module _ (law : TableFollows) (h : Stored) (c : Call) (carried : Carried) (object : ℕ) (a : Act) (x : Change)
    (decided : IsDecided h c carried.moved (record { object = object; deed = deed.Acts a x })) where
  request_none : (w : World) → Stands h w → asks w.object c carried ≡ None
  request_none w st =
      ap (posix.query_of c) (effect_is law h w st c carried (record { object = object; deed = deed.Acts a x }) decided)
      ∙ asks_nothing c _ _

  pub act_replied : (r : Reply) (new : Stored) (patience : ℕ) → EndsTurn carried h c (act_end.Reply r) new
      → Performs patience carried h c (start.Ended (end.Reply r)) new
  act_replied r new patience ends settings w same st = record {
    request = request_none w st;
    answer_is = ap as_end (ends settings w st).0;
    change = (ends settings w st).1;
  }

  pub act_waits : (moved : Moved) (e : TurnEnd) (new : Stored) (patience : ℕ)
      → EndsTurn carried h c (act_end.Waits moved) new → Waits patience moved carried e
      → Performs patience carried h c (start.Ended e) new
  act_waits moved e new patience ends waits settings w same st = record {
    request = request_none w st;
    answer_is = ap as_end (ends settings w st).0 ∙ waits settings w.object same;
    change = (ends settings w st).1;
  }

-- ## The table alone

pub refuses : (law : TableFollows) (h : Stored) (c : Call) (carried : Carried) (e : Errno)
    → decided (view h.table) c carried.moved ≡ Err e
    → (number_locked h c carried ≡ None)
    × ((patience : ℕ) → Performs patience carried h c (start.Ended (end.Reply (reply.Fail e))) h)
refuses law h c carried e is = (
  ap (λ (d : Result Decision Errno). option_map (λ (x : Locking). x.object) (locking_of d)) is,
  λ patience settings w same st.
      let effect = effect_by law h w st c carried (Err e) is in
      record {
        request = ap (posix.query_of c) effect;
        answer_is = ap (λ (r : Result Effect Errno). answer_in (concluded settings w.object None carried r)) effect;
        change = subst (λ (r : Result Effect Errno). Stands h
            (world_with w (concluded settings w.object None carried r).after)) (sym effect) (stands_same law h w st);
      },
)

pub replies_alone : (law : TableFollows) (h : Stored) (c : Call) (carried : Carried) (r : Reply) (x : Change)
    (new : Stored)
    → decided (view h.table) c carried.moved ≡ Ok (decision.Replies r x) → StandsChanged h c x new
    → (number_locked h c carried ≡ None)
    × ((patience : ℕ) → Performs patience carried h c (start.Ended (end.Reply r)) new)
replies_alone law h c carried r x new is stands = (
  ap (λ (d : Result Decision Errno). option_map (λ (x : Locking). x.object) (locking_of d)) is,
  λ patience settings w same st.
      let effect = effect_by law h w st c carried (Ok (decision.Replies r x)) is in
      record {
        request = ap (posix.query_of c) effect;
        answer_is = ap (λ (r : Result Effect Errno). answer_in (concluded settings w.object None carried r)) effect;
        change = subst (λ (r : Result Effect Errno). Stands new
            (world_with w (concluded settings w.object None carried r).after)) (sym effect) (stands w st);
      },
)

-- What each change of a state, each act on an object and each opened door keep true, each turn of each call keeps true.
use Rattle.std.proofs.Common.{◌&&◌, ℕ, List, Bool, true, false, Option, Some, None, Result, Ok, Err, if◌then◌else◌, sym}
use Rattle.std.proofs.Common.{subst}
use Rattle.std.specs.Prelude.{IfOk}
use Rattle.posix_terms.specs.Calls.{Call}
use Rattle.posix_terms.specs.declared.errno.Errno.{Errno}
use Rattle.posix_terms.specs.declared.outcome.Outcome.{Outcome}
use Rattle.posix_terms.specs.declared.outcome.Outcome.TheVariants as out
use Rattle.posix_terms.specs.declared.reply.Reply.TheVariants as reply
use Rattle.posix_terms.specs.declared.transcript.Settings.{Settings}
use Rattle.sequential_object.specs.Acts.{Ending, Replies}
use Rattle.sequential_object.specs.Acts as ending
use Rattle.sequential_object.specs.Changes.{changed, door_opened}
use Rattle.sequential_object.specs.Decided.{decided}
use Rattle.sequential_object.specs.Effects.{Asks, Blocks, Completes, Effect, nothing_moved}
use Rattle.sequential_object.specs.Meant.{acted_at, ended, meant, put, seen}
use Rattle.sequential_object.specs.Object.{State}
use Rattle.sequential_object.specs.So.{Can, CanAct, ChangesWith, IsOpening, IsSo}
use Rattle.sequential_object.specs.Step.{Carried, concluded, effect_of, failed, is_again, step, waited}
use Rattle.sequential_object.specs.declared.decision.Act.{Act}
use Rattle.sequential_object.specs.declared.decision.Change.{Change}
use Rattle.sequential_object.specs.declared.decision.Change.TheVariants as change
use Rattle.sequential_object.specs.declared.decision.Decision.{Decision}
use Rattle.sequential_object.specs.declared.decision.Decision.TheVariants as decision
use Rattle.sequential_object.specs.declared.decision.Deed.TheVariants as deed
use Rattle.sequential_object.specs.declared.decision.NewDescriptor.{NewDescriptor}
use Rattle.sequential_object.proofs.Outside.{so_of, waited_alone, waited_leaves}

-- the state that an act leaves
abbrev pub after_act : State → ℕ → Act → Call → State
after_act s object a c = put s object a (acted_at s object a c)

-- the parts of a turn keep this true
pub record Keeps (P : State → Type 0) : Type 0 where
  pub by_change : (s : State) (c : Call) (x : Change) → Can (seen s) c x → P s → P (changed s c x)
  pub by_act : (s : State) (c : Call) (object : ℕ) (a : Act) (x : Change)
      → CanAct (seen s) c object a → ChangesWith object a x → P s
      → P (changed s c x) → P (after_act (changed s c x) object a c)
  pub by_door : (s : State) (c : Call) (listener : Option ℕ) (new : NewDescriptor) (value : ℕ)
      → IsOpening (seen s) c listener new → P s → P (door_opened s c new value)

module _ (P : State → Type 0) where
  -- ## All effects

  abbrev Leaves : Result Effect Errno → Type 0
  Leaves (Ok (Completes after r)) = P after
  Leaves (Ok (Blocks after moved)) = P after
  Leaves (Ok (Asks a)) = ((value : ℕ) (bytes : List ℕ) → P (a.succeeds value bytes).0) × P a.otherwise
  Leaves (Err e) = Unit {0}

  ended_leaves : (after : State) (e : Ending) → P after → Leaves (ended after e)
  ended_leaves after (Replies (reply.Fail e)) h = tt
  ended_leaves after (Replies r) h = h
  ended_leaves after (ending.Blocks moved) h = h

  effect_leaves : Keeps P → (s : State) (c : Call) (r : Result Decision Errno) → IfOk r (IsSo (seen s) c) → P s
      → Leaves (meant s c r)
  effect_leaves keeps s c (Err e) so h = tt
  effect_leaves keeps s c (Ok (decision.Replies r x)) so h = keeps.by_change s c x so.0 h
  effect_leaves keeps s c (Ok (decision.Locks object (deed.Acts a x))) so h =
      let after : State = changed s c x in
      let done = acted_at after object a c in
      ended_leaves (put after object a done) done.ending
      (keeps.by_act s c object a x so.1 so.2 h (keeps.by_change s c x so.0 h))
  effect_leaves keeps s c (Ok (decision.Locks object (deed.Asks blocks))) so h = ((λ value bytes. h), h)
  effect_leaves keeps s c (Ok (decision.Locks object (deed.Closes n key))) so h =
      let left = keeps.by_change s c (change.Close n key) so.1 h in
      ((λ value bytes. left), left)
  effect_leaves keeps s c (Ok (decision.Locks object (deed.Opens blocks listener new))) so h =
      ((λ value bytes. keeps.by_door s c listener new value so.0 h), h)

  -- ## The step

  by_step : (settings : Settings) (s : State) (outcome : Option Outcome) (carried : Carried) (r : Result Effect Errno)
      → P s → Leaves r → P (concluded settings s outcome carried r).after
  by_step settings s outcome carried (Ok (Completes after x)) stays h = h
  by_step settings s outcome carried (Ok (Blocks after moved)) stays h =
      subst P (sym (waited_leaves settings after moved carried)) h
  by_step settings s (Some (out.Ok value bytes)) carried (Ok (Asks a)) stays h = h.0 value bytes
  by_step settings s (Some (out.Fail e)) carried (Ok (Asks a)) stays h = by_test (a.waits && is_again e) h.1
    where
      by_test : (b : Bool) → P a.otherwise
          → P (if b then waited settings s nothing_moved carried else failed a.otherwise e).after
      by_test true otherwise = subst P (sym (waited_alone settings s carried)) stays
      by_test false otherwise = otherwise
  by_step settings s None carried (Ok (Asks a)) stays h = h.1
  by_step settings s outcome carried (Err e) stays h = stays

  pub step_keeps : Keeps P
      → (settings : Settings) (s : State) (c : Call) (outcome : Option Outcome) (carried : Carried)
      → P s → P (step settings s c outcome carried).after
  step_keeps keeps settings s c outcome carried h =
      by_step settings s outcome carried (effect_of s c carried) h
      (effect_leaves keeps s c (decided (seen s) c carried.moved) (so_of s c carried.moved) h)

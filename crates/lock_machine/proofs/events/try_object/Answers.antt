use Rattle.std.proofs.Common.{◌≡◌, ◌+◌, ◌^◌, Some, true, false, refl, sym, ap, ◌∙◌, subst, rules}
use Rattle.std.proofs.lemmas.Bool.{false≢true}
use Rattle.det_mutex.specs.Attempt.{freed}
use Rattle.logical_clocks.specs.ThreadClocks.{clock_at}
use Rattle.sequential_object.specs.Locked.{keeps_table}
use Rattle.lock_machine.specs.Events.{GrantsObject, Parts, in_time, object_cost, object_taken, parts, takes_object}
use Rattle.lock_machine.specs.Threads.{timed}
use Rattle.lock_machine.specs.declared.machine.Shared.{Shared}
use Rattle.lock_machine.specs.declared.thread.Phase.TheVariants as phase
use Rattle.lock_machine.proofs.Granting.{reached_granted, reached_parts, taken_some}
use Rattle.lock_machine.specs.Births.{BornWithin}
use Rattle.lock_machine.specs.Waiting.{HasRoom, rows_due}
use Rattle.lock_machine.specs.declared.thread.Phase.{Phase}
use Rattle.lock_machine.proofs.Bearing.{few_born}
use Rattle.lock_machine.specs.Wanted.{HasDecided}
use Rattle.lock_machine.proofs.events.try_object.Goals as goal
use Rattle.lock_machine.proofs.events.try_object.Goals.{then-is_some+then-not-keeps, else-is_some}
use Rattle.lock_machine.proofs.events.try_object.Goals.{else-is_some-via-then-is_some+else-not-keeps}
use Rattle.lock_machine.proofs.events.try_object.Goals.{else-is_some-via-else-is_some, then-not-keeps-2}
use Rattle.lock_machine.proofs.events.try_object.Goals.{else-not-keeps-2}

pub returns-clause-event : goal.returns-clause-event
returns-clause-event c =
    let shared = c.args.shared.now in
    let want = c.in-WantsObject in
    let start = clock_at c.args.clocks.now c.args.i in
    let now = clock_at c.add.new.self c.args.i in
    let old : Parts = parts (timed c.args.thread.now start) shared.lock shared.store.value shared.rows.items in
    let new : Parts = parts (timed c.grant_object.new.thread now) c.grant_object.new.shared.lock
    c.grant_object.new.shared.store.value c.grant_object.new.shared.rows.items in
    let is : c.args.thread.now.phase ≡ phase.WantsObject want.call want.carried want.clock want.object = search rules in
    let tried : object_taken (takes_object c.args.i c.args.lock.now old) c.args.i c.args.lock.now
    ≡ Some c.in-Some.taken = search rules in
    let taken = taken_some (takes_object c.args.i c.args.lock.now old) c.args.i c.args.lock.now c.in-Some.taken tried in
    let cost : c.if-is_some.cost ≡ object_cost true (keeps_table want.call) =
    elim c.if-is_some.branch [
      | then-is_some+then-not-keeps w ↦
          let frees : keeps_table want.call ≡ false = search rules in
          w.cost-is ∙ ap (object_cost true) (sym frees)
      | else-is_some w ↦
          elim w.else-is_some.branch [
            | else-is_some-via-then-is_some+else-not-keeps v ↦
                let keeps : keeps_table want.call ≡ true = search rules in
                w.cost-is ∙ ap (object_cost true) (sym keeps)
            | else-is_some-via-else-is_some v ↦ search rules
          ]
    ] in
    let within : in_time old c.if-is_some.cost ≡ true = search rules in
    let room : in_time old (object_cost true (keeps_table want.call)) ≡ true = ap (in_time old) (sym cost) ∙ within in
    let moved : now ≡ start + c.if-is_some.cost = search rules in
    let clock : now ≡ start + object_cost true (keeps_table want.call) = moved ∙ ap (λ n. start + n) cost in
    let P : Shared → Type 0 = λ s. GrantsObject c.args.patience c.args.thread.now.phase c.args.i
    (parts (timed c.args.thread.now now) s.lock s.store.value s.rows.items) new in
    elim c.if-not-keeps-2.branch [
      | then-not-keeps-2 w ↦
          let frees : keeps_table want.call ≡ false = search rules in
          let lock : w.free.new.self ≡ freed (start + 1) = search rules in
          reached_granted c.args.patience c.args.i now want.call want.carried want.clock want.object w.free.new.self
          c.args.lock.now c.in-Some.taken old new is taken.0 room
          (reached_parts (keeps_table want.call) now w.free.new.self old clock
          (λ keeps. absurd (false≢true (sym frees ∙ keeps))) (λ e. lock)) taken.1
          (subst P w.shared-is (c.grant_object.ensures.event now))
      | else-not-keeps-2 w ↦
          let keeps : keeps_table want.call ≡ true = search rules in
          reached_granted c.args.patience c.args.i now want.call want.carried want.clock want.object shared.lock
          c.args.lock.now c.in-Some.taken old new is taken.0 room
          (reached_parts (keeps_table want.call) now shared.lock old clock (λ e. refl)
          (λ frees. absurd (false≢true (sym frees ∙ keeps)))) taken.1
          (subst P w.shared-is (c.grant_object.ensures.event now))
    ]

pub grant_object-requires-clause-born : goal.grant_object-requires-clause-born
grant_object-requires-clause-born c =
    let own = few_born c.args.clocks.now c.args.shared.now.store.value c.requires.few
    c.clock-now.ensures.all_within_limit c.requires.born in
    let P : Shared → Type 0 = λ s. BornWithin (2 ^ 126) s.store.value in
    elim c.if-not-keeps-2.branch [
      | then-not-keeps-2 w ↦ subst P (sym w.shared-is) own
      | else-not-keeps-2 w ↦ subst P (sym w.shared-is) own
    ]

pub grant_object-requires-clause-row : goal.grant_object-requires-clause-row
grant_object-requires-clause-row c =
    let want = c.in-WantsObject in
    let is : c.args.thread.now.phase ≡ phase.WantsObject want.call want.carried want.clock want.object = search rules in
    let own = subst (λ (p : Phase). HasRoom (rows_due p) c.args.shared.now.rows) is c.requires.row in
    let P : Shared → Type 0 = λ s. HasRoom 1 s.rows in
    elim c.if-not-keeps-2.branch [
      | then-not-keeps-2 w ↦ subst P (sym w.shared-is) own
      | else-not-keeps-2 w ↦ subst P (sym w.shared-is) own
    ]

pub grant_object-requires-clause-decided : goal.grant_object-requires-clause-decided
grant_object-requires-clause-decided c =
    let held : c.args.shared.now.lock.holder ≡ Some c.args.i = search rules in
    let own : HasDecided c.args.thread.now.phase c.args.shared.now.rows.items c.args.shared.now.store.value
    c.args.shared.now.wanted = c.requires.decided held in
    let P : Shared → Type 0 = λ s. HasDecided c.args.thread.now.phase s.rows.items s.store.value s.wanted in
    elim c.if-not-keeps-2.branch [
      | then-not-keeps-2 w ↦ subst P (sym w.shared-is) own
      | else-not-keeps-2 w ↦ subst P (sym w.shared-is) own
    ]

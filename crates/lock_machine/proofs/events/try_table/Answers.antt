use Rattle.std.proofs.Common.{◌≡◌, ◌+◌, true, ap, subst, rules}
use Rattle.det_mutex.specs.Attempt.{held, takes}
use Rattle.posix_terms.specs.declared.transcript.Turn.{Turn}
use Rattle.logical_clocks.specs.ThreadClocks.{clock_at}
use Rattle.lock_machine.specs.Events.{Parts, in_time, parts}
use Rattle.lock_machine.specs.Threads.{timed}
use Rattle.lock_machine.specs.declared.thread.Phase.TheVariants as phase
use Rattle.lock_machine.proofs.Granting.{tried_planned}
use Rattle.lock_machine.specs.Waiting.{HasRoom, rows_due}
use Rattle.lock_machine.specs.declared.thread.Phase.{Phase}
use Rattle.lock_machine.proofs.Bearing.{few_born}
use Rattle.lock_machine.proofs.events.try_table.Goals as goal

pub returns-then-attempt-clause-event : goal.returns-then-attempt-clause-event
returns-then-attempt-clause-event c =
    let shared = c.args.shared.now in
    let start = clock_at c.args.clocks.now c.args.i in
    let now = clock_at c.add.new.self c.args.i in
    let old : Parts = parts (timed c.args.thread.now start) shared.lock shared.store.value shared.rows.items in
    let new : Parts = parts (timed c.plan.new.thread now) c.plan.new.shared.lock c.plan.new.shared.store.value
    c.plan.new.shared.rows.items in
    let is : c.args.thread.now.phase ≡ phase.WantsTable c.in-WantsTable.call c.in-WantsTable.carried = search rules in
    let room : in_time old 1 ≡ true = search rules in
    let free : takes shared.lock start ≡ true = search rules in
    let clock : now ≡ start + 1 = search rules in
    let lock : c.attempt.new.self ≡ held c.args.i shared.lock = search rules in
    tried_planned c.args.patience c.args.i now c.in-WantsTable.call c.in-WantsTable.carried c.replace.new.dest _
    c.attempt.new.self old new is room free clock
    (ap (λ n. let t : Turn = record { clock = n; thread = c.args.i } in t) c.clock-clock.ensures.value) lock
    (c.plan.ensures.event now)

pub plan-requires-clause-born : goal.plan-requires-clause-born
plan-requires-clause-born c =
    few_born c.args.clocks.now c.args.shared.now.store.value c.requires.few c.clock-clock.ensures.all_within_limit
    c.requires.born

pub plan-requires-clause-row : goal.plan-requires-clause-row
plan-requires-clause-row c =
    let is : c.args.thread.now.phase ≡ phase.WantsTable c.in-WantsTable.call c.in-WantsTable.carried = search rules in
    subst (λ (p : Phase). HasRoom (rows_due p) c.args.shared.now.rows) is c.requires.row

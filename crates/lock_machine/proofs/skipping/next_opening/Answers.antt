use Rattle.std.proofs.Common.{◌≡◌, ◌+◌, ◌<◌, ℕ, Option, None, Some, length, sym, subst, arith}
use Rattle.posix_terms.specs.declared.transcript.Turn.{Turn}
use Rattle.std.specs.Prelude.{IfSome}
use Rattle.lock_machine.specs.Skipping.{Opens, phase_of}
use Rattle.lock_machine.proofs.Openings.{IsLeast, IsOpening, earlier_opens, later_opens, least_fails, none_least}
use Rattle.lock_machine.proofs.Openings.{opening_at, opens_at}
use Rattle.logical_clocks.specs.ThreadClocks.{clock_at}
use Rattle.lock_machine.proofs.skipping.next_opening.Goals as goal
use Rattle.lock_machine.proofs.skipping.next_opening.Goals.{in-Some+then-clock-turn, in-Some+else-clock-turn}
use Rattle.lock_machine.proofs.skipping.next_opening.Goals.{in_default}

pub loop-i-init : goal.loop-i-init
loop-i-init c = none_least c.args.table c.args.objects.now c.args.threads.now c.args.clocks.now

pub loop-i-preserved : goal.loop-i-preserved
loop-i-preserved c =
    let ts = c.args.threads.now in
    let cs = c.args.clocks.now in
    let table = c.args.table in
    let objects = c.args.objects.now in
    let n = c.loop-i.i in
    let P : Turn → Type 0 = IsLeast table objects ts cs (n + 1) in
    let O : Option ℕ → Type 0 = λ o. IsOpening table objects (clock_at cs n) (phase_of ts n) o in
    let at : IsOpening table objects c.clock.result (phase_of ts n) c.opening.result =
    opening_at table objects ts n c.clock.result c.index-threads-i.result c.opening.result
    c.opening.ensures.fails c.loop-i-test.true in
    let S : Option ℕ → Type 0 = λ o. IfSome o (λ opens. Opens table objects (clock_at cs n) opens (phase_of ts n)) in
    let opens_there : IfSome c.opening.result (λ opens. Opens table objects c.clock.result opens (phase_of ts n)) =
    opens_at table objects ts n c.clock.result c.index-threads-i.result c.opening.result c.opening.ensures.opens
    c.loop-i-test.true in
    let opens : S c.opening.result =
    subst (λ (k : ℕ). IfSome c.opening.result (λ opens. Opens table objects k opens (phase_of ts n)))
    c.clock.ensures.value opens_there in
    let opening : O c.opening.result = subst (λ (k : ℕ). IsOpening table objects k (phase_of ts n) c.opening.result)
    c.clock.ensures.value at in
    elim c.match-opening.branch [
      | in-Some+then-clock-turn w ↦
          subst P (sym w.turn-is) (earlier_opens table objects ts cs n w.in-Some.clock c.loop-i.turn c.loop-i.invariant
          (subst O w.in-Some.is opening) c.loop-i-test.true (subst S w.in-Some.is opens) w.if-clock-turn.true)
      | in-Some+else-clock-turn w ↦
          subst P (sym w.turn-is) (later_opens table objects ts cs n c.loop-i.turn (Some w.in-Some.clock)
          c.loop-i.invariant (subst O w.in-Some.is opening) w.if-clock-turn.false)
      | in_default w ↦ subst P (sym w.turn-is)
          (later_opens table objects ts cs n c.loop-i.turn None c.loop-i.invariant (subst O w.in_default.is opening) tt)
    ]

pub returns-clause-fails : goal.returns-clause-fails
returns-clause-fails c =
    let all : c.loop-i.i ≡ length c.args.threads.now = omega arith in
    λ j inside. least_fails c.args.table c.args.objects.now c.args.threads.now c.args.clocks.now c.loop-i.i
    c.loop-i.turn c.loop-i.invariant j (subst (λ (n : ℕ). j < n) (sym all) inside)

pub returns-clause-due : goal.returns-clause-due
returns-clause-due c = c.loop-i.invariant.due

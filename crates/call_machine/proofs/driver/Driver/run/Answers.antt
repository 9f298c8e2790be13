use Rattle.std.proofs.Common.{◌≡◌, ◌<◌, ◌≤◌, ℕ, Bool, Option, Some, length, ◌∙◌, sym, subst, arith, rules}
use Rattle.call_machine.specs.Driven.{AttemptsNext, GoesOn, MadeNext}
use Rattle.call_machine.specs.Playing.{played_of}
use Rattle.call_machine.proofs.Scheduling.{ends_again, ends_first, goes_lower, none_gone, one_gone, rests_again}
use Rattle.call_machine.proofs.Scheduling.{rests_but, rests_for}
use Rattle.call_machine.proofs.driver.Driver.run.Goals as goal

pub loop-i-init : goal.loop-i-init
loop-i-init g c = none_gone c.laws.ensures.starts (played_of c.args.self.now)

pub go_on-requires-clause-rests : goal.go_on-requires-clause-rests
go_on-requires-clause-rests g c =
    let i = c.loop-i.i in
    let now = played_of c.loop-i.self in
    (c.requires.0, i, omega arith, rests_but c.requires.0 i i now (c.loop-i.invariant.rests c.requires.0 c.requires.1))

pub returns-then-branch : goal.returns-then-branch
returns-then-branch g c input h =
    let now = played_of c.loop-i.self in
    let new = played_of c.go_on.new.self in
    let Q : Bool → Type 0 = λ b. GoesOn b c.loop-i.i now new in
    ends_first input c.loop-i.i now new (c.loop-i.invariant.rests input h)
    (subst Q c.if-branch.true c.in_ok-go_on.ensures.event)

pub loop-i-preserved : goal.loop-i-preserved
loop-i-preserved g c =
    let now = played_of c.loop-i.self in
    let new = played_of c.go_on.new.self in
    let Q : Bool → Type 0 = λ b. GoesOn b c.loop-i.i now new in
    one_gone c.loop-i.i (played_of c.args.self.now) now new c.loop-i.invariant c.in_ok-go_on.ensures.count
    (subst Q c.if-branch.false c.in_ok-go_on.ensures.event)

pub loop-i-2-init : goal.loop-i-2-init
loop-i-2-init g c input h =
    let now = played_of c.loop-i.self in
    let count : length now.players ≡ length (played_of c.args.self.now).players = c.loop-i.invariant.count in
    let all : c.loop-i.i ≡ length now.players = search rules in
    rests_for input c.loop-i.i (length now.players) now all (c.loop-i.invariant.rests input h)

pub returns-in_default : goal.returns-in_default
returns-in_default g c input h =
    let now = played_of c.loop-i-2.self in
    let mid = played_of c.attempt_next.new.self in
    let Q : Option ℕ → Type 0 = λ o. AttemptsNext o now mid in
    subst Q c.in_default.is c.in_ok-i.ensures.event input (c.loop-i-2.invariant input h)

pub go_on-requires-in-loop-i-2-clause-rests : goal.go_on-requires-in-loop-i-2-clause-rests
go_on-requires-in-loop-i-2-clause-rests g c =
    let now = played_of c.loop-i-2.self in
    let mid = played_of c.attempt_next.new.self in
    let Q : Option ℕ → Type 0 = λ o. AttemptsNext o now mid in
    let made : MadeNext (Some c.in-Some.i) c.requires.0 (length now.players) now mid =
    subst Q c.in-Some.is c.in_ok-i.ensures.event c.requires.0 (c.loop-i-2.invariant c.requires.0 c.requires.1)
    in
    (c.requires.0, length now.players, no_more c.in-Some.i (length now.players) made.0, made.1)
  where
    no_more : (i n : ℕ) → i < n → i ≤ n
    no_more i n inside = omega arith

pub go_on-requires-in-loop-i-2-clause-inside : goal.go_on-requires-in-loop-i-2-clause-inside
go_on-requires-in-loop-i-2-clause-inside g c =
    let now = played_of c.loop-i-2.self in
    let mid = played_of c.attempt_next.new.self in
    let Q : Option ℕ → Type 0 = λ o. AttemptsNext o now mid in
    let made : MadeNext (Some c.in-Some.i) c.requires.0 (length now.players) now mid =
    subst Q c.in-Some.is c.in_ok-i.ensures.event c.requires.0 (c.loop-i-2.invariant c.requires.0 c.requires.1)
    in
    subst (λ (n : ℕ). c.in-Some.i < n) (sym c.in_ok-i.ensures.count) made.0

pub returns-then-branch-2 : goal.returns-then-branch-2
returns-then-branch-2 g c input h =
    let now = played_of c.loop-i-2.self in
    let mid = played_of c.attempt_next.new.self in
    let new = played_of c.go_on-in-loop-i-2.new.self in
    let Q : Option ℕ → Type 0 = λ o. AttemptsNext o now mid in
    let made : MadeNext (Some c.in-Some.i) input (length now.players) now mid =
    subst Q c.in-Some.is c.in_ok-i.ensures.event input (c.loop-i-2.invariant input h) in
    let R : Bool → Type 0 = λ b. GoesOn b c.in-Some.i mid new in
    ends_again input c.in-Some.i (length now.players) mid new made.0 made.1
    (subst R c.if-branch-2.true c.in_ok-go_on-2.ensures.event)

pub loop-i-2-preserved : goal.loop-i-2-preserved
loop-i-2-preserved g c input h =
    let now = played_of c.loop-i-2.self in
    let mid = played_of c.attempt_next.new.self in
    let new = played_of c.go_on-in-loop-i-2.new.self in
    let Q : Option ℕ → Type 0 = λ o. AttemptsNext o now mid in
    let made : MadeNext (Some c.in-Some.i) input (length now.players) now mid =
    subst Q c.in-Some.is c.in_ok-i.ensures.event input (c.loop-i-2.invariant input h) in
    let R : Bool → Type 0 = λ b. GoesOn b c.in-Some.i mid new in
    let count : length now.players ≡ length new.players =
    sym (c.in_ok-go_on-2.ensures.count ∙ c.in_ok-i.ensures.count) in
    rests_again input c.in-Some.i (length now.players) mid new made.0 count made.1
    (subst R c.if-branch-2.false c.in_ok-go_on-2.ensures.event)

pub loop-i-2-smaller : goal.loop-i-2-smaller
loop-i-2-smaller g c =
    let now = played_of c.loop-i-2.self in
    let mid = played_of c.attempt_next.new.self in
    let new = played_of c.go_on-in-loop-i-2.new.self in
    let Q : Option ℕ → Type 0 = λ o. AttemptsNext o now mid in
    let input = c.requires.0 in
    let made : MadeNext (Some c.in-Some.i) input (length now.players) now mid =
    subst Q c.in-Some.is c.in_ok-i.ensures.event input (c.loop-i-2.invariant input c.requires.1) in
    let R : Bool → Type 0 = λ b. GoesOn b c.in-Some.i mid new in
    goes_lower input c.in-Some.i (length now.players) now mid new made.0 made.1
    (subst R c.if-branch-2.false c.in_ok-go_on-2.ensures.event) made.2

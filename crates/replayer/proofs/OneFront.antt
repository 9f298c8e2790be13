-- A text has one log at its front at most, and none where a replay tells of another fault.
use Rattle.std.proofs.Common.{◌≡◌, ℕ, ◌≤◌, List, length, take, Result, Ok, Err, sym, ap, ◌∙◌, subst, inl, inr, arith}
use Rattle.call_machine.specs.Plain.{IsPlainRun}
use Rattle.call_machine.specs.declared.plain.Plain.{Plain}
use Rattle.input_log.specs.Faults.{Fault, HasFault, bad_magic, bad_record, bad_version, torn}
use Rattle.input_log.specs.Fronts.{IsFront}
use Rattle.input_log.specs.Grammar.{Spells}
use Rattle.input_log.specs.declared.fault.LogFault.{LogFault}
use Rattle.input_log.specs.declared.fault.LogFault.TheVariants as log_fault
use Rattle.input_log.specs.declared.log.LogText.{LogText}
use Rattle.thread_scripts.specs.declared.line.Line.{Line}
use Rattle.replayer.specs.Replay.{IsReplay, Replays, Tells, inputs_of}
use Rattle.replayer.specs.declared.fault.ReplayFault.{ReplayFault}
use Rattle.replayer.specs.declared.fault.ReplayFault.TheVariants as replay_fault
use Rattle.replayer.specs.declared.replayed.Replayed.{Replayed}
use Rattle.replayer.specs.Known.{Known}

abbrev place_in : Fault → ℕ
place_in (torn place count) = place
place_in fault = 0

same_place : Known → (text : List ℕ) (p q n m : ℕ) → HasFault text (torn p n) → HasFault text (torn q m) → p ≡ q
same_place known text p q n m h g = ap place_in (known.one_fault text (torn p n) (torn q m) h g)

-- one log at most
pub one_front : Known → (text : List ℕ) (a b : LogText) → IsFront text a → IsFront text b → a ≡ b
one_front known text a b (inl one) (inl other) = known.one_value text a b one other
one_front known text a b (inl one) (inr tear) =
    absurd (known.no_fault text a (torn tear.place tear.count) one tear.fault)
one_front known text a b (inr tear) (inl other) =
    absurd (known.no_fault text b (torn tear.place tear.count) other tear.fault)
one_front known text a b (inr tear) (inr other) =
    let same : other.place ≡ tear.place = same_place known text other.place tear.place other.count tear.count
    other.fault tear.fault in
    known.one_value (take tear.place text) a b tear.spelled
    (subst (λ (p : ℕ). Spells (take p text) b) same other.spelled)

-- no fault but a tear after the header
no_fault : Known → (text : List ℕ) (log : LogText) (fault : Fault) → IsFront text log → HasFault text fault
    → ((place count : ℕ) → fault ≡ torn place count → 16 ≤ place → ⊥) → ⊥
no_fault known text log fault (inl whole) h behind = known.no_fault text log fault whole h
no_fault known text log fault (inr tear) h behind =
    behind tear.place tear.count (known.one_fault text fault (torn tear.place tear.count) h tear.fault) tear.behind

abbrev IsTear : Fault → Type 0
IsTear (torn place count) = Unit {0}
IsTear fault = ⊥

not_torn : (fault : Fault) → (IsTear fault → ⊥) → (place count : ℕ) → fault ≡ torn place count → 16 ≤ place → ⊥
not_torn fault not place count same behind = not (subst IsTear (sym same) tt)

pub log_faultless : Known → (text : List ℕ) (scripts : List (List Line)) (log : LogText) (fault : LogFault)
    → IsFront text log → Replays text scripts (Err (replay_fault.Log fault)) → ⊥
log_faultless known text scripts log log_fault.Memory is h = h
log_faultless known text scripts log log_fault.BadMagic is h =
    no_fault known text log bad_magic is h (not_torn bad_magic (λ e. e))
log_faultless known text scripts log log_fault.BadVersion is h =
    no_fault known text log bad_version is h (not_torn bad_version (λ e. e))
log_faultless known text scripts log (log_fault.BadRecord place) is h =
    no_fault known text log (bad_record place) is h (not_torn (bad_record place) (λ e. e))
log_faultless known text scripts log (log_fault.Torn place count) is h =
    no_fault known text log (torn place count) is h.0 (λ p n same behind. let here : place ≡ p = ap place_in same in
    omega (arith, h.1, behind, here))

-- with as many scripts as it has threads
pub no_other : Known → (text : List ℕ) (scripts : List (List Line)) (log : LogText) → IsFront text log
    → log.header.threads ≡ length scripts → Replays text scripts (Err replay_fault.Threads) → ⊥
no_other known text scripts log is threads h =
    let (other, front, apart) = h in
    apart (ap (λ (l : LogText). l.header.threads) (one_front known text other log front is) ∙ threads)

-- what a replay of a log gives: the plain run by that log, and what is told of it
pub record IsToldBy (log : LogText) (scripts : List (List Line)) (result : Result Replayed ReplayFault) : Type 0 where
  pub plain : Plain
  pub run : IsPlainRun (inputs_of log scripts) plain
  pub tells : Tells log plain plain.stop result

by_log : Known → (text : List ℕ) (scripts : List (List Line)) (log : LogText) (result : Result Replayed ReplayFault)
    → IsFront text log → IsReplay text scripts result → IsToldBy log scripts result
by_log known text scripts log result is (found, plain, by, tells) =
    subst (λ (l : LogText). IsToldBy l scripts result) (one_front known text found log by.front is)
    (record { plain = plain; run = by.run; tells = tells })

-- or memory ran out
pub told_or_memory : Known → (text : List ℕ) (scripts : List (List Line)) (log : LogText)
    (result : Result Replayed ReplayFault) (Q : Result Replayed ReplayFault → Type 0)
    → IsFront text log → log.header.threads ≡ length scripts → Q (Err replay_fault.Memory)
    → (IsToldBy log scripts result → Q result) → Replays text scripts result → Q result
told_or_memory known text scripts log (Err replay_fault.Memory) Q is threads memory told h = memory
told_or_memory known text scripts log (Err (replay_fault.Log fault)) Q is threads memory told h =
    absurd (log_faultless known text scripts log fault is h)
told_or_memory known text scripts log (Err replay_fault.Threads) Q is threads memory told h =
    absurd (no_other known text scripts log is threads h)
told_or_memory known text scripts log (Ok replayed) Q is threads memory told h =
    told (by_log known text scripts log (Ok replayed) is h)
told_or_memory known text scripts log (Err (replay_fault.EndOfLog i t)) Q is threads memory told h =
    told (by_log known text scripts log (Err (replay_fault.EndOfLog i t)) is h)
told_or_memory known text scripts log (Err (replay_fault.Diverged i n t)) Q is threads memory told h =
    told (by_log known text scripts log (Err (replay_fault.Diverged i n t)) is h)
told_or_memory known text scripts log (Err (replay_fault.ClockFull t)) Q is threads memory told h =
    told (by_log known text scripts log (Err (replay_fault.ClockFull t)) is h)

-- Believed: a contract of a command stands on it.
-- The outcomes of threads with that of a case in the place of one.
use Rattle.std.specs.Prelude.{ℕ, ◌==◌, ◌&&◌, if◌then◌else◌, List, map, take}
use Rattle.std.specs.List.{enumerate_from}
use Rattle.posix_terms.specs.declared.outcome.Given.{Given}
use Rattle.posix_terms.specs.declared.outcome.Outcome.{Outcome}
use Rattle.posix_terms.specs.declared.outcome.Outcome.TheVariants as outcome
use Rattle.explorer.specs.Subject.{Subject}
use Rattle.fault_injection.specs.declared.cases.FaultCase.{FaultCase}
use Rattle.fault_injection.specs.declared.injected.Injected.{Injected}
use Rattle.fault_injection.specs.declared.injected.Injected.TheVariants as injected

-- what comes in place of an outcome: a failure; or of a success so many bytes, of which those of a
-- read are its first. A failure has no bytes, and stays
abbrev pub injected_in : Injected → Outcome → Outcome
injected_in (injected.Fail error) recorded = outcome.Fail error
injected_in (injected.Short count) (outcome.Ok value bytes) = outcome.Ok count (take count bytes)
injected_in (injected.Short count) (outcome.Fail error) = outcome.Fail error

-- an outcome of this thread and number: that of the case is replaced, and keeps its kind
abbrev pub given_in : FaultCase → ℕ → ℕ × Given → Given
given_in case thread (number, given) =
    if thread == case.thread && number == case.number
    then record given { outcome = injected_in case.injected given.outcome }
    else given

-- the outcomes of this thread
abbrev pub of_thread_in : FaultCase → ℕ × List Given → List Given
of_thread_in case (thread, given) = map (given_in case thread) (enumerate_from 0 given)

-- the outcomes of all threads
abbrev pub outcomes_in : FaultCase → List (List Given) → List (List Given)
outcomes_in case outcomes = map (of_thread_in case) (enumerate_from 0 outcomes)

-- the subject of a case: all as it is, but one outcome
abbrev pub subject_in : FaultCase → Subject → Subject
subject_in case subject = record subject { outcomes = outcomes_in case subject.outcomes }

-- Believed: a contract of a command stands on it.
-- Runs in which an outcome is filled in wherever a thread asks for one that it does not have.
use Rattle.std.specs.Prelude.{◌≡◌, ℕ, zero, suc, MatchOption}
use Rattle.std.specs.Prelude.{Option, Some, None, option_and_then, option_map}
use Rattle.std.specs.Prelude.{List, [], ◌∷◌, ◌++◌, length, slice_index_or, slice_set, take}
use Rattle.posix_terms.specs.Queries.{Query}
use Rattle.posix_terms.specs.declared.outcome.Given.{Given}
use Rattle.posix_terms.specs.declared.step.Step.{Step}
use Rattle.lock_model.specs.Held.{last_call}
use Rattle.worker_notes.specs.Requests.{query_for}
use Rattle.machine.specs.declared.stop.Stop.{Stop}
use Rattle.machine.specs.declared.stop.Stop.TheVariants as stop
use Rattle.call_machine.specs.declared.plain.Plain.{Plain}
use Rattle.explorer.specs.Runs.{IsRun}
use Rattle.explorer.specs.Subject.{Subject}
use Rattle.fault_injection.specs.Filling.{filling_for}
use Rattle.fault_injection.specs.declared.filling.Filling.{Filling}

-- ## One outcome

-- what comes of a request
abbrev pub given_for : Filling → Query → Given
given_for filling query =
    record { kind = query.kind; clock = None; outcome = filling_for filling query.kind query.asked }

-- for a thread that asked these steps: for the call that it asked last, if that goes outside
abbrev pub given_after : Filling → List Step → Option Given
given_after filling steps =
    option_map (given_for filling) (option_and_then query_for (last_call steps))

-- ## The outcomes of the next run

-- one more for this thread, after so many of its own; there are none where it has none to take
abbrev pub with_one : List (List Given) → ℕ → ℕ → Option Given → Option (List (List Given))
with_one outcomes thread used None = None
with_one outcomes thread used (Some given) =
    Some (slice_set outcomes thread (take used (slice_index_or outcomes thread []) ++ given ∷ []))

-- where a run stopped since a thread had no outcome left, or one that did not answer, that thread
-- gets one more, after those that it used
abbrev pub more_after :
    Filling → List (List Given) → List (List Step) → Option Stop → Option (List (List Given))
more_after filling outcomes asked (Some (stop.EndOfLog thread)) =
    with_one outcomes thread (length (slice_index_or outcomes thread []))
    (given_after filling (slice_index_or asked thread []))
more_after filling outcomes asked (Some (stop.Diverged thread number)) =
    with_one outcomes thread number (given_after filling (slice_index_or asked thread []))
more_after filling outcomes asked other = None

-- ## The runs

-- this run comes of the subject, with at most so many outcomes filled in: it is the plain run; or,
-- where there is an outcome to be filled in, it comes of the subject with that
unfoldable pub IsFilledRun : ℕ → Filling → Subject → Plain → Type 0
IsFilledRun zero filling subject plain = IsRun subject plain
IsFilledRun (suc n) filling subject plain =
    (run : Plain) × IsRun subject run
    × MatchOption (more_after filling subject.outcomes run.history.asked run.stop)
    (plain ≡ run)
    (λ more. IsFilledRun n filling (record subject { outcomes = more }) plain)

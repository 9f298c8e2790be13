-- No float is in the lines of what is found.
use Rattle.std.proofs.Common.{◌≡◌, ℕ, Bool, false, List, [], ◌∷◌, map, Option, Some, None, codes, length, refl}
use Rattle.std.specs.Prelude.{option_map, slice_get, slice_index_or}
use Rattle.posix_terms.specs.declared.outcome.Given.{Given}
use Rattle.posix_terms.specs.declared.transcript.Row.{Row}
use Rattle.comparator.specs.declared.verdict.Verdict.{Verdict}
use Rattle.comparator.specs.declared.verdict.Verdict.TheVariants as verdict
use Rattle.serde_json.specs.Data.{Data, array, boolean, no_members, object, string}
use Rattle.serde_json.specs.View.{items_of}
use Rattle.serde_json.specs.Written.{has_float}
use Rattle.explorer.specs.Lists.{list_of}
use Rattle.explorer.specs.declared.delay_list.Delay.{Delay}
use Rattle.explorer.specs.declared.observation.Observation.{Observation}
use Rattle.fault_injection.specs.declared.cases.FaultCase.{FaultCase}
use Rattle.fault_injection.specs.declared.injected.Injected.{Injected}
use Rattle.fault_injection.specs.declared.injected.Injected.TheVariants as injected
use Rattle.command_inputs.specs.Expects.{without_feed}
use Rattle.answered_calls.specs.declared.blocked.BlockedLine.{BlockedLine}
use Rattle.json_views.specs.Ends.{end_words, outcome_stopped, thread_stopped, unmet_value}
use Rattle.json_views.specs.Exact.{AllExact, ValuesAreExact}
use Rattle.json_views.specs.Objects.{count_value, optional_value, with_members}
use Rattle.json_views.specs.Sides.{seen_value}
use Rattle.explore_texts.specs.Found.{row_at, tallied}
use Rattle.explore_texts.specs.FoundJson.{blocked_value, case_value, counts_members, delay_value, differs_value}
use Rattle.explore_texts.specs.FoundJson.{fail_value, fault_value, found_value, judgement_word, left_value}
use Rattle.explore_texts.specs.FoundJson.{request_value, short_value}
use Rattle.explore_texts.specs.declared.finding.Finding.{Finding}
use Rattle.explore_texts.specs.declared.judgement.Tally.TheVariants as tallies
use Rattle.explore_texts.specs.declared.looked.Looked.{Looked}
use Rattle.explore_texts.specs.declared.schedule.Schedule.{Schedule}
use Rattle.explore_texts.specs.declared.schedule.Schedule.TheVariants as schedule

-- ## Which runs

delays_exact : ValuesAreExact → (delays : List Delay) → AllExact (map delay_value delays)
delays_exact exact [] = tt
delays_exact exact (delay ∷ more) = (
  exact.objects (
      (codes "thread", count_value delay.place.thread)
      ∷ (codes "line", count_value delay.place.line)
      ∷ (codes "units", count_value delay.units)
      ∷ [])
      (refl, (refl, (refl, tt))),
  delays_exact exact more,
)

pub case_exact : ValuesAreExact → (s : Schedule) (case : ℕ) → has_float (case_value s case) ≡ false
case_exact exact (schedule.Seeds chance) seed = exact.objects ((codes "seed", count_value seed) ∷ []) (refl, tt)
case_exact exact (schedule.Lists bounds) case = exact.objects (
    (codes "list", count_value case)
    ∷ (codes "delays", array (items_of (map delay_value (list_of bounds case))))
    ∷ [])
    (refl, (exact.arrays _ (delays_exact exact (list_of bounds case)), tt))

request_exact : (given : Option Given) → has_float (request_value given) ≡ false
request_exact None = refl
request_exact (Some given) = refl

fail_exact : (i : Injected) → has_float (fail_value i) ≡ false
fail_exact (injected.Fail error) = refl
fail_exact (injected.Short count) = refl

short_exact : (i : Injected) → has_float (short_value i) ≡ false
short_exact (injected.Fail error) = refl
short_exact (injected.Short count) = refl

pub fault_exact : ValuesAreExact → (outcomes : List (List Given)) (case : FaultCase)
    → has_float (fault_value outcomes case) ≡ false
fault_exact exact outcomes case =
    let given = slice_get (slice_index_or outcomes case.thread []) case.number in
    exact.objects (
    (codes "thread", count_value case.thread)
    ∷ (codes "record", count_value case.number)
    ∷ (codes "request", request_value given)
    ∷ (codes "fail", fail_value case.injected)
    ∷ (codes "short", short_value case.injected)
    ∷ [])
    (refl, (refl, (request_exact given, (fail_exact case.injected, (short_exact case.injected, tt)))))

-- ## What is found

threads_exact : (threads : List ℕ) → AllExact (map count_value threads)
threads_exact [] = tt
threads_exact (thread ∷ more) = (refl, threads_exact more)

blocked_exact : ValuesAreExact → (waits : List BlockedLine) → AllExact (map blocked_value waits)
blocked_exact exact [] = tt
blocked_exact exact (line ∷ more) = (
  exact.objects ((codes "thread", count_value line.thread) ∷ (codes "line", count_value line.line) ∷ [])
      (refl, (refl, tt)),
  blocked_exact exact more,
)

differs_exact : ValuesAreExact → (before now : List (List Row)) (v : Verdict)
    → has_float (differs_value before now v) ≡ false
differs_exact exact before now verdict.Same = refl
differs_exact exact before now (verdict.Differs thread row) = exact.objects (
    (codes "thread", count_value thread)
    ∷ (codes "row", count_value row)
    ∷ (codes "before", seen_value (row_at before thread row))
    ∷ (codes "now", seen_value (row_at now thread row))
    ∷ [])
    (refl, (refl, (exact.rows (row_at before thread row), (exact.rows (row_at now thread row), tt))))

pub found_exact : ValuesAreExact → (case : Data) (runs : ℕ) (before now : Observation) (looked : Looked)
    (cut : List ℕ) (waits : List BlockedLine) (verdict : Verdict) (ends_alike : Bool) → has_float case ≡ false
    → has_float (found_value case runs before now looked cut waits verdict ends_alike) ≡ false
found_exact exact case runs before now looked cut waits verdict ends_alike case_exact =
    let unmet = option_map without_feed looked.unmet in
    exact.objects (
    (codes "end", string (end_words now.stop))
    ∷ (codes "thread", optional_value (thread_stopped now.stop))
    ∷ (codes "outcome", optional_value (outcome_stopped now.stop))
    ∷ (codes "case", case)
    ∷ (codes "runs", count_value runs)
    ∷ (codes "cut_off", array (items_of (map count_value cut)))
    ∷ (codes "blocked", array (items_of (map blocked_value waits)))
    ∷ (codes "differs", differs_value before.seen now.seen verdict)
    ∷ (codes "ends_alike", boolean ends_alike)
    ∷ (codes "unmet", unmet_value unmet)
    ∷ (codes "came_to", string (judgement_word looked.judgement))
    ∷ []) (
      refl,
      (
        exact.numbers (thread_stopped now.stop),
        (
          exact.numbers (outcome_stopped now.stop),
          (
            case_exact,
            (
              refl,
              (
                exact.arrays _ (threads_exact cut),
                (
                  exact.arrays _ (blocked_exact exact waits),
                  (
                    differs_exact exact before.seen now.seen verdict,
                    (
                      refl,
                      (
                        exact.unmet unmet,
                        (refl, tt),
                      ),
                    ),
                  ),
                ),
              ),
            ),
          ),
        ),
      ),
    )

-- ## The sums

left_exact : (s : Schedule) (runs : ℕ) → has_float (left_value s runs) ≡ false
left_exact (schedule.Seeds chance) runs = refl
left_exact (schedule.Lists bounds) runs = refl

pub sums_exact : ValuesAreExact → (s : Schedule) (runs status : ℕ) (findings : List Finding)
    → has_float (object (
    with_members (with_members no_members (counts_members status findings))
    ((codes "runs", count_value runs)
    ∷ (codes "groups", count_value (length findings))
    ∷ (codes "left_out", left_value s runs)
    ∷ []))) ≡ false
sums_exact exact s runs status findings = exact.objects (
    (codes "failed", count_value (tallied tallies.Failed findings))
    ∷ (codes "stopped", count_value (tallied tallies.Stopped findings))
    ∷ (codes "clock_full", count_value (tallied tallies.ClockFull findings))
    ∷ (codes "end_of_log", count_value (tallied tallies.EndOfLog findings))
    ∷ (codes "diverged", count_value (tallied tallies.Diverged findings))
    ∷ (codes "blocked", count_value (tallied tallies.Blocked findings))
    ∷ (codes "status", count_value status)
    ∷ (codes "runs", count_value runs)
    ∷ (codes "groups", count_value (length findings))
    ∷ (codes "left_out", left_value s runs)
    ∷ [])
    (refl, (refl, (refl, (refl, (refl, (refl, (refl, (refl, (refl, (left_exact s runs, tt))))))))))

pub case_sums_exact : ValuesAreExact → (status : ℕ) (findings : List Finding)
    → has_float (object (
    with_members (with_members no_members (counts_members status findings))
    ((codes "cases", count_value (length findings)) ∷ []))) ≡ false
case_sums_exact exact status findings = exact.objects (
    (codes "failed", count_value (tallied tallies.Failed findings))
    ∷ (codes "stopped", count_value (tallied tallies.Stopped findings))
    ∷ (codes "clock_full", count_value (tallied tallies.ClockFull findings))
    ∷ (codes "end_of_log", count_value (tallied tallies.EndOfLog findings))
    ∷ (codes "diverged", count_value (tallied tallies.Diverged findings))
    ∷ (codes "blocked", count_value (tallied tallies.Blocked findings))
    ∷ (codes "status", count_value status)
    ∷ (codes "cases", count_value (length findings))
    ∷ [])
    (refl, (refl, (refl, (refl, (refl, (refl, (refl, (refl, tt))))))))

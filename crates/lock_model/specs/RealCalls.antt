-- Believed: a contract of the headline stands on it.
-- The call table of the sequential object.
use Rattle.std.specs.Prelude.{ℕ, ◌^◌, Bool, true, false, Option, Some, None, is_some}
use Rattle.posix_terms.specs.declared.transcript.Settings.{Settings}
use Rattle.sequential_object.specs.Answers.{answer_in, answers_query, numbered, outcome_in}
use Rattle.sequential_object.specs.Locked as locked
use Rattle.sequential_object.specs.Locked.{locked_object}
use Rattle.sequential_object.specs.Numbers.{world_with}
use Rattle.sequential_object.specs.Step.{asks, nothing_carried, step}
use Rattle.lock_model.specs.CallTable.{CallTable, Plan, Way}
use Rattle.lock_model.specs.CallTable.Plan.{No_object, Object}
use Rattle.lock_model.specs.CallTable.Way.{Door, Inside, Keeps_table}
use Rattle.lock_model.specs.Machine.{Limits}

-- by whether it goes outside, and whether it keeps the table then
abbrev pub way_of : Bool → Bool → Way
way_of true true = Keeps_table
way_of true false = Door
way_of false keeps = Inside

-- with the lock of the object that has this number, or with no object's
abbrev pub plan_of : Way → Option ℕ → Plan
plan_of way None = No_object
plan_of way (Some number) = Object number way

-- what each call locks, changes, asks outside and answers, by the sequential object
abbrev pub real_calls : Settings → CallTable
real_calls settings =
    record {
      nothing_carried = nothing_carried;
      plan = λ w c b. plan_of (way_of (is_some (asks w.object c b)) (locked.keeps_table c))
          (numbered w (locked_object w.object c b));
      -- whatever the outcome: it frees the table before it goes outside
      change = λ w c b. world_with w (step settings w.object c None b).after;
      kept_change = λ w c b o. world_with w (step settings w.object c (Some o.outcome) b).after;
      asks = λ w c b. asks w.object c b;
      fits = λ r o. answers_query r o;
      answer = λ w c o b. answer_in (step settings w.object c (outcome_in o) b);
    }

-- the limits of real runs: what going outside costs is a setting
abbrev pub real_limits : Settings → Limits
real_limits settings = record {
  door_cost = settings.door_cost;
  clock_limit = 2 ^ 62;
  outcome_limit = 2 ^ 27;
}

-- Internal: no contract of the headline or of a command stands on it.
-- Setups for runs worked out by hand. Whatever the world, all
-- calls take the same locks and give the same answer.
use Rattle.std.specs.Prelude.{ℕ, ◌^◌, List, [], ◌∷◌, map, Option, true}
use Rattle.lock_model.specs.CallTable.{CallTable, Plan}
use Rattle.sequential_object.specs.declared.turn_end.TurnEnd.{TurnEnd}
use Rattle.sequential_object.specs.declared.turn_end.TurnEnd.TheVariants as turn_end
use Rattle.lock_model.specs.CallTable.Plan.{Object}
use Rattle.lock_model.specs.CallTable.Way.{Inside}
use Rattle.lock_model.specs.Machine.{Setup}
use Rattle.lock_model.specs.Programs.{listed}
use Rattle.posix_terms.specs.declared.step.Step.{Step}
use Rattle.posix_terms.specs.declared.step.Step.TheVariants as step
use Rattle.lock_model.specs.State.{State, Row, start}
use Rattle.posix_terms.specs.Queries.{Query}
use Rattle.sequential_object.specs.Worlds.{World}
use Rattle.posix_terms.specs.Calls.{Call}
use Rattle.posix_terms.specs.Outcomes.{undated}
use Rattle.posix_terms.specs.declared.outcome.Given.{Given}
use Rattle.posix_terms.specs.declared.reply.Reply.{Reply}
use Rattle.sequential_object.specs.Step.{Carried}
use Rattle.posix_terms.specs.declared.transcript.Row.{Row as TranscriptRow}
use Rattle.posix_terms.specs.declared.transcript.Turn.{Turn}

-- any values
pub record Words : Type 0 where
  pub world : World
  pub call : Call
  pub outcome : Given
  pub reply : Reply
  pub carried : Carried
  pub query : Option Query

-- calls that all take these locks and give this answer, and leave the world as it is
abbrev pub alike : Words → Plan → TurnEnd → CallTable
alike x plan a =
    record {
      nothing_carried = x.carried;
      plan = λ w c b. plan;
      change = λ w c b. w;
      kept_change = λ w c b o. w;
      asks = λ w c b. x.query;
      fits = λ r o. true;
      answer = λ w c o b. a;
    }

-- without a clock, so that it answers at any turn
abbrev pub given : Words → Given
given x = undated x.outcome

-- each thread makes these steps, and three outcomes come for it
abbrev pub setting : Words → Plan → TurnEnd → ℕ → List Step → Setup
setting x plan a limit steps =
    record {
      calls = alike x plan a;
      limits = record { door_cost = 100; clock_limit = limit; outcome_limit = 2 ^ 27 };
      supply = record {
        next = λ i. listed steps;
        outcomes = λ i. given x ∷ given x ∷ given x ∷ [];
      };
    }

-- each thread makes one call
abbrev pub one_call : Words → Plan → Setup
one_call x plan = setting x plan (turn_end.Reply x.reply) (2 ^ 62)
    (step.Call x.call ∷ step.End ∷ [])

-- each thread makes three
abbrev pub three_calls : Words → Plan → Setup
three_calls x plan = setting x plan (turn_end.Reply x.reply) (2 ^ 62)
    (step.Call x.call ∷ step.Call x.call ∷ step.Call x.call ∷ step.End ∷ [])

-- each thread makes one call, which is blocked at every turn; the clocks end at 10
abbrev pub blocked_call : Words → Setup
blocked_call x = setting x (Object 0 Inside) (turn_end.Blocked x.carried) 10
    (step.Call x.call ∷ step.End ∷ [])

-- the turns of the rows, in their order
abbrev pub turns : List Row → List Turn
turns rows = map (λ (r : Row). r.turn) rows

-- the turn of this thread at this clock
abbrev pub turn : ℕ → ℕ → Turn
turn clock thread = record { clock = clock; thread = thread }

-- the row of a transcript in which the call has its reply, at this turn
abbrev pub replied_at : Words → Turn → TranscriptRow
replied_at x t = record { call = x.call; turn = t; reply = x.reply }

-- two threads at their start, with one object to lock
abbrev pub two : Words → State
two x = start 2 1 x.world

-- one thread at its start, with one object to lock
abbrev pub alone : Words → State
alone x = start 1 1 x.world

-- Believed: a contract of the headline stands on it.
-- How the turn of a call ends, in the words of whoever grants turns: its answer with what the call
-- carries on, the number of the object that it is about, and the outcomes that can come for it.
use Rattle.std.specs.Prelude.{ℕ, Bool, false, Option, Some, None}
use Rattle.posix_terms.specs.Outcomes.{suits}
use Rattle.posix_terms.specs.declared.outcome.Given.{Given}
use Rattle.posix_terms.specs.declared.outcome.Outcome.{Outcome}
use Rattle.posix_terms.specs.declared.reply.Answer as posix
use Rattle.posix_terms.specs.declared.reply.Answer.TheVariants as answer
use Rattle.sequential_object.specs.Numbers.{number_of}
use Rattle.sequential_object.specs.Step.{Carried, Stepped}
use Rattle.posix_terms.specs.Queries.{Query}
use Rattle.sequential_object.specs.Worlds.{World}
use Rattle.sequential_object.specs.declared.turn_end.TurnEnd.{TurnEnd}
use Rattle.sequential_object.specs.declared.turn_end.TurnEnd.TheVariants as turn_end

-- how a turn ends that is answered so: with its reply, or blocked with what the call carries on
abbrev pub answered_with : posix.Answer → Carried → TurnEnd
answered_with (answer.Reply r) b = turn_end.Reply r
answered_with answer.Again b = turn_end.Blocked b

-- how a turn of a call ended
abbrev pub answer_in : Stepped → TurnEnd
answer_in stepped = answered_with stepped.answer stepped.carried

-- the number of the object that a call is about, if it is about one
abbrev pub numbered : World → Option ℕ → Option ℕ
numbered w None = None
numbered w (Some object) = Some (number_of w object)

-- what can come for a query, whatever the turn
abbrev pub answers_query : Option Query → Given → Bool
answers_query (Some q) g = suits q.kind q.asked g
answers_query None g = false

-- the outcome of what came for a call, if anything came
abbrev pub outcome_in : Option Given → Option Outcome
outcome_in None = None
outcome_in (Some g) = Some g.outcome

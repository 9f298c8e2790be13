-- Believed: a contract of a command stands on it.
-- What is drawn of a run.
use Rattle.std.specs.Prelude.{List, map}
use Rattle.answered_calls.specs.declared.answered.AnsweredCall.{AnsweredCall}
use Rattle.run_pictures.specs.declared.drawn.DrawnCall.{DrawnCall}

-- the calls that are drawn, without their clocks
abbrev pub calls_of : List DrawnCall → List AnsweredCall
calls_of calls = map (λ c. c.call) calls

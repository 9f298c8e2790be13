-- Believed: a contract of a command stands on it.
-- How a run fails: the first reply that is not as expected.
use Rattle.std.specs.Prelude.{◌≡◌, ℕ, All, List, map, take, slice_get, Option}
use Rattle.std.specs.Prelude.{Some, None, Ok}
use Rattle.posix_terms.specs.declared.errno.Errno.{Errno}
use Rattle.posix_terms.specs.declared.reply.Reply.{Reply}
use Rattle.posix_terms.specs.declared.reply.Reply.TheVariants as reply
use Rattle.posix_terms.specs.declared.transcript.Row.{Row}
use Rattle.thread_scripts.specs.Grammar.{script_of}
use Rattle.thread_scripts.specs.Words.{lines_of}
use Rattle.thread_scripts.specs.declared.line.Line.{Line}
use Rattle.expectations.specs.Expected.{AreExpectations}
use Rattle.expectations.specs.Places.{calls_of}
use Rattle.expectations.specs.Unmet.{AreMet, IsFirstUnmet}
use Rattle.expectations.specs.declared.expected.Expectation.{Expectation}
use Rattle.expectations.specs.declared.unmet.Unmet.{Unmet}
use Rattle.minimiser.specs.declared.target.Came.{Came}
use Rattle.minimiser.specs.declared.target.Came.TheVariants as came
use Rattle.minimiser.specs.declared.target.Sameness.{Sameness}
use Rattle.minimiser.specs.declared.target.Sameness.TheVariants as same
use Rattle.minimiser.specs.declared.target.Target.{Target}

-- a thread's text and the rows that it saw: the text is this script, whose calls have these places
-- and replies, and expects this
pub record Expects
    (thread : List ℕ × List Row) (calls : List (ℕ × Reply)) (expectations : List Expectation)
    : Type 0 where
  pub script : List Line
  pub is_script : script_of thread.0 ≡ Ok script
  pub are_calls : calls ≡ calls_of script (map (λ row. row.reply) thread.1)
  pub are_expected : AreExpectations (lines_of thread.0) expectations

-- all replies are as the text expects
pub record IsAsExpected (thread : List ℕ × List Row) : Type 0 where
  pub calls : List (ℕ × Reply)
  pub expectations : List Expectation
  pub expects : Expects thread calls expectations
  pub met : All (AreMet expectations) calls

-- the error of a reply, if it is a failure
abbrev pub error_of : Reply → Option Errno
error_of (reply.Fail error) = Some error
error_of _ = None

-- what came, as far as it has to come again
abbrev pub came_of : Sameness → Reply → Came
came_of same.Error reply = came.Error (error_of reply)
came_of same.Reply reply = came.Reply reply

-- how far it has to
abbrev pub sameness_of : Came → Sameness
sameness_of (came.Error error) = same.Error
sameness_of (came.Reply reply) = same.Reply

-- the first reply of the thread with this number that is not, and the expectation that it does not
-- meet
pub record IsUnmetIn
    (sameness : Sameness) (number : ℕ) (thread : List ℕ × List Row) (target : Target) : Type 0 where
  pub calls : List (ℕ × Reply)
  pub expectations : List Expectation
  pub expects : Expects thread calls expectations
  pub first : Unmet
  pub is_first : IsFirstUnmet expectations calls first
  pub expectation : Expectation
  pub at : slice_get expectations first.expectation ≡ Some expectation
  pub is : target ≡ record {
    place = record { thread = number; call = expectation.call; line = expectation.line };
    came = came_of sameness is_first.call.1;
  }

-- that of the least thread that has one
pub record IsFirstTarget
    (sameness : Sameness) (threads : List (List ℕ × List Row)) (target : Target) : Type 0 where
  pub number : ℕ
  pub before : All IsAsExpected (take number threads)
  pub thread : List ℕ × List Row
  pub at : slice_get threads number ≡ Some thread
  pub unmet : IsUnmetIn sameness number thread target

-- Believed: a contract of the headline stands on it.
-- How a row of a history was answered.
use Rattle.std.specs.Prelude.{Option, Some, None}
use Rattle.posix_terms.specs.declared.reply.Answer.{Answer}
use Rattle.posix_terms.specs.declared.reply.Answer.TheVariants as answer
use Rattle.posix_terms.specs.declared.reply.Reply.{Reply}

-- the reply of an answer, unless the call was blocked
abbrev pub reply_of : Option Answer → Option Reply
reply_of (Some (answer.Reply r)) = Some r
reply_of (Some answer.Again) = None
reply_of None = None

-- What C reads of replies and outcomes, and what it says of outcomes.
use Rattle.std.specs.Prelude.{ℕ, ℤ, pos, List, [], Option, Some, option_map, length}
use Rattle.std.specs.Prelude.{if◌then◌else◌, ◌==◌}
use Rattle.posix_terms.specs.Errors.{code_of, error_of}
use Rattle.posix_terms.specs.Replies.{kind_code}
use Rattle.posix_terms.specs.declared.outcome.Outcome.{Outcome}
use Rattle.posix_terms.specs.declared.outcome.Outcome.TheVariants as outcome
use Rattle.posix_terms.specs.declared.reply.Reply.{Reply}
use Rattle.posix_terms.specs.declared.reply.Reply.TheVariants as reply
use Rattle.c_words.specs.declared.words.OutcomeWords.{OutcomeWords}
use Rattle.c_words.specs.declared.words.ReplyWords.{ReplyWords}

-- ## Replies

-- a reply of this kind, with this count and this number
abbrev pub blank_reply : ℕ → ℕ → ℤ → ReplyWords
blank_reply kind count first = record {
  kind = kind;
  error = 0;
  count = count;
  first = first;
  second = pos 0;
  links = 0;
}

-- a reply, whose bytes stand beside it
abbrev pub reply_words : Reply → ReplyWords
reply_words (reply.Count n) = blank_reply 1 n (pos 0)
reply_words (reply.Data bytes) = blank_reply 2 (length bytes) (pos 0)
reply_words (reply.Number n) = blank_reply 3 0 n
reply_words (reply.Pair first second) = record (blank_reply 4 0 first) { second = second }
reply_words (reply.Stat kind n links) =
    record (blank_reply 5 n (pos (kind_code kind))) { links = links }
reply_words reply.Done = blank_reply 6 0 (pos 0)
reply_words (reply.Fail error) = record (blank_reply 7 0 (pos 0)) { error = code_of error }

-- the bytes of a reply
abbrev pub bytes_in : Reply → List ℕ
bytes_in (reply.Data bytes) = bytes
bytes_in r = []

-- ## Outcomes

-- the outcome that C says, with the bytes of a read
abbrev pub outcome_of : OutcomeWords → List ℕ → Option Outcome
outcome_of words bytes =
    if words.error == 0 then Some (outcome.Ok words.value bytes)
    else option_map outcome.Fail (error_of words.error)

-- an outcome, whose bytes stand beside it, and whose doors are made up
abbrev pub outcome_words : Outcome → OutcomeWords
outcome_words (outcome.Ok value bytes) = record {
  error = 0;
  value = value;
  length = length bytes;
  back = 0;
  opened = 0;
}
outcome_words (outcome.Fail error) = record {
  error = code_of error;
  value = 0;
  length = 0;
  back = 0;
  opened = 0;
}

-- the bytes of an outcome
abbrev pub bytes_that_came : Outcome → List ℕ
bytes_that_came (outcome.Ok value bytes) = bytes
bytes_that_came (outcome.Fail error) = []

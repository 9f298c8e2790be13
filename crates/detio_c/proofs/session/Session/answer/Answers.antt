use Rattle.std.proofs.Common.{rules}
use Rattle.detio_c.proofs.session.Session.answer.Goals as goal
use Rattle.detio_c.proofs.Reading.{reads}

-- src/session.rt:209:5
pub returns-in-Ok-Reply-clause-words : goal.returns-in-Ok-Reply-clause-words
returns-in-Ok-Reply-clause-words c = let o = c.in-Ok-Reply in let b = c.in-Some-bytes_to_come in
    reads c.args.i o.field-0 o.reply _ _ b.most c.in-Some.is o.field-0-is o.ensures.told b.ensures.most (search rules)
    c.reply_words.ensures.words c.reply_words.ensures.bytes

use Rattle.check_commands.proofs.Found.{printed_of}
use Rattle.check_commands.proofs.checking.check_printed.Goals as goal

pub returns-in-Read : goal.returns-in-Read
returns-in-Read g c =
    printed_of c.args.options (λ s. (
      s.path.now,
      g.R.TextReader.remaining s.reader,
    )) c.args.sources.items _ _ c.in_ok-texts.field-0
    c.in-Read.texts c.texts_checked.result
    c.in-Read.is c.deref-in-Read-2.ensures.value
    (rw c.deref-in-Read.ensures.value
    (rw c.deref.ensures.value at c.in_ok-paths.ensures)) c.in_ok-texts.ensures.read
    c.texts_checked.ensures

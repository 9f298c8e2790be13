use Rattle.std.proofs.Common.{map}
use Rattle.command_texts.specs.declared.source.Source.{Source}
use Rattle.commands.specs.Replays.{ReplayPrints}
use Rattle.commands.specs.Ran.{ThreadsRan}
use Rattle.commands.proofs.Printing.{prints_meant}
use Rattle.commands.proofs.replay.replay_threads_over.Goals as goal

pub returns-in-Ok : goal.returns-in-Ok
returns-in-Ok g c =
    prints_meant
    (ReplayPrints ThreadsRan c.args.options
    (c.args.log.path.now, g.R.TextReader.remaining c.args.log.reader)
    (map (λ (s : Source g.row.R.Denot). (s.path.now, g.R.TextReader.remaining s.reader))
    c.args.sources.items))
    c.in-Ok.printed c.print.result (g.W.Write.contents c.args.output.now) (g.W.Write.contents c.print.new.output)
    (g.E.Write.contents c.args.errors.now) (g.E.Write.contents c.print.new.errors)
    c.in-Ok.ensures c.print.ensures

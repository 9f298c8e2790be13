use Rattle.std.proofs.Common.{rules, ◌≡◌, ◌≢◌, Some, length}
use Rattle.replayer.specs.Threads.{EndsBy, IsReplayedBy}
use Rattle.std.proofs.lemmas.Result.{IfOk-weaker}
use Rattle.machine.specs.declared.stop.Stop.TheVariants as stop
use Rattle.replayer.proofs.Running.{ends_for_other}
use Rattle.replayer.proofs.threads.replay_threads.Goals as goal

pub returns-in-Ok-clause-replayed : goal.returns-in-Ok-clause-replayed
returns-in-Ok-clause-replayed g c =
    let log = c.in-Ok.supplied.log in
    let actors = c.args.actors.items in
    let threads : log.header.threads ≡ length actors = search rules in
    IfOk-weaker c.run_by.result
    (λ e. EndsBy g.A.Actor.state log actors
    (record {
      history = e.history;
      own = e.own.items;
      transcripts = e.transcripts;
      actors = e.actors.items;
      doors = e.outsides.items;
    }) e.sink.bytes e.sink.failures e.stop)
    (λ e. IsReplayedBy g.A.Actor.state c.args.log.now actors
    (record {
      history = e.history;
      own = e.own.items;
      transcripts = e.transcripts;
      actors = e.actors.items;
      doors = e.outsides.items;
    }) e.sink.bytes e.sink.failures e.stop)
    (λ e ends.
    record {
      log = log;
      front = c.in-Ok.ensures.front;
      threads = threads;
      run = ends;
      replay = λ not scripts meant.
          c.runs_agree_with_replays.ensures c.args.log.now log actors
          (record {
            history = e.history;
            own = e.own.items;
            transcripts = e.transcripts;
            actors = e.actors.items;
            doors = e.outsides.items;
          })
          e.sink.bytes e.sink.failures e.stop scripts c.in-Ok.ensures.front threads ends not meant;
    })
    c.run_by.ensures.run

pub returns-in-Ok-clause-sink : goal.returns-in-Ok-clause-sink
returns-in-Ok-clause-sink g c =
    IfOk-weaker c.run_by.result
    (λ e. EndsBy g.A.Actor.state c.in-Ok.supplied.log c.args.actors.items
    (record {
      history = e.history;
      own = e.own.items;
      transcripts = e.transcripts;
      actors = e.actors.items;
      doors = e.outsides.items;
    }) e.sink.bytes e.sink.failures e.stop)
    (λ e. e.stop ≢ Some stop.Sink)
    (λ e ends. ends_for_other g.A.Actor.state _ _ _ _ _ e.stop ends)
    c.run_by.ensures.run

use Rattle.std.proofs.Common.{rules, ◌≡◌, length, refl, sym, subst, vec_len}
use Rattle.replayer.specs.Threads.{EndsBy}
use Rattle.replayer.proofs.Running.{doors_are_new, runs_by}
use Rattle.replayer.proofs.threads.run_by.Goals as goal

pub record_actors-requires-clause-unused : goal.record_actors-requires-clause-unused
record_actors-requires-clause-unused g c κs within = doors_are_new c.args.supplied.doors.items (vec_len c.args.actors)
    c.args.supplied.log.records c.requires.doors

pub returns-in-Ok-clause-run : goal.returns-in-Ok-clause-run
returns-in-Ok-clause-run g c =
    let e = c.in-Ok.ended in
    let h = c.in-Ok.ensures in
    let count : vec_len c.args.actors ≡ length c.args.actors.items = search rules in
    subst
    (λ z. EndsBy g.A.Actor.state c.args.supplied.log c.args.actors.items
    (record {
      history = z.history;
      own = z.own.items;
      transcripts = z.transcripts;
      actors = z.actors.items;
      doors = z.outsides.items;
    }) z.sink.bytes z.sink.failures z.stop)
    (sym c.told.ensures)
    (record {
      stopped = e.stop;
      run = runs_by g.A.Actor.state c.args.supplied.log c.settings.result (vec_len c.args.actors) c.args.actors.items
          c.args.supplied.doors.items
          (record {
            history = e.history;
            own = e.own.items;
            transcripts = e.transcripts;
            actors = e.actors.items;
            doors = e.outsides.items;
          }) e.sink.bytes e.sink.failures e.stop
          count c.settings.ensures c.requires.doors h.run h.agrees h.transcripts h.ended h.answered h.fails h.steps
          h.calls h.told;
      told_is = refl;
    })

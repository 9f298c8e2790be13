use Rattle.recorder.proofs.Ending.{sink_failed}
use Rattle.recorder.proofs.Telling.{from_one, from_three, led_or_strayed, played_or_strayed}
use Rattle.recorder.proofs.run.record_as.Goals as goal

pub returns-clause-steps : goal.returns-clause-steps
returns-clause-steps g c =
    from_three c.run_crew.result
    (λ e agrees ended told. played_or_strayed _ _ _ e.stop e.history.rows e.history.asked c.args.actors.items
    c.args.outsides.items e.own.items e.actors.items e.outsides.items agrees ended told)
    c.run_crew.ensures.agrees c.run_crew.ensures.ended c.run_crew.ensures.told

pub returns-clause-calls : goal.returns-clause-calls
returns-clause-calls g c =
    from_three c.run_crew.result
    (λ e agrees ended told. led_or_strayed _ _ _ e.stop e.history.rows e.history.asked c.args.actors.items
    c.args.outsides.items e.own.items e.actors.items e.outsides.items agrees ended told)
    c.run_crew.ensures.agrees c.run_crew.ensures.ended c.run_crew.ensures.told

pub returns-clause-fails : goal.returns-clause-fails
returns-clause-fails g c = from_one c.run_crew.result (λ e run. sink_failed _ _ _ _ _ _ _ _ _ run)
    c.run_crew.ensures.run

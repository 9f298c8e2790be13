use Rattle.call_machine.proofs.RunRecords.{plain_is_made, run_has_spelling, run_records_came, runs_of_both_versions}
use Rattle.call_machine.proofs.laws.logs_of_runs.Goals as goal

pub returns-clause-came : goal.returns-clause-came
returns-clause-came c = run_records_came c.one_event.ensures c.outcomes_are_recorded.ensures

pub returns-clause-spelled : goal.returns-clause-spelled
returns-clause-spelled c =
    let arising = c.arising_states.ensures in
    run_has_spelling
    (record {
      events = c.one_event.ensures;
      records = c.outcomes_are_recorded.ensures;
      little = c.requests_asked.ensures.little;
      at_start = arising.at_start;
      by_event = arising.by_event;
      room = c.outcomes_that_came.ensures.room;
      times = arising.times;
    })

pub returns-clause-versions : goal.returns-clause-versions
returns-clause-versions c =
    let arising = c.arising_states.ensures in
    runs_of_both_versions c.one_event.ensures
    (record {
      records = c.outcomes_are_recorded.ensures;
      rows = c.outcomes_that_came.ensures.rows;
      dated = arising.dated;
      by_run = arising.by_run;
    })

pub returns-clause-plain : goal.returns-clause-plain
returns-clause-plain c = plain_is_made c.one_event.ensures

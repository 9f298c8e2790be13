use Rattle.call_machine.proofs.Covering.{has_spelling, none_diverges, records_came}
use Rattle.call_machine.proofs.laws.logs_of_plain_runs.Goals as goal

pub returns-clause-came : goal.returns-clause-came
returns-clause-came c = records_came c.one_event.ensures c.outcomes_are_recorded.ensures

pub returns-clause-spelled : goal.returns-clause-spelled
returns-clause-spelled c =
    let arising = c.arising_states.ensures in
    has_spelling
    (record {
      events = c.one_event.ensures;
      records = c.outcomes_are_recorded.ensures;
      little = c.requests_asked.ensures.little;
      at_start = arising.at_start;
      by_event = arising.by_event;
      room = c.outcomes_that_came.ensures.room;
      times = arising.times;
    })

pub returns-clause-straight : goal.returns-clause-straight
returns-clause-straight c =
    let came = c.outcomes_that_came.ensures in
    let keeps = c.outcomes_are_recorded.ensures in
    none_diverges (record {
      keeps = keeps.keeps;
      alike = came.alike;
      same = came.same;
      stays = came.stays;
      grows = came.grows;
    })

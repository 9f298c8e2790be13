use Rattle.replayer.proofs.laws.known.Goals as goal

pub returns : goal.returns
returns c =
    let came = c.outcomes_that_came.ensures in
    let arising = c.arising_states.ensures in
    let plain_logs = c.logs_of_plain_runs.ensures in
    let run_logs = c.logs_of_runs.ensures in
    let ends = c.plain_run_ends.ensures in
    let records = c.outcomes_are_recorded.ensures in
    record {
      plain = record {
        keeps = records.keeps;
        alike = came.alike;
        same = came.same;
        over = came.over;
        leads = came.leads;
        arises = came.arises;
        count = came.count;
        stays = came.stays;
        rows = came.rows;
        follows = arising.follows;
        turn = c.turn_order.ensures.ended;
        prefix = c.prefix_law.ensures.under_came;
        ends = ends.unique;
        came = plain_logs.came;
        spelled = plain_logs.spelled;
        straight = plain_logs.straight;
        one_value = c.one_value.ensures;
        one_fault = c.one_fault.ensures.once;
        no_fault = c.one_fault.ensures.none;
        version = c.fronts_have_their_version.ensures;
      };
      followed = c.prefix_law.ensures.under_followed;
      replies = came.replies;
      dated = arising.dated;
      some_end = ends.ends;
      scripts_end = c.programs_of_scripts.ensures.end;
      holder = c.turn_order.ensures.holder;
      records = records;
      written = c.what_was_written_is_read.ensures;
      events = c.one_event.ensures;
      arises = arising.by_run;
      run_came = run_logs.came;
      run_spelled = run_logs.spelled;
      versions = run_logs.versions;
      made = run_logs.plain;
      one_plain = c.plain_runs_agree.ensures;
    }

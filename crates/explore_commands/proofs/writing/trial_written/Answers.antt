use Rattle.std.proofs.Common.{◌≡◌, ℕ, IfOk, List, rules, subst}
use Rattle.std.proofs.lemmas.Result.{IfOk-weaker}
use Rattle.explorer.specs.Cases.{with_delays}
use Rattle.explorer.specs.Subject.{subject}
use Rattle.explorer.specs.Varied.{varied_texts}
use Rattle.explore_texts.specs.Schedules.{delays_by}
use Rattle.explore_commands.specs.Writes.{SubjectWrites, TrialWrites}
use Rattle.explore_commands.specs.declared.scheduling.ToSchedule.TheVariants as delays
use Rattle.explore_commands.proofs.writing.trial_written.Goals as goal

pub returns-in_ok-varied-in-Delays : goal.returns-in_ok-varied-in-Delays
returns-in_ok-varied-in-Delays c =
    let tried = subject c.args.trial in
    let options = c.args.options in
    let schedule = c.in-Delays.schedule in
    let delayed : c.in_ok-varied-in-Delays.varied.items
    ≡ varied_texts (delays_by schedule options.first) 0 tried.texts =
    search rules in
    IfOk-weaker c.run_written.result
    (SubjectWrites (with_delays (delays_by schedule options.first) tried))
    (TrialWrites options tried)
    (λ write writes.
    (delays.Delays schedule, rw c.in-Delays.is at c.in_ok-schedule.ensures, writes))
    (subst
    (λ (texts : List (List ℕ)).
    IfOk c.run_written.result (SubjectWrites (record {
      texts = texts;
      outcomes = tried.outcomes;
      settings = tried.settings;
    })))
    delayed c.run_written.ensures)

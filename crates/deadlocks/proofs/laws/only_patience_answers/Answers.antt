use Rattle.deadlocks.proofs.Stuck.{all_stuck, stuck_more}
use Rattle.deadlocks.proofs.laws.only_patience_answers.Goals as goal

pub returns-clause-answered : goal.returns-clause-answered
returns-clause-answered c = λ settings history last calls legal again leads stuck.
    all_stuck settings c.nothing_unused_is_held.ensures.starts c.nothing_unused_is_held.ensures.steps
    c.ends_match.ensures.starts c.ends_match.ensures.steps c.moved_bytes_are_reported.ensures.again
    history last calls legal again leads stuck

pub returns-clause-stays : goal.returns-clause-stays
returns-clause-stays c = λ past row calls stuck own blocked. stuck_more past row own blocked calls stuck

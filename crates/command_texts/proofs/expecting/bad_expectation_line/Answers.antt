use Rattle.command_texts.proofs.expecting.bad_expectation_line.Goals as goal

pub returns : goal.returns
returns c = rw c.reason_text-reason.ensures at c.format.ensures.ok

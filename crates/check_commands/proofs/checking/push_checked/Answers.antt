use Rattle.check_commands.proofs.Found.{added, good_is, kept_one, script_is}
use Rattle.check_commands.proofs.checking.push_checked.Goals as goal

pub returns-in-Ok-clause-good : goal.returns-in-Ok-clause-good
returns-in-Ok-clause-good c =
    rw (← good_is c.args.text.now c.in-Ok.check c.in-Ok.ensures) c.push_and_keep.ensures.good

pub returns-in-Ok-clause-adds : goal.returns-in-Ok-clause-adds
returns-in-Ok-clause-adds c =
    added c.args.json c.push_and_keep.result c.args.path.now c.args.text.now _ _ c.in-Ok.check c.in-Ok.ensures
    c.push_and_keep.ensures.adds

pub returns-in-Ok-clause-kept : goal.returns-in-Ok-clause-kept
returns-in-Ok-clause-kept c =
    kept_one c.push_and_keep.result _ _ _ _
    (script_is c.args.text.now c.in-Ok.check c.in-Ok.ensures) c.push_and_keep.ensures.kept

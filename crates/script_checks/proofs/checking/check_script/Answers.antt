use Rattle.script_checks.proofs.Numbering.{as_many}
use Rattle.script_checks.proofs.checking.check_script.Goals as goal

pub acting_lines-requires : goal.acting_lines-requires
acting_lines-requires c =
    rw (c.deref-2.ensures.value, c.deref.ensures.value)
    (as_many _ c.in_ok-texts.texts.items c.in_ok-readings.readings.items _ c.in_ok-readings.ensures
    c.in_ok-texts.ensures)

use Rattle.std.proofs.Common.{◌≡◌, ◌∙◌, map, sym}
use Rattle.thread_scripts.specs.Grammar.{readings_of}
use Rattle.thread_scripts.specs.Readings.{said}
use Rattle.thread_scripts.specs.Words.{lines_of}
use Rattle.script_checks.specs.Checks.{bad_from}
use Rattle.script_checks.proofs.Numbering.{front_within, rest_left, shown_front}
use Rattle.script_checks.proofs.checking.check_bad.Goals as goal

pub mistakes-requires : goal.mistakes-requires
mistakes-requires c =
    let bad : c.deref-3.result.now ≡ bad_from 1 (map said c.in_ok-readings.readings.items) =
    c.deref-3.ensures.value ∙ rw c.deref.ensures.value at c.in_ok-bad.ensures in
    rw c.deref-2.ensures.value
    (front_within _ c.in_ok-texts.texts.items c.in_ok-readings.readings.items _
    c.deref-3.result.now c.min-count.result c.in_ok-readings.ensures c.in_ok-texts.ensures
    bad)

pub returns : goal.returns
returns c =
    let says : map said c.in_ok-readings.readings.items ≡ readings_of (lines_of c.args.text.now) =
    c.in_ok-readings.ensures in
    let bad : c.deref-3.result.now ≡ bad_from 1 (readings_of (lines_of c.args.text.now)) =
    c.deref-3.ensures.value ∙ rw (c.deref.ensures.value, says) at c.in_ok-bad.ensures in
    record {
      first = c.requires.0;
      is = c.requires.1;
      shown_are = shown_front _ c.deref-3.result.now _ c.min-count.result c.len.result
          c.in_ok-mistakes.ensures.numbers bad
          (c.deref-3.ensures.len ∙ sym c.len.ensures) c.min-count.ensures;
      rest = rest_left c.deref-3.result.now _ c.min-count.result c.len.result c.len-2.result bad
          (c.deref-3.ensures.len ∙ sym c.len.ensures)
          (c.len-2.ensures ∙ sym c.len.ensures) c.min-count.ensures;
      columns = rw (
        c.deref-2.ensures.value,
        c.in_ok-texts.ensures,
      ) at c.in_ok-mistakes.ensures.columns;
    }

use Rattle.std.proofs.Common.{◌<◌, ap, arith, length, map, refl, rules}
use Rattle.std.proofs.lemmas.Option.{slice_get_within}
use Rattle.expectations.specs.Places.{calls_of}
use Rattle.minimiser.specs.declared.target.Came.{Came}
use Rattle.minimiser.specs.declared.target.Target.{Target}
use Rattle.minimiser.proofs.Threads.{row_within, unmet_here}
use Rattle.minimiser.proofs.finding.unmet_in.Goals as goal

pub returns-in_default-first : goal.returns-in_default-first
returns-in_default-first c =
    let script = c.in-Ok.script in
    record {
      calls = calls_of script (map (λ row. row.reply) c.args.rows.now);
      expectations = c.in-Ok-expectations_of.expectations.items;
      expects = record {
        script = script;
        is_script = c.in-Ok.ensures;
        are_calls = refl;
        are_expected = c.in-Ok-expectations_of.ensures.ok;
      };
      met = rw (c.in_default-first.is, c.deref.ensures.value) at c.in-Ok-first_unmet.ensures;
    }

pub index-unmet-requires : goal.index-unmet-requires
index-unmet-requires c =
    let first = rw c.in-Some.is at c.in-Ok-first_unmet.ensures in
    let here = first.here in
    let inside = slice_get_within c.deref.result.now c.in-Some.field-0.expectation here.expectation
    here.at in
    omega (arith, inside, c.deref.ensures.len)

pub bounds-rows-row : goal.bounds-rows-row
bounds-rows-row c =
    let first = rw c.in-Some.is at c.in-Ok-first_unmet.ensures in
    row_within c.in-Ok.script c.deref.result.now c.args.rows.now c.in-Some.field-0 first

pub offset_bounds-rows-row : goal.offset_bounds-rows-row
offset_bounds-rows-row c =
    let first = rw c.in-Some.is at c.in-Ok-first_unmet.ensures in
    let inside : c.in-Some.field-0.row < length c.args.rows.now =
    row_within c.in-Ok.script c.deref.result.now c.args.rows.now c.in-Some.field-0 first in
    search rules

pub returns : goal.returns
returns c =
    let first = rw (c.in-Some.is, c.deref.ensures.value) at c.in-Ok-first_unmet.ensures in
    let came = rw (← c.index-rows-row.is) at c.in_ok-came.ensures in
    let expectation = c.index-unmet.result.now in
    let made : Came → Target = λ (came : Came). record {
      place = record {
        thread = c.args.thread;
        call = expectation.call;
        line = expectation.line;
      };
      came = came;
    } in
    unmet_here c.args.sameness c.args.thread c.args.text.now c.args.rows.now c.in-Ok.script
    c.in-Ok-expectations_of.expectations.items c.in-Some.field-0 expectation
    c.index-rows-row.result (made c.in_ok-came.came) c.in-Ok.ensures
    c.in-Ok-expectations_of.ensures.ok first c.index-unmet.ensures c.index-rows-row.is
    (ap made came)

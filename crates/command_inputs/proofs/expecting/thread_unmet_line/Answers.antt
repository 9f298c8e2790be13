use Rattle.std.proofs.Common.{◌<◌, length, rules}
use Rattle.command_inputs.proofs.Unmets.{line_here, row_within}
use Rattle.command_inputs.proofs.expecting.thread_unmet_line.Goals as goal

pub bounds-rows-row : goal.bounds-rows-row
bounds-rows-row c =
    let first = rw c.in-Some.is at c.in-Ok-first_unmet.ensures in
    row_within c.in-Ok.script c.deref.result.now c.args.rows.now c.in-Some.field-0 first

pub offset_bounds-rows-row : goal.offset_bounds-rows-row
offset_bounds-rows-row c =
    let first = rw c.in-Some.is at c.in-Ok-first_unmet.ensures in
    let inside : c.in-Some.field-0.row < length c.args.rows.now =
    row_within c.in-Ok.script c.deref.result.now c.args.rows.now c.in-Some.field-0 first in
    search rules

pub returns : goal.returns
returns c =
    let found = rw (c.in-Some.is, c.deref.ensures.value) at c.in-Ok-first_unmet.ensures in
    let says = rw (← c.index-rows-row.is) at c.in_ok-text.ensures in
    line_here c.args.thread c.args.text.now c.args.rows.now c.in-Ok.script
    c.in-Ok-expectations_of.expectations.items c.in-Some.field-0 c.index-expectation.result.now
    c.index-rows-row.result c.in_ok-text.text
    c.in-Ok.ensures c.in-Ok-expectations_of.ensures.ok found c.index-expectation.ensures
    c.index-rows-row.is says

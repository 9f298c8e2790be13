use Rattle.std.proofs.Common.{rules, ◌≤◌, length}
use Rattle.explorer.specs.Delayed.{delayed, moved}
use Rattle.explorer.proofs.ReadOnce.{whole_lines}
use Rattle.explorer.proofs.read_script.delayed.Goals as goal

-- no line is left
pub returns : goal.returns
returns c =
    let lines = c.args.lines.now in
    let works = c.args.works.now in
    let past : length lines ≤ c.loop-place.place = search rules in
    whole_lines c.loop-place.all.items (delayed works lines) works lines (moved works)
    c.loop-place.place past c.loop-place.invariant

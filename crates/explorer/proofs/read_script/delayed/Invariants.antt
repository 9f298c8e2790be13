use Rattle.std.proofs.Common.{◌≡◌, ◌++◌, drop, map}
use Rattle.explorer.specs.Delayed.{delayed, moved, redirected, with_works}
use Rattle.explorer.proofs.read_script.delayed.Given as goal

-- the lines so far and those that are left, with their works, make up the whole
abbrev pub invariant-loop-place : goal.invariant-loop-place
invariant-loop-place l =
    l.all.items
    ++ with_works (drop l.place l.works) (map (redirected (moved l.works)) (drop l.place l.lines))
    ≡ delayed l.works l.lines

use Rattle.std.proofs.Common.{◌≡◌, ◌≢◌, All, length, take}
use Rattle.explorer.specs.Numbers.{number_of}
use Rattle.explorer.specs.declared.groups.Group.{Group}
use Rattle.explorer.proofs.groups.Groups.join.Given as goal

-- nothing has changed, and the groups so far saw something else
abbrev pub invariant-loop-i : goal.invariant-loop-i
invariant-loop-i l = record {
  kept : l.self ≡ l.initial.self;
  ends : l.i-end ≡ length l.self;
  its : l.number ≡ number_of l.observation.seen;
  others : All (λ (g : Group). g.observation ≢ l.observation) (take l.i l.self);
}

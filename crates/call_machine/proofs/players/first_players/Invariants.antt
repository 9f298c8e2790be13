use Rattle.std.proofs.Common.{◌≡◌, map}
use Rattle.call_machine.specs.Starting.{first_player}
use Rattle.call_machine.proofs.players.first_players.Given as goal

abbrev pub invariant-loop-script : goal.invariant-loop-script
invariant-loop-script l = l.players.items ≡ map first_player l.yielded

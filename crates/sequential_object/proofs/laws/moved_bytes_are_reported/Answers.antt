use Rattle.sequential_object.proofs.Turns.{again_moves_in_parts, moved_is_reported}
use Rattle.sequential_object.proofs.laws.moved_bytes_are_reported.Goals as goal

pub returns : goal.returns
returns c = record { again = again_moves_in_parts; reported = moved_is_reported }

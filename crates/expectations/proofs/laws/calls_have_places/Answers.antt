use Rattle.std.proofs.Common.{None, refl}
use Rattle.thread_scripts.specs.Meaning.{start_of}
use Rattle.expectations.proofs.CallPlaces.{all_calls}
use Rattle.expectations.proofs.laws.calls_have_places.Goals as goal

pub returns : goal.returns
returns c = λ script replies. all_calls c.script_stays.ensures script None (start_of script) replies refl

use Rattle.explorer.proofs.VariedCalls.{only_too_long, threads_calls}
use Rattle.explorer.proofs.laws.threads_make_calls.Goals as goal

pub returns-clause-calls : goal.returns-clause-calls
returns-clause-calls c = threads_calls

pub returns-clause-room : goal.returns-clause-room
returns-clause-room c = only_too_long

-- How far a script has come after one step more, and after its reply.
use Rattle.std.proofs.Common.{◌≡◌, ℕ, List, [], ◌∷◌, ◌++◌, length, Option, Some, None, refl}
use Rattle.posix_terms.specs.Calls.{Call}
use Rattle.posix_terms.specs.declared.reply.Reply.{Reply}
use Rattle.thread_scripts.specs.Meaning.{next_of}
use Rattle.posix_terms.specs.declared.step.Step.{Step}
use Rattle.posix_terms.specs.declared.step.Step.TheVariants as step
use Rattle.lock_model.specs.Runs.{calls_in}
use Rattle.thread_scripts.specs.ScriptPrograms.{Reached, reached_after, replies_behind, reply_to}

-- a script past its next step, with this reply to it
abbrev pub past : Option Reply → Reached → Reached
past reply at = record { last = reply; state = (next_of at.last at.state).1 }

pub reached_work : (at : Reached) (asked : List Step) (replies : List Reply) (n : ℕ)
    → reached_after at (asked ++ step.Work n ∷ []) replies ≡ past None (reached_after at asked replies)
reached_work at [] replies n = refl
reached_work at (x ∷ asked) replies n =
    reached_work (record { last = reply_to x replies; state = (next_of at.last at.state).1 }) asked
    (replies_behind x replies) n

pub reached_call : (at : Reached) (asked : List Step) (replies : List Reply) (c : Call) (r : Reply)
    → length replies ≡ calls_in asked
    → reached_after at (asked ++ step.Call c ∷ []) (replies ++ r ∷ []) ≡ past (Some r) (reached_after at asked replies)
reached_call at [] [] c r even = refl
reached_call at [] (q ∷ replies) c r even = cc
reached_call at (step.Work n ∷ asked) replies c r even =
    reached_call (record { last = None; state = (next_of at.last at.state).1 }) asked replies c r even
reached_call at (step.End ∷ asked) replies c r even =
    reached_call (record { last = None; state = (next_of at.last at.state).1 }) asked replies c r even
reached_call at (step.Call d ∷ asked) [] c r even = cc
reached_call at (step.Call d ∷ asked) (q ∷ replies) c r even =
    let less : length replies ≡ calls_in asked = cc in
    reached_call (record { last = Some q; state = (next_of at.last at.state).1 }) asked replies c r less

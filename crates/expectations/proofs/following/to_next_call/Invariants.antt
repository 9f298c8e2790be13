use Rattle.std.proofs.Common.{◌≡◌, option_copied}
use Rattle.thread_scripts.specs.Meaning.{lines_left}
use Rattle.expectations.specs.Places.{past_works}
use Rattle.expectations.proofs.following.to_next_call.Given as goal

-- the next step that is not a work is still to come
abbrev pub invariant-loop-last : goal.invariant-loop-last
invariant-loop-last l =
    past_works (option_copied l.last) l.actor ≡ past_works (option_copied l.fn.last) l.fn.actor

abbrev pub decreases-loop-last : goal.decreases-loop-last
decreases-loop-last l = lines_left l.actor

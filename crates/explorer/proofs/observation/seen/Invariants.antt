use Rattle.std.proofs.Common.{◌≡◌, ◌++◌, drop}
use Rattle.explorer.specs.Observations.{seen_of}
use Rattle.explorer.proofs.observation.seen.Given as goal

abbrev pub invariant-loop-transcript : goal.invariant-loop-transcript
invariant-loop-transcript l =
    l.threads.items ++ seen_of (drop l.transcript-index l.transcripts) ≡ seen_of l.transcripts

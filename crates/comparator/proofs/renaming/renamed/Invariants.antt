use Rattle.std.proofs.Common.{◌≡◌, ◌++◌, drop}
use Rattle.comparator.specs.Renaming.{renamed, renamed_threads}
use Rattle.comparator.proofs.renaming.renamed.Given as goal

abbrev pub invariant-loop-transcript : goal.invariant-loop-transcript
invariant-loop-transcript l =
    l.threads.items ++ renamed_threads l.names (drop l.transcript-index l.transcripts)
    ≡ renamed l.transcripts

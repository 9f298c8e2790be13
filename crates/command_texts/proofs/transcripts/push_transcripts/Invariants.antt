use Rattle.std.proofs.Common.{◌≡◌, ◌++◌, drop}
use Rattle.command_texts.specs.Transcripts.{transcripts_text}
use Rattle.command_texts.proofs.transcripts.push_transcripts.Given as goal

abbrev pub invariant-loop-thread : goal.invariant-loop-thread
invariant-loop-thread l =
    l.text.items ++ transcripts_text l.turns l.thread (drop l.thread l.transcripts)
    ≡ l.initial.text.items ++ transcripts_text l.turns 0 l.transcripts

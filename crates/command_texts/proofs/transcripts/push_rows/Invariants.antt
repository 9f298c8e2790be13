use Rattle.std.proofs.Common.{◌≡◌, ◌++◌, drop}
use Rattle.command_texts.specs.Transcripts.{rows_text}
use Rattle.command_texts.proofs.transcripts.push_rows.Given as goal

abbrev pub invariant-loop-number : goal.invariant-loop-number
invariant-loop-number l =
    l.text.items ++ rows_text l.turns l.thread l.number (drop l.number l.rows)
    ≡ l.initial.text.items ++ rows_text l.turns l.thread 0 l.rows

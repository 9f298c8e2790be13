use Rattle.std.proofs.Common.{◌≡◌, ◌+◌, ◌≤◌, drop}
use Rattle.input_log.specs.Grammar.{number_of}
use Rattle.replayer.proofs.unused.number_of.Given as goal

abbrev pub invariant-loop-record : goal.invariant-loop-record
invariant-loop-record l = (l.count + number_of l.thread (drop l.record-index l.records) ≡ number_of l.thread l.records)
    × (l.count ≤ l.record-index)

use Rattle.std.proofs.Common.{◌≡◌, drop}
use Rattle.run_views.specs.Found.{record_of}
use Rattle.run_views.proofs.found.record_of.Given as goal

-- the record is among those from here on
abbrev pub invariant-loop-record : goal.invariant-loop-record
invariant-loop-record l =
    record_of l.thread l.number (drop l.record-index l.records) ≡ record_of l.thread l.number l.records

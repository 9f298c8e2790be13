use Rattle.std.proofs.Common.{◌≡◌, ◌++◌, drop, string_bytes}
use Rattle.run_pictures.specs.Trace.{shown}
use Rattle.run_pictures.proofs.traces.printable.Given as goal

abbrev pub invariant-loop-byte : goal.invariant-loop-byte
invariant-loop-byte l = string_bytes l.text ++ shown (drop l.byte-index l.bytes) ≡ shown l.bytes

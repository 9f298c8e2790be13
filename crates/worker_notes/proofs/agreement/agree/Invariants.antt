use Rattle.std.proofs.Common.{◌≡◌, drop, length}
use Rattle.worker_notes.specs.Agrees.{Agree, AgreeFrom}
use Rattle.worker_notes.proofs.agreement.agree.Given as goal

abbrev pub invariant-loop-i : goal.invariant-loop-i
invariant-loop-i l = record {
  count : length l.asked ≡ length l.own;
  on : AgreeFrom l.i l.rows (drop l.i l.asked) (drop l.i l.own) → Agree l.rows l.asked l.own;
  back : Agree l.rows l.asked l.own → AgreeFrom l.i l.rows (drop l.i l.asked) (drop l.i l.own);
}

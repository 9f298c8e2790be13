-- What is known of the log at the front of a text.
use Rattle.std.proofs.Common.{◌≡◌, ℕ, List, length, true, inl, inr, arith}
use Rattle.call_machine.specs.Plain.{counts_fit}
use Rattle.machine.specs.Starting.{are_settings}
use Rattle.input_log.specs.Fronts.{IsFront}
use Rattle.input_log.specs.Grammar.{IsLog, in_range}
use Rattle.input_log.specs.declared.log.Header.{Header}
use Rattle.input_log.specs.declared.log.LogText.{LogText}
use Rattle.input_log.specs.declared.log.Record.{Record}
use Rattle.replayer.specs.Outcomes.{outcomes_by, settings_of}
use Rattle.replayer.proofs.ByThread.{outcomes_length}

pub front_is_log : (text : List ℕ) (log : LogText) → IsFront text log → IsLog log
front_is_log text log (inl whole) = record { range = whole.range; each_good = whole.each_good }
front_is_log text log (inr torn) = record { range = torn.spelled.range; each_good = torn.spelled.each_good }

-- a log has as many threads as can run together
pub threads_fit : (header : Header) (n : ℕ) (records : List Record) → in_range header ≡ true → header.threads ≡ n
    → counts_fit n (length (outcomes_by n records)) ≡ true
unfolding in_range
threads_fit header n records range is = rw (outcomes_length n records) (grind (arith, range, is))

-- under settings of a run
pub settings_fit : (header : Header) → in_range header ≡ true → are_settings (settings_of header) ≡ true
unfolding in_range
settings_fit header range = grind (arith, range)

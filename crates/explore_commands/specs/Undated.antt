-- Believed: a contract of a command stands on it.
-- The outcomes of a log for runs in which its calls come at other turns.
use Rattle.std.specs.Prelude.{ℕ, List, map}
use Rattle.std.specs.List.{range_with_len}
use Rattle.posix_terms.specs.Outcomes.{undated}
use Rattle.posix_terms.specs.declared.outcome.Given.{Given}
use Rattle.input_log.specs.Outcomes.{outcomes_of}
use Rattle.input_log.specs.declared.log.Record.{Record}

-- those of the first threads, so many
abbrev pub undated_outcomes : ℕ → List Record → List (List Given)
undated_outcomes threads records =
    map (λ thread. map undated (outcomes_of thread records)) (range_with_len 0 threads)

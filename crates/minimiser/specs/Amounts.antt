-- Believed: a contract of a command stands on it.
-- How much there is of scripts.
use Rattle.std.specs.Prelude.{ℕ, ◌+◌, List, length, sum_by, Option, Some, None}
use Rattle.thread_scripts.specs.Words.{lines_of}
use Rattle.minimiser.specs.Parts.{part_of, units_of}
use Rattle.minimiser.specs.declared.amounts.Amounts.{Amounts}
use Rattle.minimiser.specs.declared.part.Part.{Part}

-- how many delays a line is, by its units if it is one
abbrev pub delays_in : Option ℕ → ℕ
delays_in None = 0
delays_in (Some units) = 1

-- and how many units it has
abbrev pub units_in : Option ℕ → ℕ
units_in None = 0
units_in (Some units) = units

-- how many of these lines are delays
abbrev pub count_delays : List (List ℕ) → ℕ
count_delays lines = sum_by (λ line. delays_in (units_of (part_of line))) lines

-- how many units they have together
abbrev pub sum_units : List (List ℕ) → ℕ
sum_units lines = sum_by (λ line. units_in (units_of (part_of line))) lines

-- how much one thread with these lines is
abbrev pub amounts_in : List (List ℕ) → Amounts
amounts_in lines = record {
  threads = 1;
  lines = length lines;
  delays = count_delays lines;
  units = sum_units lines;
}

-- how much there is of the scripts with these texts
abbrev pub amounts_of : List (List ℕ) → Amounts
amounts_of texts = record {
  threads = length texts;
  lines = sum_by (λ text. length (lines_of text)) texts;
  delays = sum_by (λ text. count_delays (lines_of text)) texts;
  units = sum_by (λ text. sum_units (lines_of text)) texts;
}

-- how much a line is of which this is all
abbrev pub part_amounts : Part → Amounts
part_amounts part = record {
  threads = 0;
  lines = 1;
  delays = delays_in (units_of part);
  units = units_in (units_of part);
}

-- both together
abbrev pub plus : Amounts → Amounts → Amounts
plus first more = record {
  threads = first.threads + more.threads;
  lines = first.lines + more.lines;
  delays = first.delays + more.delays;
  units = first.units + more.units;
}

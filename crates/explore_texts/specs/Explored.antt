-- Believed: a contract of a command stands on it.
-- What is printed of runs with delays, and of cases.
use Rattle.std.specs.Prelude.{ℕ, List, [], ◌++◌, if◌then◌else◌}
use Rattle.command_texts.specs.declared.printed.Printed.{Printed}
use Rattle.explore_texts.specs.CaseTexts.{case_sums}
use Rattle.explore_texts.specs.Found.{found_lines, status_of, sums_text}
use Rattle.explore_texts.specs.FoundJson.{case_sums_json, sums_json}
use Rattle.explore_texts.specs.declared.explored_text.Shown.{Shown}
use Rattle.explore_texts.specs.declared.finding.Finding.{Finding}
use Rattle.explore_texts.specs.declared.schedule.Schedule.{Schedule}

-- the last line of so many runs with delays
abbrev pub last_line : Shown → Schedule → Finding → ℕ → List Finding → List ℕ
last_line shown schedule as_is runs findings =
    if shown.json
    then sums_json schedule runs (status_of shown.allowed as_is findings) findings
    else sums_text schedule runs findings

-- what is printed of them
abbrev pub explored_printed : Shown → Schedule → Finding → ℕ → List Finding → Printed
explored_printed shown schedule as_is runs findings = record {
  status = status_of shown.allowed as_is findings;
  output =
      found_lines shown as_is findings ++ last_line shown schedule as_is runs findings;
  errors = [];
}

-- the last line of cases
abbrev pub last_case_line : Shown → Finding → List Finding → List ℕ
last_case_line shown as_is findings =
    if shown.json
    then case_sums_json (status_of shown.allowed as_is findings) findings
    else case_sums findings

-- what is printed of the run by the log as it is and of these cases
abbrev pub cases_printed : Shown → Finding → List Finding → Printed
cases_printed shown as_is findings = record {
  status = status_of shown.allowed as_is findings;
  output = found_lines shown as_is findings ++ last_case_line shown as_is findings;
  errors = [];
}
